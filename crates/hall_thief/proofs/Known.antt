-- What a thief knows by the law of the list and of the lanes that it holds.
use Rattle.std.proofs.Common.{◌≡◌, ◌≢◌, ℕ, ◌+◌, ◌<◌, ◌≤◌, List, [], ◌∷◌, ◌++◌, map, length, refl, sym, ap, ◌∙◌, arith}
use Rattle.std.proofs.Math.Logic.{∥∥₁_elim}
use Rattle.std.specs.Prelude.{None, Some, slice_get}
use Rattle.std.specs.Option.{option_map}
use Rattle.std.proofs.lemmas.Option.{slice_get-map}
use mathlib.Core.Option.{some}
use lib.ListN.{get_elem?}
use Rattle.depth_first_list.specs.Actions.{record_words}
use Rattle.depth_first_run.specs.States.{Setting}
use Rattle.hall_thief.specs.HallNames.{DequeId, Terms, machine_of, HasAs, notes, Hall, LaneShown, ListShown, deque_at, HallKey, LaneSlot, ListSlot, Slot}
use Rattle.hall_thief.specs.HallNames.{quota_of, terms_of, value_of, view_of, ListIsSound, LanesAreInUse, HallSeat, MeetsLaw}
use Rattle.deque_list.specs.declared.place.Place.{Place}
use Rattle.deque_list.specs.Ids.{IsSmallestFree, place_ids}
use Rattle.hall_slots.specs.Passed.Moments.{Moment, Deque}
use Rattle.hall_slots.proofs.Passed.DequeMachineLists.{each_map}
use Rattle.moment_shown.specs.Parts as parts
use Rattle.hall_slots.specs.Passed.Thread.{Thread}
use Rattle.hall_slots.specs.Passed.Shown.{thread_shown}
use Rattle.turn_table.specs.Hands.{Has, Shows}
use Rattle.turn_table.specs.Law.{Stands}
use Rattle.turn_table.proofs.Standing.{held_within, shown_as}
use Rattle.hall_slots.specs.Passed.Writing.{lane_slot}
use Rattle.hall_slots.specs.Passed.State.{HallLaw}
use Rattle.hall_slots.proofs.Passed.Notes.{each_get}
use Rattle.hall_slots.specs.declared.slot.Slot.TheVariants as slots
use Rattle.hall_slots.specs.Law.{HallHolds, joined_note}
use Rattle.hall_slots.specs.Steps.{hall_shown}
use Rattle.hall_slots.proofs.Keeping.{Whole}
use Rattle.hall_slots.proofs.Reading.{get_of_at}
use Rattle.hall_slots.proofs.Written.{list_at, lane_shown_at}
use Rattle.hall_thief.proofs.Slots.{slot_is}
use Rattle.hall_thief.proofs.Stolen.{free_of}

-- a list that is not empty
pub some_item : {X : Type 0} (xs : List X) → (xs ≡ [] → ⊥) → (x : X) × (rest : List X) × (xs ≡ x ∷ rest)
some_item [] never = absurd (never refl)
some_item (x ∷ xs) never = (x, xs, refl)

module _ (key : HallKey) (seat : HallSeat) (meets : MeetsLaw key seat) where
  st : Stands Whole joined_note key seat meets.0 meets.1 meets.2
  st = meets.3

  abbrev shown : List Slot
  shown = meets.0

  holds : HallHolds key shown meets.1 (notes meets.2)
  holds = st.kept.0

  shows : Shows shown seat.hand.holds
  shows = st.fits.shows seat.number seat.hand st.mine

  pub key_quota : record_words ≤ quota_of key
  key_quota = holds.key_is.quota

  -- a lane that it holds is in a slot
  pub lane_inside : (id : DequeId) → Has (id.0 + 2) seat.hand.holds → id.0 + 2 < seat.table.slots
  lane_inside id has = let inside = held_within shown (id.0 + 2) seat.hand.holds shows has in let long = st.fits.long in omega (arith, inside, long)

  module _ (list : ListSlot) (held : HasAs 0 (slots.List list) seat.hand.holds) where
    first : get_elem? shown 0 ≡ some (slots.List list)
    first = shown_as shown 0 (slots.List list) seat.hand.holds shows held

    -- as many deques may be as the key says
    pub most_is : list.part.order.most ≡ key.deques
    most_is = ListIsSound.most (holds.parts.list list (get_of_at shown 0 (slots.List list) first))

    -- so a free deque has a slot
    pub id_inside : (id : DequeId) → id.0 < list.part.order.most → id.0 + 2 < seat.table.slots
    id_inside id low = let most = most_is in let sized = holds.sized in let long = st.fits.long in omega (arith, low, most, sized, long)

    -- its lane is empty
    pub free_is_empty : (id : DequeId) (new : LaneSlot) → IsSmallestFree (place_ids list.part.order.places) id → HasAs (id.0 + 2) (slots.Lane new) seat.hand.holds → (new.lane.items ≡ []) × (new.running ≡ None)
    free_is_empty id new next its = LanesAreInUse.spare (holds.parts.lanes list (get_of_at shown 0 (slots.List list) first)) id new
        (each_map (λ (place : Place). place.id.0 ≢ id.0) (λ (place : Place). place.id ≢ id) list.part.order.places (λ place there apart same. apart (ap (λ (d : DequeId). d.0) same))
        (free_of list.part.order.places id next))
        (get_of_at shown (lane_slot id) (slots.Lane new) (ap (get_elem? shown) (sym (slot_is id.0)) ∙ shown_as shown (id.0 + 2) (slots.Lane new) seat.hand.holds shows its))

    -- the lane of a deque of the list has a thread
    module _ (place : ℕ) (victim : Place) (lane : LaneSlot) (there : slice_get list.part.order.places place ≡ Some victim) (its : HasAs (victim.id.0 + 2) (slots.Lane lane) seat.hand.holds) where
      own : get_elem? shown (lane_slot victim.id) ≡ some (slots.Lane lane)
      own = ap (get_elem? shown) (sym (slot_is victim.id.0)) ∙ shown_as shown (victim.id.0 + 2) (slots.Lane lane) seat.hand.holds shows its

      deque_is : (c : Setting) (law : HallLaw (machine_of c (terms_of key)) (Terms.limits (terms_of key)) (map value_of shown) meets.1 (map view_of (notes meets.2)))
          → slice_get (Moment.deques law.moment) place ≡ Some (parts.deque_shown (deque_at (Hall.lanes (hall_shown shown)) victim))
      deque_is c law = ap (λ ds. slice_get ds place) law.state.stands.standing.shows.deques
          ∙ slice_get-map parts.deque_shown (map (deque_at (Hall.lanes (hall_shown shown))) (ListShown.places (Hall.list (hall_shown shown)))) place
          ∙ ap (option_map parts.deque_shown) (slice_get-map (deque_at (Hall.lanes (hall_shown shown))) (ListShown.places (Hall.list (hall_shown shown))) place
          ∙ ap (option_map (deque_at (Hall.lanes (hall_shown shown)))) (ap (λ (l : ListShown). slice_get l.places place) (list_at shown list first) ∙ there))

      never_empty : (c : Setting) → HallLaw (machine_of c (terms_of key)) (Terms.limits (terms_of key)) (map value_of shown) meets.1 (map view_of (notes meets.2)) → lane.lane.items ≡ [] → ⊥
      never_empty c law empty = each_get (λ (d : Deque). d.threads ≢ []) (Moment.deques law.moment) place (parts.deque_shown (deque_at (Hall.lanes (hall_shown shown)) victim))
          law.state.stands.standing.lawful.order.none_empty (deque_is c law)
          (ap (λ (l : LaneShown). map parts.label_of l.threads) (lane_shown_at shown victim.id lane own) ∙ ap (λ (xs : List Thread). map parts.label_of (map thread_shown xs)) empty)

      pub some_thread : lane.lane.items ≡ [] → ⊥
      some_thread empty = ∥∥₁_elim holds.key_is.of_program (λ x y. absurd x) (λ p. ∥∥₁_elim (holds.state p.0 p.1) (λ x y. absurd x) (λ law. never_empty p.0 law empty))

      -- and if it has one, this alone
      pub one_thread : length lane.lane.items < 2 → (thread : Thread) × (lane.lane.items ≡ thread ∷ [])
      one_thread few = let cut = some_item lane.lane.items some_thread in (cut.0, cut.2 ∙ ap (λ (xs : List Thread). cut.0 ∷ xs) (none_left cut.1 (let many = ap length cut.2 in omega (arith, few, many))))
        where
          none_left : (xs : List Thread) → length xs < 1 → xs ≡ []
          none_left [] few = refl
          none_left (x ∷ xs) few = absurd (omega (arith, few))

-- a list of two at least has a last item after its first
last_of : {X : Type 0} (x : X) (xs : List X) → (others : List X) × (last : X) × (x ∷ xs ≡ others ++ last ∷ [])
last_of x [] = ([], x, refl)
last_of x (y ∷ ys) = let rest = last_of y ys in (x ∷ rest.0, rest.1, ap (λ zs. x ∷ zs) rest.2)

pub first_and_last : {X : Type 0} (xs : List X) → 2 ≤ length xs → (first : X) × (others : List X) × (last : X) × (xs ≡ first ∷ (others ++ last ∷ []))
first_and_last [] two = absurd (omega (arith, two))
first_and_last (x ∷ []) two = absurd (omega (arith, two))
first_and_last (x ∷ y ∷ ys) two = let rest = last_of y ys in (x, rest.0, rest.1, ap (λ zs. x ∷ zs) rest.2)
