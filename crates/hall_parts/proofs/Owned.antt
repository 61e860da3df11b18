-- The deque of a seat is in the list, nobody else has it, and no run has finished while it is there.
use Rattle.std.proofs.Common.{◌≡◌, ◌≢◌, ℕ, ◌<◌, List, [], ◌∷◌, ◌++◌, map, inl, inr, refl, sym, ap, ◌∙◌, subst}
use Rattle.std.proofs.Math.Logic.{∥∥₁_elim}
use Rattle.std.specs.Option.{option_map}
use Rattle.std.specs.Prelude.{Option, None, Some}
use Rattle.std.proofs.lemmas.Bool.{cases_eq}
use Rattle.std.proofs.lemmas.Option.{none-some, same_Some}
use mathlib.Core.Option.{some}
use lib.ListN.{get_elem?}
use Rattle.dag_order.specs.declared.finish.Finish.{Finish}
use Rattle.hall_parts.specs.HallNames.{DequeId, ListSlot, SeatNote, Slot, value_of, view_of, end_shown, HallKey, terms_of, Setting, Terms, machine_of, Hall}
use Rattle.hall_parts.specs.HallNames.{ListShown, finished}
use Rattle.deque_list.specs.declared.place.Place.{Place}
use Rattle.play_rules.specs.declared.ends.RunEnd.TheVariants.{Finished}
use Rattle.hall_slots.specs.Passed.Lists.{Among, Each}
use Rattle.hall_slots.proofs.Passed.DequeMachineLists.{each_among, among_middle}
use Rattle.hall_slots.specs.Passed.Crew.{SeatStands}
use Rattle.hall_slots.specs.Passed.Writing.{place_of}
use Rattle.hall_slots.proofs.Passed.Lanes.{IsElsewhere, apart}
use Rattle.hall_slots.specs.Passed.State.{HallLaw}
use Rattle.hall_slots.specs.declared.slot.Slot.TheVariants as slots
use Rattle.hall_slots.specs.Law.{HallHolds}
use Rattle.hall_slots.specs.Steps.{hall_shown}
use Rattle.hall_slots.proofs.Lone.{noted_at}
use Rattle.hall_slots.proofs.Written.{list_at}

-- what is among others has some to its left and some to its right
pub record Split {X : Type 0} (x : X) (xs : List X) : Type 0 where
  pub left : List X
  pub right : List X
  pub is : xs ≡ left ++ x ∷ right

pub split : {X : Type 0} (x : X) (xs : List X) → Among x xs → Split x xs
split x [] among = absurd among
split x (y ∷ xs) (inl here) = record { left = []; right = xs; is = ap (λ z. z ∷ xs) (sym here) }
split x (y ∷ xs) (inr later) = let rest = split x xs later in record { left = y ∷ rest.left; right = rest.right; is = ap (λ zs. y ∷ zs) rest.is }

-- an owner is that of the place, or there is a contradiction
owner_or : (o : Option ℕ) (worker : ℕ) → (o ≢ Some worker → ⊥) → o ≡ Some worker
owner_or None worker never = absurd (never (λ e. none-some worker e))
owner_or (Some n) worker never = elim (cases_eq n worker) [
  | inl same ↦ ap (λ (k : ℕ). Some k) same
  | inr other ↦ absurd (never (λ e. other (same_Some n worker e)))
]

-- nothing is in an empty list
none_among : {X : Type 0} (x : X) (xs : List X) → Among x xs → xs ≡ [] → ⊥
none_among x xs among empty = subst (Among x) empty among

module _ (key : HallKey) (shown : List Slot) (count : ℕ) (notes : List SeatNote) (holds : HallHolds key shown count notes) (seat : ℕ) (note : SeatNote)
    (mine : get_elem? notes seat ≡ some note) (placed : 0 < note.places) (deque : DequeId) (owns : note.deque ≡ Some deque) (list : ListSlot)
    (first : get_elem? shown 0 ≡ some (slots.List list)) where
  -- whatever cannot be at the moment where the hall stands cannot be
  never : ((c : Setting) (law : HallLaw (machine_of c (terms_of key)) (Terms.limits (terms_of key)) (map value_of shown) count (map view_of notes)) → ⊥) → ⊥
  never refuse = ∥∥₁_elim holds.key_is.of_program (λ a b. absurd a) (λ program. ∥∥₁_elim (holds.state program.0 program.1) (λ a b. absurd a) (λ law. refuse program.0 law))

  module _ (c : Setting) (law : HallLaw (machine_of c (terms_of key)) (Terms.limits (terms_of key)) (map value_of shown) count (map view_of notes)) where
    its_place : Among (place_of deque (Some note.worker)) list.part.order.places
    its_place = subst (λ places. Among (place_of deque (Some note.worker)) places) (ap (λ l. l.places) (list_at shown list first))
        (SeatStands.owns (law.state.crew.seats seat (view_of note) (noted_at notes seat note mine) placed) deque owns)

    alone : (p : Place) → Among p list.part.order.places → p.id.0 ≡ deque.0 → p.owner ≢ Some note.worker → ⊥
    alone p among same other =
        let cut = split (place_of deque (Some note.worker)) list.part.order.places its_place in
        let others = apart (machine_of c (terms_of key)) (hall_shown shown) law.moment law.state.stands.standing.lawful law.state.stands.standing.shows
        cut.left (place_of deque (Some note.worker)) cut.right (ap (λ l. l.places) (list_at shown list first) ∙ cut.is) in
        elim (among_middle p cut.left (place_of deque (Some note.worker)) cut.right (subst (λ places. Among p places) cut.is among)) [
          | inl is ↦ other (ap (λ q. Place.owner q) is)
          | inr there ↦ each_among (IsElsewhere deque.0) p (cut.left ++ cut.right) others there same
        ]

    unended : (finish : Finish) → list.end ≡ Some (Finished finish) → ⊥
    unended finish is =
        let kept : ListShown.kept (Hall.list (hall_shown shown)) ≡ Some finished = ap (λ l. l.kept) (list_at shown list first) ∙ ap (option_map end_shown) is in
        none_among (place_of deque (Some note.worker)) list.part.order.places its_place
        (sym (ap (λ l. l.places) (list_at shown list first)) ∙ (law.state.crew.kept finished kept).1)

  -- its deque is in the list
  pub is_listed : Each (λ place. place.id ≢ deque) list.part.order.places → ⊥
  is_listed others = never (λ c law. each_among (λ place. place.id ≢ deque) (place_of deque (Some note.worker)) list.part.order.places others (its_place c law) refl)

  -- and is its worker's
  pub is_its : (p : Place) → Among p list.part.order.places → p.id.0 ≡ deque.0 → p.owner ≡ Some note.worker
  is_its p among same = owner_or p.owner note.worker (λ other. never (λ c law. alone c law p among same other))

  -- and no run has finished
  pub is_open : (finish : Finish) → list.end ≡ Some (Finished finish) → ⊥
  is_open finish is = never (λ c law. unended c law finish is)
