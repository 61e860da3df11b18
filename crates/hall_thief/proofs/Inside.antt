-- Each deque of the list that a seat holds has its lane in a slot.
use Rattle.std.proofs.Common.{◌≡◌, ℕ, ◌+◌, ◌<◌, ◌≤◌, List, [], ◌∷◌, map, length, ap, ◌∙◌, subst, arith}
use Rattle.std.proofs.Math.Logic.{∥∥₁_elim}
use Rattle.std.proofs.lemmas.List.{length-map}
use Rattle.std.specs.Prelude.{Some, slice_get}
use denote.Struct.Props.{props}
use Rattle.depth_first_run.specs.States.{Setting}
use Rattle.deque_list.specs.declared.place.Place.{Place}
use Rattle.hall_thief.specs.HallNames.{Terms, machine_of, notes, Hall, ListShown, lane_in, ListSlot, Slot, value_of, view_of, HallKey, terms_of, HallSeat}
use Rattle.hall_thief.specs.HallNames.{MeetsLaw}
use Rattle.hall_slots.proofs.Passed.Notes.{each_get}
use Rattle.turn_table.specs.Hands.{Shows}
use Rattle.turn_table.specs.Law.{Stands}
use Rattle.hall_slots.specs.Passed.Standing.{HasLane}
use Rattle.hall_slots.specs.Passed.State.{HallLaw}
use Rattle.hall_slots.specs.declared.slot.Slot.TheVariants as slots
use Rattle.hall_slots.specs.Law.{joined_note}
use Rattle.hall_slots.specs.Steps.{hall_shown}
use Rattle.hall_slots.proofs.Keeping.{Whole}
use Rattle.hall_slots.proofs.Written.{list_at}

-- there are two slots more than lanes
lanes_and_two : (shown : List Slot) → 2 ≤ length shown → length (Hall.lanes (hall_shown shown)) + 2 ≡ length shown
lanes_and_two [] long = absurd (omega (arith, long))
lanes_and_two (a ∷ []) long = absurd (omega (arith, long))
lanes_and_two (a ∷ b ∷ lanes) long = let one = length-map (map value_of lanes) lane_in in let two = length-map lanes value_of in omega (arith, one, two)

module _ (key : HallKey) (seat : HallSeat) (list : ListSlot) (holds : seat.hand.holds ≡ (0, slots.List list) ∷ []) (meets : MeetsLaw key seat) where
  st : Stands Whole joined_note key seat meets.0 meets.1 meets.2
  st = meets.3

  shown_list : Hall.list (hall_shown meets.0) ≡ Rattle.hall_slots.specs.Shown.list_shown list
  shown_list = list_at meets.0 list (subst (λ (xs : List (ℕ × Slot)). Shows meets.0 xs) holds (st.fits.shows seat.number seat.hand st.mine)).0

  inside_by : (c : Setting) → HallLaw (machine_of c (terms_of key)) (Terms.limits (terms_of key)) (map value_of meets.0) meets.1 (map view_of (notes meets.2)) → (at : ℕ) (place : Place)
      → slice_get list.part.order.places at ≡ Some place → place.id.0 < length (Hall.lanes (hall_shown meets.0))
  inside_by c law at place there = HasLane.inside (each_get (HasLane (Hall.lanes (hall_shown meets.0))) (ListShown.places (Hall.list (hall_shown meets.0))) at place law.state.stands.shape.lanes
      (ap (λ (l : ListShown). slice_get l.places at) shown_list ∙ there))

  pub slot_inside : (at : ℕ) (place : Place) → slice_get list.part.order.places at ≡ Some place → place.id.0 + 2 < seat.table.slots
  slot_inside at place there =
      let below : place.id.0 < length (Hall.lanes (hall_shown meets.0)) = ∥∥₁_elim st.kept.0.key_is.of_program (search props) (λ p. ∥∥₁_elim (st.kept.0.state p.0 p.1) (search props) (λ law. inside_by p.0 law at place there)) in
      let long = st.fits.long in let sized = st.kept.0.sized in
      let two = lanes_and_two meets.0 (omega (arith, sized)) in omega (arith, below, long, two)
