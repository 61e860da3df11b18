-- What a seat that holds the list reads of the law there: its worker is named, and owns nothing if the seat owns no deque.
use Rattle.std.proofs.Common.{◌≡◌, ◌≢◌, ℕ, ◌+◌, ◌<◌, cond, false, List, [], ◌∷◌, map, inl, refl, sym, ap, ◌∙◌, subst, arith}
use Rattle.std.proofs.lemmas.Bool.{eq-eqb}
use Rattle.std.proofs.lemmas.Option.{none-some}
use Rattle.std.proofs.Math.Logic.{∥∥₁_elim}
use Rattle.std.specs.Prelude.{None, Some}
use denote.Struct.Props.{props}
use Rattle.depth_first_run.specs.States.{Setting}
use Rattle.deque_list.specs.declared.place.Place.{Place}
use Rattle.deque_machine.specs.Moments.{one_if_worker}
use Rattle.deque_machine.specs.Terms.{Terms, machine_of}
use Rattle.deque_machine.specs.Lists.{Among, Each, times}
use Rattle.deque_machine.proofs.Lists.{each_from}
use Rattle.turn_table.specs.Law.{Stands}
use Rattle.turn_table.specs.Notes.{HasAs, notes}
use Rattle.turn_table.proofs.NoteLaws.{notes_at}
use Rattle.turn_table.proofs.Standing.{shown_as}
use Rattle.hall_machine.specs.Values.{Hall, ListShown}
use Rattle.hall_machine.specs.Writing.{place_of}
use Rattle.hall_machine.specs.Views.{View, in_hall, one_if_in, one_if_its, stands_for}
use Rattle.hall_machine.specs.Crew.{SeatStands}
use Rattle.hall_machine.proofs.First.{is_in}
use Rattle.hall_machine.proofs.Notes.{total_at}
use Rattle.hall_machine.specs.State.{HallLaw}
use Rattle.hall_slots.specs.declared.list_slot.ListSlot.{ListSlot}
use Rattle.hall_slots.specs.declared.slot.Slot.{Slot}
use Rattle.hall_slots.specs.declared.slot.Slot.TheVariants as slots
use Rattle.hall_slots.specs.Shown.{view_of, value_of}
use Rattle.hall_slots.specs.declared.key.HallKey.{HallKey}
use Rattle.hall_slots.specs.Keys.{terms_of}
use Rattle.hall_slots.specs.Law.{joined_note}
use Rattle.hall_slots.specs.Steps.{hall_shown}
use Rattle.hall_slots.specs.Takes.{HallSeat, MeetsLaw}
use Rattle.hall_slots.proofs.Keeping.{Whole}
use Rattle.hall_slots.proofs.Lone.{noted_at}
use Rattle.hall_slots.proofs.Written.{list_at}
use Rattle.hall_slots.specs.Leaving.{IsIdle}

module _ (key : HallKey) (seat : HallSeat) (list : ListSlot) (placed : 0 < seat.hand.note.places) (stays : seat.hand.note.left ≡ false)
    (has : HasAs 0 (slots.List list) seat.hand.holds) (meets : MeetsLaw key seat) where
  st : Stands Whole joined_note key seat meets.0 meets.1 meets.2
  st = meets.3

  abbrev worker : ℕ
  worker = seat.hand.note.worker

  abbrev view : View
  view = view_of seat.hand.note

  shown_list : Hall.list (hall_shown meets.0) ≡ Rattle.hall_slots.specs.Shown.list_shown list
  shown_list = list_at meets.0 list (shown_as meets.0 0 (slots.List list) seat.hand.holds (st.fits.shows seat.number seat.hand st.mine) has)

  its_view : Rattle.std.specs.Prelude.slice_get (map view_of (notes meets.2)) seat.number ≡ Some view
  its_view = noted_at (notes meets.2) seat.number seat.hand.note (notes_at meets.2 seat.number seat.hand st.mine)

  module _ (c : Setting) (law : HallLaw (machine_of c (terms_of key)) (Terms.limits (terms_of key)) (map value_of meets.0) meets.1 (map view_of (notes meets.2))) where
    -- it stands for its worker, once
    named_by : 0 < times worker list.crew.items
    named_by =
        let one : one_if_its worker view ≡ 1 = ap (λ b. cond b (one_if_in view) 0) (eq-eqb worker worker refl) ∙ ap (in_hall view.places) stays ∙ is_in view.places placed in
        let sum : stands_for worker view ≡ one_if_its worker view + one_if_worker worker view.enters = refl in
        let all = total_at (stands_for worker) (map view_of (notes meets.2)) seat.number view its_view in
        let named : times worker (ListShown.crew (Hall.list (hall_shown meets.0))) ≡ Rattle.deque_machine.specs.Lists.total (stands_for worker) (map view_of (notes meets.2)) = law.state.crew.named worker in
        let same : times worker (ListShown.crew (Hall.list (hall_shown meets.0))) ≡ times worker list.crew.items = ap (λ (l : ListShown). times worker l.crew) shown_list in
        omega (arith, one, sum, all, named, same)

    unowned_by : seat.hand.note.deque ≡ None → (place : Place) → Among place list.part.order.places → place.owner ≢ Some worker
    unowned_by idle place there owner =
        let its = subst (λ (l : ListShown). Among (place_of place.id (Some worker)) l.places) (sym shown_list) (subst (λ o. Among (place_of place.id o) list.part.order.places) owner there) in
        none-some place.id (sym idle ∙ SeatStands.owned (law.state.crew.seats seat.number view its_view placed) stays place.id its)

  pub named_there : 0 < times worker list.crew.items
  named_there = ∥∥₁_elim st.kept.0.key_is.of_program (search props) (λ p. ∥∥₁_elim (st.kept.0.state p.0 p.1) (search props) (λ law. named_by p.0 law))

  unowned_there : seat.hand.note.deque ≡ None → Each (λ (place : Place). place.owner ≢ Some worker) list.part.order.places
  unowned_there idle = each_from (λ (place : Place). place.owner ≢ Some worker) list.part.order.places
      (λ place there owner. ∥∥₁_elim st.kept.0.key_is.of_program (λ x y. absurd x) (λ p. ∥∥₁_elim (st.kept.0.state p.0 p.1) (λ x y. absurd x) (λ law. unowned_by p.0 law idle place there owner)))

-- a seat that owns no deque and holds the list alone
module _ (key : HallKey) (seat : HallSeat) (list : ListSlot) (idle : IsIdle seat) (holds : seat.hand.holds ≡ (0, slots.List list) ∷ []) (meets : MeetsLaw key seat) where
  has_list : HasAs 0 (slots.List list) seat.hand.holds
  has_list = subst (HasAs 0 (slots.List list)) (sym holds) (inl (refl, refl))

  pub named_of : 0 < times seat.hand.note.worker list.crew.items
  named_of = named_there key seat list idle.placed idle.stays has_list meets

  pub unowned_of : Each (λ (place : Place). place.owner ≢ Some seat.hand.note.worker) list.part.order.places
  unowned_of = unowned_there key seat list idle.placed idle.stays has_list meets idle.idle
