-- Lists that a seat puts back with what they showed.
use Rattle.std.proofs.Common.{◌≡◌, ℕ, List, [], ◌∷◌, map, refl, sym, ap, ◌∙◌, subst}
use Rattle.std.specs.Prelude.{Option, Some, slice_set}
use Rattle.std.specs.Option.{option_map}
use Rattle.atomic_table.proofs.Lists.{set_again}
use Rattle.thread_frames.specs.Kept.{waiting_shown, result_kept}
use Rattle.play_rules.specs.declared.ends.RunEnd.{RunEnd}
use Rattle.deque_machine.specs.Terms.{Terms, machine_of}
use Rattle.open_periods.specs.Periods.{closed_shown}
use Rattle.space_ledger.specs.BooksList.{books_list}
use Rattle.turn_table.specs.Law.{PutKeeps}
use Rattle.turn_table.specs.Backs.{still, unchanged}
use Rattle.hall_machine.specs.Values.{ListShown, End}
use Rattle.hall_machine.specs.Views.{View}
use Rattle.hall_machine.specs.Seats.{answered_with}
use Rattle.hall_machine.proofs.Halting.{answers_keep_crew}
use Rattle.hall_machine.specs.State.{RunningState}
use Rattle.hall_slots.specs.declared.list_slot.ListSlot.{ListSlot}
use Rattle.hall_slots.specs.declared.seat_note.SeatNote.{SeatNote}
use Rattle.hall_slots.specs.declared.slot.Slot.TheVariants as slots
use Rattle.hall_slots.specs.Shown.{list_shown, view_of, end_shown}
use Rattle.hall_slots.specs.declared.key.HallKey.{HallKey}
use Rattle.hall_slots.specs.Keys.{terms_of}
use Rattle.hall_slots.specs.Law.{joined_note}
use Rattle.hall_slots.specs.Sound.{EndIsSound}
use Rattle.hall_slots.specs.Steps.{ListMayBecome}
use Rattle.hall_slots.specs.Takes.{HallSeat, IsPlaced}
use Rattle.hall_slots.proofs.Keeping.{Whole}
use Rattle.hall_slots.proofs.Putting.{list_keeps}
use Rattle.hall_slots.proofs.Reading.{at_of_get, get_of_at}
use Rattle.turn_table.specs.declared.hand.Hand.{Hand}
use Rattle.turn_table.specs.Hands.{gave, renewed, without_slot}
use Rattle.turn_table.specs.Seats.{with_hand}
use Rattle.turn_table.proofs.Left.{left_of_one}
use Rattle.hall_slots.specs.declared.slot.Slot.{Slot}
use Rattle.hall_slots.specs.Lists.{answered_note, HoldsTheSame, HoldsTheEnd, Leaves}
use Rattle.hall_slots.proofs.Ends.{parts_sound}

-- a list with the same part shows the same, but for its crew and its end
pub shows_crew : (before list : ListSlot) (crew : List ℕ) (kept : Option End) → list.part ≡ before.part → list.crew.items ≡ crew → option_map end_shown list.end ≡ kept
    → list_shown list ≡ record (list_shown before) { crew = crew; kept = kept }
shows_crew before list crew kept part is end = λ k. record { places = (part k).order.places; crew = is k; waiting = map waiting_shown (part k).waiting.entries; results = map result_kept (part k).results.entries; closed = map closed_shown (books_list (part k).books); begun = (part k).begun; kept = end k }

-- a seat that put the list back holds nothing
pub leaves_of : (before after : HallSeat) (list : ListSlot) (pick : Hand Slot SeatNote → SeatNote) → before.hand.holds ≡ (0, slots.List list) ∷ []
    → after ≡ with_hand before (gave pick unchanged before.hand 0) → Leaves before (pick before.hand) after
leaves_of before after list pick holds is = is ∙ ap (λ (xs : List (ℕ × Slot)). with_hand before (record { seated = before.hand.seated; holds = xs; note = pick before.hand; looks = before.hand.looks }))
    (ap (λ (xs : List (ℕ × Slot)). renewed unchanged (without_slot 0 xs)) holds ∙ left_of_one unchanged 0 0 (slots.List list) refl)

module _ (key : HallKey) (seat : HallSeat) (placed : IsPlaced seat) (list : ListSlot) where
  -- it shows the same
  module _ (has : HoldsTheSame seat list) where
    same_may : ListMayBecome key seat has.before list seat.hand.note
    same_may c of h count views run is its = ∣ (
      run.0,
      run.1,
      run.2,
      subst (λ (z : ListShown × List View). RunningState (machine_of c (terms_of key)) (Terms.limits (terms_of key)) (record h { list = z.0 }) run.0 run.1 run.2 count z.1)
          (λ k. ((is ∙ sym (shows_crew has.before list has.before.crew.items (option_map end_shown has.before.end) has.part has.crew (ap (option_map end_shown) has.end))) k, sym (set_again views seat.number (view_of seat.hand.note) (at_of_get views seat.number (view_of seat.hand.note) its)) k)) run.3,
    ) ∣₁

    pub same_keeps : PutKeeps Whole joined_note key seat 0 (slots.List list) still unchanged
    same_keeps = list_keeps key seat has.before list seat.hand.note has.holds still refl placed same_may
        (λ shown notes two sound at mine. parts_sound key seat has.before list seat.hand.note has.part (λ e is. has.end ∙ is) refl (λ left memory. (left, memory))
        (λ e is. has.end ∙ EndIsSound.answered (sound.end has.before (get_of_at shown 0 (slots.List has.before) at)) seat.number seat.hand.note e (get_of_at notes seat.number seat.hand.note mine) is)
        (λ f is. sym has.end ∙ is) shown notes sound at mine)

  -- an end is kept, which the seat is answered
  module _ (has : HoldsTheEnd seat list) where
    abbrev pub told : SeatNote
    told = answered_note seat.hand.note list

    pub answered_may : ListMayBecome key seat list list told
    answered_may c of h count views run is its =
        let kept : h.list.kept ≡ Some (end_shown has.some.0) = ap (λ (l : ListShown). l.kept) is ∙ ap (option_map end_shown) has.some.1 in
        let viewed : answered_with (view_of seat.hand.note) (end_shown has.some.0) ≡ view_of told = ap (λ (o : Option RunEnd). record (view_of seat.hand.note) { answered = option_map end_shown o }) (sym has.some.1) in
        let now : RunningState (machine_of c (terms_of key)) (Terms.limits (terms_of key)) h run.0 run.1 run.2 count (slice_set views seat.number (answered_with (view_of seat.hand.note) (end_shown has.some.0))) =
        record { stands = run.3.stands; crew = (answers_keep_crew (machine_of c (terms_of key)) (Terms.limits (terms_of key)) h run.0 run.1 run.2 count views seat.number (view_of seat.hand.note) (end_shown has.some.0) run.3.crew its placed kept).0 } in
        ∣ (
          run.0,
          run.1,
          run.2,
          subst (λ (z : ListShown × View). RunningState (machine_of c (terms_of key)) (Terms.limits (terms_of key)) (record h { list = z.0 }) run.0 run.1 run.2 count (slice_set views seat.number z.1))
              (λ k. (is k, viewed k)) now,
        ) ∣₁

    pub answered_keeps : PutKeeps Whole joined_note key seat 0 (slots.List list) (λ hand. answered_note hand.note list) unchanged
    answered_keeps = list_keeps key seat list list told has.holds (λ hand. answered_note hand.note list) refl placed answered_may
        (λ shown notes two sound at mine. parts_sound key seat list list told refl (λ e is. is) refl (λ left memory. (left, memory)) (λ e is. is) (λ f is. is) shown notes sound at mine)
