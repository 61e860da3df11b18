-- A list in which a stop is kept leaves a hall in a running state.
use Rattle.std.proofs.Common.{◌≡◌, ℕ, List, [], ◌∷◌, ◌++◌, refl, sym, ap, ◌∙◌, subst}
use Rattle.std.specs.Prelude.{Option, None, Some, slice_set}
use Rattle.std.specs.Option.{option_map}
use Rattle.std.proofs.lemmas.Option.{same_Some}
use mathlib.Core.List.{map-append}
use Rattle.play_rules.specs.declared.stop.Stop.{Stop}
use Rattle.dag_order.specs.declared.finish.Finish.{Finish}
use Rattle.play_rules.specs.declared.ends.RunEnd.{RunEnd}
use Rattle.play_rules.specs.declared.ends.RunEnd.TheVariants.{Finished, Stopped}
use Rattle.deque_machine.specs.Terms.{Terms, machine_of}
use Rattle.turn_table.specs.declared.look.Look.TheVariants.{Took}
use Rattle.turn_table.specs.Hands.{gave, renewed, without_slot}
use Rattle.turn_table.specs.Law.{PutKeeps}
use Rattle.turn_table.specs.Seats.{with_hand}
use Rattle.turn_table.proofs.Left.{left_of_one}
use Rattle.turn_table.specs.Backs.{unchanged}
use Rattle.hall_machine.specs.Values.{Hall, ListShown, End}
use Rattle.hall_machine.specs.Views.{View}
use Rattle.hall_machine.specs.Seats.{end_with, halted_with}
use Rattle.hall_machine.specs.State.{RunningState}
use Rattle.hall_machine.proofs.Quiet.{halting_goes_on}
use Rattle.hall_slots.specs.declared.event.Event.TheVariants.{Halted}
use Rattle.hall_slots.specs.declared.list_slot.ListSlot.{ListSlot}
use Rattle.hall_slots.specs.declared.seat_note.SeatNote.{SeatNote}
use Rattle.hall_slots.specs.declared.slot.Slot.{Slot}
use Rattle.hall_slots.specs.declared.slot.Slot.TheVariants as slots
use Rattle.hall_slots.specs.ListCalls.{end_kept}
use Rattle.hall_slots.specs.Shown.{list_shown, view_of, stop_shown, end_shown, told_shown}
use Rattle.hall_slots.specs.declared.key.HallKey.{HallKey}
use Rattle.hall_slots.specs.Keys.{terms_of}
use Rattle.hall_slots.specs.Law.{joined_note}
use Rattle.hall_slots.specs.Steps.{ListMayBecome}
use Rattle.hall_slots.specs.Takes.{HallSeat, IsTaken}
use Rattle.hall_slots.proofs.Keeping.{Whole}
use Rattle.hall_slots.proofs.Putting.{list_keeps}
use Rattle.hall_slots.specs.Halting.{IsInHall, halted_note, HoldsTheKept, PutsHalted, HasHalted}
use Rattle.hall_slots.proofs.Ends.{parts_sound}

-- the end that is kept now, as it is shown
pub shown_end : (o : Option RunEnd) (stop : Stop) → end_shown (end_kept o stop) ≡ end_with (option_map end_shown o) (stop_shown stop)
shown_end None stop = refl
shown_end (Some end) stop = refl

-- an end that was kept is the one that is kept, and a finish was kept before
pub kept_before : (o : Option RunEnd) (stop : Stop) (end : RunEnd) → o ≡ Some end → Some (end_kept o stop) ≡ Some end
kept_before o stop end is = ap (λ (x : Option RunEnd). Some (end_kept x stop)) is

pub finished_before : (o : Option RunEnd) (stop : Stop) (finish : Finish) → Some (end_kept o stop) ≡ Some (Finished finish) → o ≡ Some (Finished finish)
finished_before None stop finish is = absurd (ends_differ (same_Some (Stopped stop) (Finished finish) is))
  where
    if_stopped : RunEnd → Type 0
    if_stopped (Finished finish) = ⊥
    if_stopped (Stopped stop) = Unit {0}

    ends_differ : Stopped stop ≡ Finished finish → ⊥
    ends_differ e = subst if_stopped e tt
finished_before (Some end) stop finish is = is

-- the note of a seat that halted, as it is viewed
viewed : (note : SeatNote) (end : RunEnd) → view_of (halted_note note (Some end)) ≡ halted_with (view_of note) (end_shown end)
viewed note end = ap (λ mine. record (view_of note) { answered = Some (end_shown end); mine = mine }) (map-append told_shown note.mine (Halted end ∷ []))

module _ (key : HallKey) (seat : HallSeat) (here : IsInHall seat) (list : ListSlot) (has : HoldsTheKept seat list) where
  abbrev stop : Stop
  stop = has.stop

  abbrev end : RunEnd
  end = end_kept has.before.end stop

  abbrev kept : ListSlot
  kept = record has.before { end = Some end }

  abbrev note : SeatNote
  note = halted_note seat.hand.note (Some end)

  may_become : ListMayBecome key seat has.before kept note
  may_become c of h count views run is its = ∣ (
    run.0,
    run.1,
    run.2,
    subst (λ (z : Hall × List View). RunningState (machine_of c (terms_of key)) (Terms.limits (terms_of key)) z.0 run.0 run.1 run.2 count z.1)
        (λ k. (record { list = list_now k; pool = h.pool; lanes = h.lanes }, slice_set views seat.number (view_now k)))
        (halting_goes_on (machine_of c (terms_of key)) (Terms.limits (terms_of key)) h run.0 run.1 run.2 count views seat.number (view_of seat.hand.note) (stop_shown stop) run.3
        (record { noted = its; placed = here.placed; stays = here.stays }) (ap (option_map stop_shown) has.found)),
  ) ∣₁
    where
      kept_now : Some (end_with h.list.kept (stop_shown stop)) ≡ Some (end_shown end)
      kept_now = ap (λ (l : ListShown). Some (end_with l.kept (stop_shown stop))) is ∙ ap (λ (e : End). Some e) (sym (shown_end has.before.end stop))

      list_now : record h.list { crew = h.list.crew; kept = Some (end_with h.list.kept (stop_shown stop)) } ≡ list_shown kept
      list_now = λ k. record { places = ListShown.places (is k); crew = ListShown.crew (is k); waiting = ListShown.waiting (is k); results = ListShown.results (is k); closed = ListShown.closed (is k); begun = ListShown.begun (is k); kept = kept_now k }

      view_now : halted_with (view_of seat.hand.note) (end_with h.list.kept (stop_shown stop)) ≡ view_of note
      view_now = ap (halted_with (view_of seat.hand.note)) (same_Some (end_with h.list.kept (stop_shown stop)) (end_shown end) kept_now) ∙ sym (viewed seat.hand.note end)

  pub halt_keeps : PutKeeps Whole joined_note key seat 0 (slots.List list) (λ hand. halted_note hand.note list.end) unchanged
  halt_keeps = subst (λ (l : ListSlot). PutKeeps Whole joined_note key seat 0 (slots.List l) (λ hand. halted_note hand.note l.end) unchanged) (sym has.is)
      (list_keeps key seat has.before kept note has.holds (λ hand. halted_note hand.note (Some end)) refl here.placed may_become
      (λ shown notes two sound at mine. parts_sound key seat has.before kept note refl (kept_before has.before.end stop) refl (λ left memory. (left, memory)) (λ e is. is) (finished_before has.before.end stop) shown notes sound at mine))

-- a seat that took the list and kept its stop there holds this list
pub kept_held : (before after : HallSeat) (list now : ListSlot) (stop : Stop) (end : RunEnd) → IsTaken before 0 (slots.List list) after → before.hand.holds ≡ [] → before.hand.note.found ≡ Some stop
    → end ≡ end_kept list.end stop → now ≡ record list { end = Some end } → HoldsTheKept after now
kept_held before after list now stop end taken free found end_is is = record {
  before = list;
  stop = stop;
  holds = ap (λ (s : HallSeat). s.hand.holds) taken ∙ ap (λ (xs : List (ℕ × Slot)). (0, slots.List list) ∷ xs) free;
  found = ap (λ (s : HallSeat). s.hand.note.found) taken ∙ found;
  is = is ∙ ap (λ (e : RunEnd). record list { end = Some e }) end_is;
}

-- and once it has put it back it has halted
pub has_halted : (before middle after : HallSeat) (list now : ListSlot) (stop : Stop) (end : RunEnd) → IsTaken before 0 (slots.List list) middle → before.hand.holds ≡ [] → end ≡ end_kept list.end stop
    → now ≡ record list { end = Some end } → PutsHalted middle now after → HasHalted before stop end after
has_halted before middle after list now stop end taken free end_is is puts =
    let holds : renewed unchanged (without_slot 0 ((0, slots.List list) ∷ before.hand.holds)) ≡ [] = ap (λ (xs : List (ℕ × Slot)). renewed unchanged (without_slot 0 ((0, slots.List list) ∷ xs))) free ∙ left_of_one unchanged 0 0 (slots.List list) refl in
    let kept_now : now.end ≡ Some end = ap (λ (l : ListSlot). l.end) is in record {
      list = list;
      end_is = end_is;
      after_is = puts ∙ ap (λ (s : HallSeat). with_hand s (gave (λ hand. halted_note hand.note now.end) unchanged s.hand 0)) taken
          ∙ (λ k. with_hand before (record { seated = before.hand.seated; holds = holds k; note = halted_note before.hand.note (kept_now k); looks = before.hand.looks ++ Took 0 (slots.List list) ∷ [] }));
    }
