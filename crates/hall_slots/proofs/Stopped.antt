-- A list in which a stop is kept leaves a hall in a running state.
use Rattle.std.proofs.Common.{◌≡◌, ℕ, ◌<◌, ◌≤◌, List, [], ◌∷◌, map, length, set, refl, sym, ap, ◌∙◌, subst, arith, length-set}
use Rattle.std.proofs.Math.Logic.{∥∥₁_map}
use Rattle.std.specs.Prelude.{Option, None, Some, slice_set}
use Rattle.std.specs.Option.{option_map}
use Rattle.std.proofs.lemmas.Option.{none-some}
use mathlib.Core.Option.{some}
use lib.ListN.{get_elem?}
use lib.Seq.{map-set}
use Rattle.depth_first_run.specs.States.{Setting}
use Rattle.deque_machine.specs.Terms.{Terms, machine_of}
use Rattle.thread_frames.specs.Passed.Settings.{IsSettingOf}
use Rattle.play_rules.specs.declared.stop.Stop.{Stop}
use Rattle.play_rules.specs.declared.ends.RunEnd.{RunEnd}
use Rattle.play_rules.specs.declared.ends.RunEnd.TheVariants.{Stopped}
use Rattle.turn_table.specs.declared.hand.Hand.{Hand}
use Rattle.turn_table.specs.Hands.{Shows, showing, without_slot, renewed}
use Rattle.turn_table.specs.Law.{PutKeeps}
use Rattle.turn_table.specs.Notes.{PutMay}
use Rattle.turn_table.proofs.Hands.{showing_again, shows_without}
use Rattle.turn_table.proofs.NoteLaws.{put_writes}
use Rattle.turn_table.proofs.Standing.{shown_as}
use Rattle.turn_table.specs.Backs.{unchanged}
use Rattle.turn_table.proofs.Resting.{put_rests}
use Rattle.hall_machine.specs.Values.{Hall, ListShown, no_memory}
use Rattle.hall_machine.specs.Views.{View}
use Rattle.hall_machine.specs.Seats.{end_with, with_crew, finding}
use Rattle.hall_machine.specs.State.{HallLaw}
use Rattle.hall_machine.proofs.Quiet.{kept_stops_go_on}
use Rattle.hall_slots.specs.declared.list_slot.ListSlot.{ListSlot}
use Rattle.hall_slots.specs.declared.seat_note.SeatNote.{SeatNote}
use Rattle.hall_slots.specs.declared.slot.Slot.{Slot}
use Rattle.hall_slots.specs.declared.slot.Slot.TheVariants as slots
use Rattle.hall_slots.specs.ListCalls.{end_kept}
use Rattle.hall_slots.specs.Shown.{list_shown, value_of, view_of, stop_shown, end_shown}
use Rattle.hall_slots.specs.declared.key.HallKey.{HallKey}
use Rattle.hall_slots.specs.Keys.{table_of, quota_of, terms_of}
use Rattle.hall_slots.specs.Law.{HallHolds, places_of, joined_note}
use Rattle.hall_slots.specs.Sound.{EndIsSound, PartsAreSound}
use Rattle.hall_slots.specs.Steps.{hall_shown}
use Rattle.hall_slots.specs.Takes.{HallSeat}
use Rattle.hall_slots.proofs.Keeping.{Whole}
use Rattle.hall_slots.proofs.Lone.{noted_at}
use Rattle.hall_slots.proofs.Putting.{law_of, shaped_set}
use Rattle.hall_slots.proofs.Reading.{get_of_at}
use Rattle.hall_slots.proofs.Written.{list_written, list_at}
use Rattle.hall_slots.proofs.Ends.{parts_sound}
use Rattle.hall_slots.proofs.Halts.{finished_before}
use Rattle.hall_slots.specs.Stopping.{found_note, MayStop, HoldsTheStopped, MemoryNeedsNoCause}

pub memory_needs_no_cause : MemoryNeedsNoCause
memory_needs_no_cause key seat c of shown shows steps m leads count views state its = tt

-- ---- one slot is written, and the others that the seat holds show what they showed

renewed_same : (xs : List (ℕ × Slot)) → renewed unchanged xs ≡ xs
renewed_same [] = refl
renewed_same (x ∷ xs) = λ k. (x.0, x.1) ∷ renewed_same xs k

pub written_alone : (shown : List Slot) (slot : ℕ) (value : Slot) (held : List (ℕ × Slot)) → Shows shown held → showing shown ((slot, value) ∷ renewed unchanged (without_slot slot held)) ≡ set shown slot value
written_alone shown slot value held shows = ap (λ (us : List Slot). set us slot value)
    (ap (showing shown) (renewed_same (without_slot slot held)) ∙ showing_again shown (without_slot slot held) (shows_without shown slot held shows))

module _ (key : HallKey) (seat : HallSeat) (before : ListSlot) (stop : Stop) (may : MayStop key seat before stop) where
  abbrev after : ListSlot
  after = record before { end = Some (Stopped stop) }

  abbrev note : SeatNote
  note = found_note seat.hand.note stop

  abbrev view : View
  view = view_of seat.hand.note

  module _ (shown : List Slot) (count : ℕ) (notes : List SeatNote) (holds : HallHolds key shown count notes) (shows : Shows shown seat.hand.holds) (mine : get_elem? notes seat.number ≡ some seat.hand.note) where
    at : get_elem? shown 0 ≡ some (slots.List before)
    at = shown_as shown 0 (slots.List before) seat.hand.holds shows may.holds

    two : 2 ≤ length shown
    two = let sized = holds.sized in omega (arith, sized)

    abbrev h : Hall
    h = hall_shown shown

    abbrev h_now : Hall
    h_now = with_crew h (ListShown.crew h.list) (Some (end_with (ListShown.kept h.list) (stop_shown stop)))

    list_now : record h.list { crew = ListShown.crew h.list; kept = Some (end_with (ListShown.kept h.list) (stop_shown stop)) } ≡ list_shown after
    list_now = ap (λ (l : ListShown). record l { kept = Some (end_with l.kept (stop_shown stop)) }) (list_at shown before at)
        ∙ ap (λ (o : Option RunEnd). record (list_shown before) { kept = Some (end_with (option_map end_shown o) (stop_shown stop)) }) may.no_end

    law_now : (c : Setting) → IsSettingOf (table_of key) (quota_of key) c → HallLaw (machine_of c (terms_of key)) (Terms.limits (terms_of key)) (map value_of shown) count (map view_of notes)
        → HallLaw (machine_of c (terms_of key)) (Terms.limits (terms_of key)) (map value_of (set shown 0 (slots.List after))) count (map view_of (set notes seat.number note))
    law_now c of law =
        let its = noted_at notes seat.number seat.hand.note mine in
        law_of key c (set shown 0 (slots.List after)) h_now count (set notes seat.number note) (slice_set (map view_of notes) seat.number (finding view (stop_shown stop)))
        (list_written shown after two ∙ ap (λ (l : ListShown). record (hall_shown shown) { list = l }) (sym list_now)) (map-set view_of notes seat.number note) (
          law.steps,
          law.moment,
          law.leads,
          kept_stops_go_on (machine_of c (terms_of key)) (Terms.limits (terms_of key)) h law.steps law.moment law.leads count (map view_of notes) seat.number view (stop_shown stop) law.state
              (record { noted = its; placed = may.placed; stays = may.stays }) may.free (ap (option_map stop_shown) may.none)
              (may.cause c of shown shows law.steps law.moment law.leads count (map view_of notes) law.state its),
        )

    parts_now : PartsAreSound key (set shown 0 (slots.List after)) (set notes seat.number note)
    parts_now = parts_sound key seat before after note refl (λ e is. absurd (none-some e (sym may.no_end ∙ is))) refl
        (λ left memory. absurd (none-some no_memory (sym (ap (option_map stop_shown) may.none) ∙ memory)))
        (λ e is. absurd (none-some e (sym may.no_end ∙ EndIsSound.answered (holds.parts.end before (get_of_at shown 0 (slots.List before) at)) seat.number seat.hand.note e (get_of_at notes seat.number seat.hand.note mine) is)))
        (λ f is. may.no_end ∙ finished_before None stop f is) shown notes holds.parts at mine

    holds_now : HallHolds key (set shown 0 (slots.List after)) count (set notes seat.number note)
    holds_now = record {
      key_is = holds.key_is;
      sized = length-set shown 0 (slots.List after) ∙ holds.sized;
      shaped = shaped_set shown 0 (slots.List after) holds.shaped refl;
      state = λ c of. ∥∥₁_map (holds.state c of) (law_now c of);
      parts = parts_now;
    }

  stopped_may : PutMay HallHolds key seat 0 (slots.List after) unchanged note
  stopped_may shown count notes holds long shows mine = subst (λ (xs : List Slot). HallHolds key xs count (set notes seat.number note))
      (sym (written_alone shown 0 (slots.List after) seat.hand.holds shows)) (holds_now shown count notes holds shows mine)

  stopped_keeps : (pick : Hand Slot SeatNote → SeatNote) → pick seat.hand ≡ note → PutKeeps Whole joined_note key seat 0 (slots.List after) pick unchanged
  stopped_keeps pick is = put_rests places_of HallHolds joined_note key seat 0 (slots.List after) pick unchanged (subst (λ (n : SeatNote). 0 < n.places) (sym is) may.placed)
      (put_writes HallHolds joined_note key seat 0 (slots.List after) pick unchanged (subst (λ (n : SeatNote). PutMay HallHolds key seat 0 (slots.List after) unchanged n) (sym is) stopped_may))

-- so it is with the list that the seat holds
pub held_keeps : (key : HallKey) (seat : HallSeat) (list : ListSlot) (note : SeatNote) → HoldsTheStopped key seat list note → (pick : Hand Slot SeatNote → SeatNote) → pick seat.hand ≡ note
    → PutKeeps Whole joined_note key seat 0 (slots.List list) pick unchanged
held_keeps key seat list noted has pick is = subst (λ (l : ListSlot). PutKeeps Whole joined_note key seat 0 (slots.List l) pick unchanged) (sym has.list_is)
    (stopped_keeps key seat has.before has.stop has.may pick (is ∙ has.note_is))

-- the list that the seat holds once the stop is kept there
pub held_of : (key : HallKey) (seat : HallSeat) (list now : ListSlot) (stop : Stop) (end : RunEnd) → MayStop key seat list stop → end ≡ end_kept list.end stop → now ≡ record list { end = Some end }
    → HoldsTheStopped key seat now (found_note seat.hand.note stop)
held_of key seat list now stop end may kept is = record {
  before = list;
  stop = stop;
  may = may;
  list_is = is ∙ ap (λ (e : RunEnd). record list { end = Some e }) (kept ∙ ap (λ (o : Option RunEnd). end_kept o stop) may.no_end);
  note_is = refl;
}
