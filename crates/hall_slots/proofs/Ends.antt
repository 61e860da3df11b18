-- The parts stay sound where the list keeps an end and a seat notes something else.
use Rattle.std.proofs.Common.{◌≡◌, ◌≢◌, suc-ne-zero, ℕ, suc, List, map, set, inr, refl, sym, ap, ◌∙◌, subst}
use Rattle.std.specs.Prelude.{Option, None, Some, false, slice_get}
use Rattle.std.specs.Option.{option_map}
use Rattle.std.proofs.lemmas.Option.{same_Some, none-some}
use mathlib.Core.Option.{some}
use lib.ListN.{get_elem?}
use lib.Seq.{map-set}
use Rattle.thread_frames.specs.Kept.{WaitsUnder, IsUnderItsId}
use Rattle.dag_order.specs.Births.{root}
use Rattle.dag_order.specs.declared.finish.Finish.{Finish}
use Rattle.deque_list.specs.declared.place.Place.{Place}
use Rattle.thread_frames.specs.Roots.{end_of_root}
use Rattle.play_rules.specs.declared.ends.RunEnd.{RunEnd}
use Rattle.play_rules.specs.declared.ends.RunEnd.TheVariants.{Finished}
use Rattle.deque_machine.specs.Lists.{Among, Each}
use Rattle.deque_machine.proofs.Lists.{each_from, each_map}
use Rattle.list_changes.specs.declared.list_part.ListPart.{ListPart}
use Rattle.open_periods.proofs.Lists.{set_same, set_other}
use Rattle.thread_map.specs.Kept.{kept_under}
use Rattle.thread_frames.specs.declared.thread.Thread.{Thread}
use Rattle.thread_frames.specs.declared.ended.Ended.{Ended}
use Rattle.thread_frames.specs.Points.{IsAtPoint, IsResult}
use Rattle.hall_machine.specs.Views.{View}
use Rattle.hall_machine.specs.Values.{no_memory, End}
use Rattle.hall_machine.specs.Points.{IsExcused, AreAtPoints, StaysAtPoints}
use Rattle.hall_machine.proofs.Points.{points_go_on, excuses_stay}
use Rattle.hall_slots.specs.declared.slot.Slot.{Slot}
use Rattle.hall_slots.specs.declared.slot.Slot.TheVariants as slots
use Rattle.hall_slots.specs.declared.list_slot.ListSlot.{ListSlot}
use Rattle.hall_slots.specs.declared.lane_slot.LaneSlot.{LaneSlot}
use Rattle.hall_slots.specs.declared.seat_note.SeatNote.{SeatNote}
use Rattle.hall_slots.specs.Shown.{view_of, end_shown}
use Rattle.hall_slots.specs.declared.key.HallKey.{HallKey}
use Rattle.hall_slots.specs.Keys.{table_of, quota_of}
use Rattle.hall_slots.specs.Sound.{threads_in, threads_of, IsLaneOf, thread_that_waits, ListIsSound, ThreadsAreAtPoints, LanesAreInUse, EndIsSound, PartsAreSound}
use Rattle.hall_slots.specs.Takes.{HallSeat}
use Rattle.hall_slots.proofs.Reading.{IfList, get_of_at}
use Rattle.hall_slots.proofs.Lone.{noted_at}
use Rattle.hall_slots.proofs.Noting.{answered_set}

-- what is kept stays shown
pub kept_more : (o now : Option RunEnd) → ((end : RunEnd) → o ≡ Some end → now ≡ Some end) → (shown : End) → option_map end_shown o ≡ Some shown → option_map end_shown now ≡ Some shown
kept_more None now keeps shown is = absurd (none-some shown is)
kept_more (Some end) now keeps shown is = ap (option_map end_shown) (keeps end refl) ∙ is

module _ (key : HallKey) (seat : HallSeat) (before after : ListSlot) (note : SeatNote) (part : after.part ≡ before.part) (keeps : (end : RunEnd) → before.end ≡ Some end → after.end ≡ Some end)
    (answered : (end : RunEnd) → note.answered ≡ Some end → after.end ≡ Some end) (finished : (finish : Finish) → after.end ≡ Some (Finished finish) → before.end ≡ Some (Finished finish))
    (shown : List Slot) (notes : List SeatNote) (sound : PartsAreSound key shown notes) (at : get_elem? shown 0 ≡ some (slots.List before)) (mine : get_elem? notes seat.number ≡ some seat.hand.note)
    (excused : (place : Place) → Among place before.part.order.places → IsExcused (map view_of notes) (option_map end_shown before.end) place.owner
    → IsExcused (map view_of (set notes seat.number note)) (option_map end_shown after.end) place.owner) where
  abbrev shown_now : List Slot
  shown_now = set shown 0 (slots.List after)

  abbrev notes_now : List SeatNote
  notes_now = set notes seat.number note

  first : slice_get shown 0 ≡ Some (slots.List before)
  first = get_of_at shown 0 (slots.List before) at

  first_now : slice_get shown_now 0 ≡ Some (slots.List after)
  first_now = set_same shown 0 (slots.List after) (slots.List before) first

  later_same : (i : ℕ) → slice_get shown_now (suc i) ≡ slice_get shown (suc i)
  later_same i = set_other shown 0 (suc i) (slots.List after) (λ e. suc-ne-zero i e)

  list_sound : ListIsSound key after
  list_sound = let s = sound.list before first in record {
    most = ap (λ (p : ListPart Thread Ended). p.order.most) part ∙ s.most;
    waiting = subst (λ (p : ListPart Thread Ended). Each WaitsUnder p.waiting.entries) (sym part) s.waiting;
    under_ids = subst (λ (p : ListPart Thread Ended). Each IsUnderItsId p.results.entries) (sym part) s.under_ids;
    results = subst (λ (p : ListPart Thread Ended). Each (λ entry. IsResult (table_of key) (quota_of key) entry.1) p.results.entries) (sym part) s.results;
  }

  abbrev At : Thread → Type 0
  At = IsAtPoint (table_of key) (quota_of key)

  points_sound : ThreadsAreAtPoints key shown_now notes_now after
  points_sound = points_go_on At (map view_of notes) (map view_of notes_now) (option_map end_shown before.end) (option_map end_shown after.end) before.part.order.places after.part.order.places
      (threads_of shown) (threads_of shown_now) (map thread_that_waits before.part.waiting.entries) (map thread_that_waits after.part.waiting.entries) (sound.points before first)
      (each_from (StaysAtPoints At (map view_of notes) (map view_of notes_now) (option_map end_shown before.end) (option_map end_shown after.end) before.part.order.places (threads_of shown) (threads_of shown_now)) after.part.order.places
      (λ place there. let was = subst (λ (p : ListPart Thread Ended). Among place p.order.places) part there in
      inr (place.owner, was, ap threads_in (later_same (suc place.id.0)), excused place was)))
      (subst (λ (p : ListPart Thread Ended). Each At (map thread_that_waits p.waiting.entries)) (sym part) (AreAtPoints.that_wait (sound.points before first)))

  lanes_sound : LanesAreInUse shown_now after
  lanes_sound = let s = sound.lanes before first in record {
    spare = λ id lane apart is. s.spare id lane (subst (λ (p : ListPart Thread Ended). Each (λ (place : Place). place.id ≢ id) p.order.places) part apart) (sym (later_same (suc id.0)) ∙ is);
    unowned = each_map (λ (place : Place). (lane : LaneSlot) → place.owner ≡ None → IsLaneOf shown place.id lane → lane.running ≡ None)
        (λ (place : Place). (lane : LaneSlot) → place.owner ≡ None → IsLaneOf shown_now place.id lane → lane.running ≡ None) after.part.order.places
        (λ place there unowned lane owner is. unowned lane owner (sym (later_same (suc place.id.0)) ∙ is))
        (subst (λ (p : ListPart Thread Ended). Each (λ (place : Place). (lane : LaneSlot) → place.owner ≡ None → IsLaneOf shown place.id lane → lane.running ≡ None) p.order.places) (sym part) s.unowned);
  }

  end_sound : EndIsSound notes_now after
  end_sound = record {
    answered = answered_set notes seat.number seat.hand.note note after.end (get_of_at notes seat.number seat.hand.note mine) answered (λ i m end there is. keeps end (EndIsSound.answered (sound.end before first) i m end there is));
    finished = λ finish is. ap (λ (p : ListPart Thread Ended). end_of_root (kept_under p.results root)) part ∙ EndIsSound.finished (sound.end before first) finish (finished finish is);
  }

  pub sound_by_excuses : PartsAreSound key shown_now notes_now
  sound_by_excuses = record {
    pool = λ pool is. sound.pool pool (sym (later_same 0) ∙ is);
    list = λ list is. subst (IfList (ListIsSound key)) (same_Some (slots.List after) (slots.List list) (sym first_now ∙ is)) list_sound;
    points = λ list is. subst (IfList (ThreadsAreAtPoints key shown_now notes_now)) (same_Some (slots.List after) (slots.List list) (sym first_now ∙ is)) points_sound;
    lanes = λ list is. subst (IfList (LanesAreInUse shown_now)) (same_Some (slots.List after) (slots.List list) (sym first_now ∙ is)) lanes_sound;
    end = λ list is. subst (IfList (EndIsSound notes_now)) (same_Some (slots.List after) (slots.List list) (sym first_now ∙ is)) end_sound;
  }

-- So it is where the seat notes its worker, and its want of memory if it noted one.
module _ (key : HallKey) (seat : HallSeat) (before after : ListSlot) (note : SeatNote) (part : after.part ≡ before.part) (keeps : (end : RunEnd) → before.end ≡ Some end → after.end ≡ Some end)
    (worker : note.worker ≡ seat.hand.note.worker)
    (memory : seat.hand.note.left ≡ false → View.found (view_of seat.hand.note) ≡ Some no_memory → (note.left ≡ false) × (View.found (view_of note) ≡ Some no_memory))
    (answered : (end : RunEnd) → note.answered ≡ Some end → after.end ≡ Some end) (finished : (finish : Finish) → after.end ≡ Some (Finished finish) → before.end ≡ Some (Finished finish))
    (shown : List Slot) (notes : List SeatNote) (sound : PartsAreSound key shown notes) (at : get_elem? shown 0 ≡ some (slots.List before)) (mine : get_elem? notes seat.number ≡ some seat.hand.note) where
  excused_now : (place : Place) → Among place before.part.order.places → IsExcused (map view_of notes) (option_map end_shown before.end) place.owner
      → IsExcused (map view_of (set notes seat.number note)) (option_map end_shown after.end) place.owner
  excused_now place there excused = subst (λ (vs : List View). IsExcused vs (option_map end_shown after.end) place.owner) (sym (map-set view_of notes seat.number note))
      (excuses_stay (map view_of notes) seat.number (view_of seat.hand.note) (view_of note) (option_map end_shown before.end) (option_map end_shown after.end) place.owner
      (noted_at notes seat.number seat.hand.note mine) worker memory (kept_more before.end after.end keeps) excused)

  pub parts_sound : PartsAreSound key (set shown 0 (slots.List after)) (set notes seat.number note)
  parts_sound = sound_by_excuses key seat before after note part keeps answered finished shown notes sound at mine excused_now
