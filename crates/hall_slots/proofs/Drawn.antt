-- A count keeps the law of a hall.
use Rattle.std.proofs.Common.{◌≡◌, ℕ, suc, ◌+◌, ◌*◌, ◌%◌, ◌^◌, ◌<◌, ◌≤◌, false, List, map, set, inl, inr, refl, sym, ap, ◌∙◌, subst, arith}
use Rattle.std.proofs.Math.Logic.{∥∥₁_elim, ∥∥₁_map}
use Rattle.std.specs.Prelude.{None, Some, nat_lt, slice_set}
use Rattle.std.specs.Option.{option_map}
use Rattle.std.proofs.lemmas.Bool.{cases_lt, lt-ltb, le-ltb, cond-true, cond-false, cond_both}
use Rattle.std.proofs.lemmas.Option.{none-some}
use denote.Struct.Props.{props}
use mathlib.Core.Option.{some}
use lib.ListN.{get_elem?}
use lib.Seq.{map-set}
use Rattle.depth_first_run.specs.States.{Setting}
use Rattle.depth_first_run.proofs.Built.{whole_is_depth_first}
use Rattle.deque_machine.specs.Terms.{Terms, machine_of}
use Rattle.thread_frames.specs.Passed.Settings.{IsSettingOf}
use Rattle.turn_table.specs.declared.look.Look.TheVariants.{Counted}
use Rattle.turn_table.specs.Law.{CountKeeps}
use Rattle.turn_table.specs.Notes.{CountMay}
use Rattle.turn_table.proofs.NoteLaws.{count_noted}
use Rattle.turn_table.proofs.Resting.{count_rests}
use Rattle.hall_machine.specs.Values.{no_memory}
use Rattle.hall_machine.specs.Views.{View}
use Rattle.hall_machine.proofs.Leaving.{counts_are_few}
use Rattle.hall_machine.specs.State.{IsIn, HallLaw}
use Rattle.hall_machine.proofs.Quiet.{counts_go_on}
use Rattle.hall_machine.proofs.Stops.{spent_counts_go_on}
use Rattle.hall_slots.specs.declared.seat_note.SeatNote.{SeatNote}
use Rattle.hall_slots.specs.declared.slot.Slot.{Slot}
use Rattle.hall_slots.specs.Shown.{view_of, value_of, stop_shown, end_shown}
use Rattle.hall_slots.specs.declared.key.HallKey.{HallKey}
use Rattle.hall_slots.specs.Keys.{table_of, quota_of, terms_of}
use Rattle.hall_slots.specs.Law.{HallHolds, places_of, joined_note}
use Rattle.hall_slots.specs.Sound.{EndIsSound}
use Rattle.hall_slots.specs.Steps.{hall_shown, IsRunning}
use Rattle.hall_slots.specs.Takes.{HallSeat}
use Rattle.hall_slots.proofs.Keeping.{Whole}
use Rattle.hall_slots.proofs.Lone.{noted_at}
use Rattle.hall_slots.proofs.Noting.{excused_set, answered_set, notes_sound}
use Rattle.hall_slots.proofs.Putting.{law_of}
use Rattle.hall_slots.proofs.Reading.{get_of_at}
use Rattle.hall_slots.specs.Counting.{counting_note, spent_note, drew, drew_by, MayDraw}

module _ (key : HallKey) (seat : HallSeat) (may : MayDraw seat) where
  abbrev limit : ℕ
  limit = key.actions

  abbrev view : View
  view = view_of seat.hand.note

  no_stop : view.found ≡ None
  no_stop = ap (option_map stop_shown) may.none

  module _ (shown : List Slot) (count : ℕ) (notes : List SeatNote) (holds : HallHolds key shown count notes) (mine : get_elem? notes seat.number ≡ some seat.hand.note) where
    is_in : IsIn (map view_of notes) seat.number view
    is_in = record { noted = noted_at notes seat.number seat.hand.note mine; placed = may.placed; stays = may.stays }

    -- the word is far from its end
    few : count ≤ limit + 2 * key.workers
    few = ∥∥₁_elim holds.key_is.of_program (search props) (λ p. ∥∥₁_elim (holds.state p.0 p.1) (search props)
        (λ law. counts_are_few (machine_of p.0 (terms_of key)) (Terms.limits (terms_of key)) (hall_shown shown) law.steps law.moment law.leads count (map view_of notes) law.state.crew))

    no_wrap : (count + 1) % 2 ^ 64 ≡ suc count
    no_wrap = let f = few in let a = holds.key_is.few_actions in let w = holds.key_is.few_workers in omega (arith, f, a, w)

    some_quota : (c : Setting) → IsSettingOf (table_of key) (quota_of key) c → 0 < c.quota
    some_quota c of = let same = IsSettingOf.quota of in let least = holds.key_is.quota in omega (arith, same, least)

    module _ (c : Setting) (of : IsSettingOf (table_of key) (quota_of key) c) (law : HallLaw (machine_of c (terms_of key)) (Terms.limits (terms_of key)) (map value_of shown) count (map view_of notes)) where
      running_below : count < limit → IsRunning (machine_of c (terms_of key)) (Terms.limits (terms_of key)) (hall_shown shown) (suc count) (slice_set (map view_of notes) seat.number (view_of (counting_note seat.hand.note)))
      running_below below = (
        law.steps,
        law.moment,
        law.leads,
        counts_go_on (machine_of c (terms_of key)) (Terms.limits (terms_of key)) (hall_shown shown) law.steps law.moment law.leads count (map view_of notes) seat.number view may.owns.0 law.state is_in may.free no_stop may.owns.1 below,
      )

      running_above : limit ≤ count → IsRunning (machine_of c (terms_of key)) (Terms.limits (terms_of key)) (hall_shown shown) (suc count) (slice_set (map view_of notes) seat.number (view_of (spent_note limit seat.hand.note)))
      running_above above = (
        law.steps,
        law.moment,
        law.leads,
        record {
          stands = law.state.stands;
          crew = (spent_counts_go_on (machine_of c (terms_of key)) (some_quota c of) (whole_is_depth_first c) (Terms.limits (terms_of key)) (hall_shown shown) law.steps law.moment law.leads count (map view_of notes)
              seat.number view may.owns.0 law.state is_in may.free no_stop may.owns.1 above).1;
        },
      )

    -- the law holds with one count more, where a seat in a running state notes this and its want of memory, if it noted one
    holds_with : (note : SeatNote) → note.worker ≡ seat.hand.note.worker → note.answered ≡ seat.hand.note.answered
        → (seat.hand.note.left ≡ false → View.found (view_of seat.hand.note) ≡ Some no_memory → (note.left ≡ false) × (View.found (view_of note) ≡ Some no_memory))
        → ((c : Setting) → IsSettingOf (table_of key) (quota_of key) c → HallLaw (machine_of c (terms_of key)) (Terms.limits (terms_of key)) (map value_of shown) count (map view_of notes)
        → IsRunning (machine_of c (terms_of key)) (Terms.limits (terms_of key)) (hall_shown shown) (suc count) (slice_set (map view_of notes) seat.number (view_of note)))
        → HallHolds key shown (suc count) (set notes seat.number note)
    holds_with note worker answered memory running = record {
      key_is = holds.key_is;
      sized = holds.sized;
      shaped = holds.shaped;
      state = λ c of. ∥∥₁_map (holds.state c of) (λ law. law_of key c shown (hall_shown shown) (suc count) (set notes seat.number note) (slice_set (map view_of notes) seat.number (view_of note)) refl
          (map-set view_of notes seat.number note) (running c of law));
      parts = notes_sound key shown notes (set notes seat.number note)
          (λ list first place there. excused_set notes seat.number seat.hand.note note mine (option_map end_shown list.end) place.owner worker memory)
          (λ list first. let was = EndIsSound.answered (holds.parts.end list first) in let here = get_of_at notes seat.number seat.hand.note mine in
          answered_set notes seat.number seat.hand.note note list.end here (λ e is. was seat.number seat.hand.note e here (sym answered ∙ is)) was)
          holds.parts;
    }

    holds_now : HallHolds key shown (suc count) (set notes seat.number (drew limit seat.hand.note count))
    holds_now = elim (cases_lt count limit) [
      | inl below ↦ subst (λ (n : SeatNote). HallHolds key shown (suc count) (set notes seat.number n))
          (sym (cond-true (nat_lt count limit) (counting_note seat.hand.note) (spent_note limit seat.hand.note) (lt-ltb count limit below)))
          (holds_with (counting_note seat.hand.note) refl refl (λ left memory. (left, memory)) (λ c of law. running_below c of law below))
      | inr above ↦ subst (λ (n : SeatNote). HallHolds key shown (suc count) (set notes seat.number n))
          (sym (cond-false (nat_lt count limit) (counting_note seat.hand.note) (spent_note limit seat.hand.note) (le-ltb count limit above)))
          (holds_with (spent_note limit seat.hand.note) refl refl (λ left memory. absurd (none-some no_memory (sym no_stop ∙ memory))) (λ c of law. running_above c of law above))
    ]

  count_may : CountMay HallHolds key seat (λ n. drew_by limit seat.hand.note (Counted n))
  count_may shown count notes holds long shows mine small =
      subst (λ n. HallHolds key shown n (set notes seat.number (drew limit seat.hand.note count))) (sym (no_wrap shown count notes holds mine)) (holds_now shown count notes holds mine)

  still_placed : (n : ℕ) → 0 < SeatNote.places (drew limit seat.hand.note n)
  still_placed n = cond_both (nat_lt n limit) (counting_note seat.hand.note) (spent_note limit seat.hand.note) (λ (note : SeatNote). 0 < note.places) (λ _. may.placed) (λ _. may.placed)

  pub count_keeps : CountKeeps Whole joined_note key seat (λ hand look. drew_by key.actions hand.note look)
  count_keeps = count_rests places_of HallHolds joined_note key seat (λ hand look. drew_by key.actions hand.note look) still_placed
      (count_noted HallHolds joined_note key seat (λ hand look. drew_by key.actions hand.note look) count_may)
