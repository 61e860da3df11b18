-- The parts stay sound where seats note something else, and nothing is put back.
use Rattle.std.proofs.Common.{◌≡◌, ℕ, List, map, set, inl, inr, refl, sym, ap, ◌∙◌, subst}
use Rattle.std.specs.Prelude.{Option, None, Some, false, slice_get, slice_set}
use Rattle.std.specs.Option.{option_map}
use Rattle.std.proofs.lemmas.Bool.{cases_eq}
use Rattle.std.proofs.lemmas.Option.{same_Some}
use mathlib.Core.Option.{some}
use lib.ListN.{get_elem?}
use lib.Seq.{map-set}
use Rattle.deque_list.specs.declared.place.Place.{Place}
use Rattle.deque_machine.specs.Lists.{Among}
use Rattle.deque_machine.proofs.Lists.{each_from}
use Rattle.open_periods.proofs.Lists.{set_same, set_other}
use Rattle.play_rules.specs.declared.ends.RunEnd.{RunEnd}
use Rattle.thread_frames.specs.declared.thread.Thread.{Thread}
use Rattle.thread_frames.specs.Points.{IsAtPoint}
use Rattle.hall_machine.specs.Views.{View}
use Rattle.hall_machine.specs.Values.{no_memory, End}
use Rattle.hall_machine.specs.Points.{IsExcused, AreAtPoints, StaysAtPoints}
use Rattle.hall_machine.proofs.Points.{points_go_on, excuses_stay}
use Rattle.hall_slots.specs.declared.list_slot.ListSlot.{ListSlot}
use Rattle.hall_slots.specs.declared.seat_note.SeatNote.{SeatNote}
use Rattle.hall_slots.specs.declared.slot.Slot.{Slot}
use Rattle.hall_slots.specs.declared.slot.Slot.TheVariants as slots
use Rattle.hall_slots.specs.Shown.{view_of, end_shown}
use Rattle.hall_slots.specs.declared.key.HallKey.{HallKey}
use Rattle.hall_slots.specs.Keys.{table_of, quota_of}
use Rattle.hall_slots.specs.Sound.{threads_of, thread_that_waits, ThreadsAreAtPoints, EndIsSound, PartsAreSound}
use Rattle.hall_slots.proofs.Lone.{noted_at}

-- ---- one seat notes something else

-- an owner whom this seat does not excuse is excused by another one still
pub excused_by_others : (views : List View) (seat : ℕ) (v w : View) (kept kept_now : Option End) (owner : Option ℕ) → slice_get views seat ≡ Some v
    → ((worker : ℕ) → owner ≡ Some worker → v.worker ≡ worker → v.left ≡ false → ⊥) → ((end : End) → kept ≡ Some end → kept_now ≡ Some end)
    → IsExcused views kept owner → IsExcused (slice_set views seat w) kept_now owner
excused_by_others views seat v w kept kept_now None is apart keeps excused = (excused.0, keeps excused.0 excused.1)
excused_by_others views seat v w kept kept_now (Some worker) is apart keeps excused = elim (cases_eq excused.0 seat) [
  | inr other ↦ (excused.0, excused.1, set_other views seat excused.0 w other ∙ excused.2, excused.3, excused.4, excused.5)
  | inl same ↦
      let its : excused.1 ≡ v = same_Some excused.1 v (sym excused.2 ∙ ap (slice_get views) same ∙ is) in
      absurd (apart worker refl (ap (λ (u : View). u.worker) (sym its) ∙ excused.3) (ap (λ (u : View). u.left) (sym its) ∙ excused.4))
]

module _ (notes : List SeatNote) (seat : ℕ) (was now : SeatNote) (mine : get_elem? notes seat ≡ some was) where
  -- each owner is excused still, where the seat notes its worker, and its want of memory if it noted one
  pub excused_set : (kept : Option End) (owner : Option ℕ) → now.worker ≡ was.worker
      → (was.left ≡ false → View.found (view_of was) ≡ Some no_memory → (now.left ≡ false) × (View.found (view_of now) ≡ Some no_memory))
      → IsExcused (map view_of notes) kept owner → IsExcused (map view_of (set notes seat now)) kept owner
  excused_set kept owner worker memory excused = subst (λ (vs : List View). IsExcused vs kept owner) (sym (map-set view_of notes seat now))
      (excuses_stay (map view_of notes) seat (view_of was) (view_of now) kept kept owner (noted_at notes seat was mine) worker memory (λ e is. is) excused)

-- an end that is noted as answered is kept, where the seat notes none, or one that is kept
pub answered_set : (notes : List SeatNote) (seat : ℕ) (was now : SeatNote) (kept : Option RunEnd) → slice_get notes seat ≡ Some was → ((end : RunEnd) → now.answered ≡ Some end → kept ≡ Some end)
    → ((i : ℕ) (m : SeatNote) (end : RunEnd) → slice_get notes i ≡ Some m → m.answered ≡ Some end → kept ≡ Some end)
    → (i : ℕ) (m : SeatNote) (end : RunEnd) → slice_get (set notes seat now) i ≡ Some m → m.answered ≡ Some end → kept ≡ Some end
answered_set notes seat was now kept mine its theirs i m end there is = elim (cases_eq i seat) [
  | inl same ↦ its end (ap (λ (n : SeatNote). n.answered) (same_Some now m (sym (set_same notes seat now was mine) ∙ ap (slice_get (set notes seat now)) (sym same) ∙ there)) ∙ is)
  | inr other ↦ theirs i m end (sym (set_other notes seat i now other) ∙ there) is
]

-- ---- Whoever is excused stays so, and each end that is noted as answered is kept: then the parts are sound.
module _ (key : HallKey) (shown : List Slot) (notes notes_now : List SeatNote)
    (excused : (list : ListSlot) → slice_get shown 0 ≡ Some (slots.List list) → (place : Place) → Among place list.part.order.places
    → IsExcused (map view_of notes) (option_map end_shown list.end) place.owner → IsExcused (map view_of notes_now) (option_map end_shown list.end) place.owner)
    (answered : (list : ListSlot) → slice_get shown 0 ≡ Some (slots.List list) → (i : ℕ) (m : SeatNote) (end : RunEnd) → slice_get notes_now i ≡ Some m → m.answered ≡ Some end → list.end ≡ Some end)
    (sound : PartsAreSound key shown notes) where
  abbrev At : Thread → Type 0
  At = IsAtPoint (table_of key) (quota_of key)

  points_now : (list : ListSlot) → slice_get shown 0 ≡ Some (slots.List list) → ThreadsAreAtPoints key shown notes_now list
  points_now list first = let kept = option_map end_shown list.end in
      points_go_on At (map view_of notes) (map view_of notes_now) kept kept list.part.order.places list.part.order.places (threads_of shown) (threads_of shown)
      (map thread_that_waits list.part.waiting.entries) (map thread_that_waits list.part.waiting.entries) (sound.points list first)
      (each_from (StaysAtPoints At (map view_of notes) (map view_of notes_now) kept kept list.part.order.places (threads_of shown) (threads_of shown)) list.part.order.places
      (λ (place : Place) there. inr (place.owner, there, refl, excused list first place there)))
      (AreAtPoints.that_wait (sound.points list first))

  pub notes_sound : PartsAreSound key shown notes_now
  notes_sound = record {
    pool = sound.pool;
    list = sound.list;
    points = points_now;
    lanes = sound.lanes;
    end = λ list first. record { answered = answered list first; finished = EndIsSound.finished (sound.end list first) };
  }
