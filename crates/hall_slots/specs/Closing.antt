-- What comes out of a hall that is closed.
use Rattle.std.specs.Prelude.{◌≡◌, ℕ, ◌<◌, false, Option, None, Some, List, [], ◌∷◌, ◌++◌, slice_get}
use mathlib.Core.Option.{some}
use lib.ListN.{get_elem?}
use Rattle.dag_order.specs.Births.{root}
use Rattle.dag_order.specs.declared.finish.Finish.{Finish}
use Rattle.depth_first_run.specs.States.{Setting}
use Rattle.deque_machine.specs.Moments.{Moment}
use Rattle.deque_machine.specs.Terms.{Terms, machine_of}
use Rattle.deque_machine.specs.Lists.{Each}
use Rattle.play_rules.specs.declared.ends.RunEnd.{RunEnd}
use Rattle.play_rules.specs.declared.ends.RunEnd.TheVariants.{Finished}
use Rattle.thread_map.specs.Kept.{kept_under}
use Rattle.thread_frames.specs.Roots.{end_of_root}
use Rattle.thread_frames.specs.Passed.Settings.{IsSettingOf}
use Rattle.turn_table.specs.declared.look.Look.TheVariants.{Took}
use Rattle.turn_table.specs.Seats.{with_hand}
use Rattle.hall_machine.specs.Values.{Hall}
use Rattle.hall_machine.specs.Steps.{Step, Leads}
use Rattle.hall_machine.specs.Views.{View}
use Rattle.hall_machine.specs.State.{RunningState}
use Rattle.hall_machine.specs.Closing.{GivesOneRun}
use Rattle.hall_slots.specs.declared.list_slot.ListSlot.{ListSlot}
use Rattle.hall_slots.specs.declared.pool_slot.PoolSlot.{PoolSlot}
use Rattle.hall_slots.specs.declared.seat_note.SeatNote.{SeatNote}
use Rattle.hall_slots.specs.declared.slot.Slot.{Slot}
use Rattle.hall_slots.specs.declared.slot.Slot.TheVariants as slots
use Rattle.hall_slots.specs.Shown.{list_shown, pool_shown, view_of, end_shown}
use Rattle.hall_slots.specs.declared.key.HallKey.{HallKey}
use Rattle.hall_slots.specs.Keys.{table_of, quota_of, terms_of}
use Rattle.hall_slots.specs.Law.{HallHolds}
use Rattle.hall_slots.specs.Sound.{PoolIsSound, ListIsSound}
use Rattle.hall_slots.specs.Takes.{HallSeat, HasAllPlaces}

-- the note of a seat that saw this end kept, or none
abbrev pub seen_note : SeatNote → Option RunEnd → SeatNote
seen_note note None = note
seen_note note (Some end) = record note { answered = Some end }

-- It took the list, which keeps this end or none, and holds nothing.
abbrev pub HasSeen : HallSeat → Option RunEnd → HallSeat → Type 0
HasSeen before end after = (list : ListSlot) × (list.end ≡ end) × (after ≡ with_hand before (record {
  seated = before.hand.seated;
  holds = [];
  note = seen_note before.hand.note end;
  looks = before.hand.looks ++ Took 0 (slots.List list) ∷ [];
}))

-- a seat that has the places of all workers, and owns no deque
pub record MayClose (key : HallKey) (seat : HallSeat) : Type 0 where
  pub placed : 0 < seat.hand.note.places
  pub all : HasAllPlaces key seat
  pub idle : seat.hand.note.deque ≡ None

-- the list, the pool, and then others
abbrev pub BeginWithTwo : List Slot → Type 0
BeginWithTwo shown =
    (list : ListSlot) × (pool : PoolSlot) × (lanes : List Slot) × (shown ≡ slots.List list ∷ slots.Pool pool ∷ lanes)

-- This list and this pool are in the slots where the law holds last.
pub record AreLast (key : HallKey) (seat : HallSeat) (list : ListSlot) (pool : PoolSlot) : Type 0 where
  pub lanes : List Slot
  pub count : ℕ
  pub notes : List SeatNote
  pub holds : HallHolds key (slots.List list ∷ slots.Pool pool ∷ lanes) count notes
  pub mine : get_elem? notes seat.number ≡ some seat.hand.note

-- Some steps lead to a moment where a hall with this list and this pool is in a running state and the seat of this number notes this; and what
-- it gives is of the run of these steps, by which it ended so. Where the seat has not yielded, none has.
pub record IsOfOneRun (c : Setting) (key : HallKey) (number : ℕ) (note : SeatNote) (list : ListSlot) (pool : PoolSlot) (end : RunEnd)
    : Type 0 where
  pub h : Hall
  pub count : ℕ
  pub views : List View
  pub steps : List Step
  pub moment : Moment
  pub leads : Leads (machine_of c (terms_of key)) steps moment
  pub state : RunningState (machine_of c (terms_of key)) (Terms.limits (terms_of key)) h steps moment leads count views
  pub noted : slice_get views number ≡ Some (view_of note)
  pub list_is : h.list ≡ list_shown list
  pub pool_is : h.pool ≡ pool_shown pool
  pub gives : GivesOneRun (machine_of c (terms_of key)) (Terms.limits (terms_of key)) h steps moment leads views (end_shown end)
  pub unyielded : note.yielded ≡ false → Each (λ v. v.yielded ≡ false) views

-- The list keeps this end; the parts are sound; a finish is that of the root's result; and for each program that the key may be of they are
-- those of one run.
pub record IsClosed (key : HallKey) (seat : HallSeat) (list : ListSlot) (pool : PoolSlot) (end : RunEnd) : Type 0 where
  pub kept : list.end ≡ Some end
  pub list_sound : ListIsSound key list
  pub pool_sound : PoolIsSound key pool
  pub finished : (finish : Finish) → end ≡ Finished finish → end_of_root (kept_under list.part.results root) ≡ Some (Finished finish)
  pub run : (c : Setting) → IsSettingOf (table_of key) (quota_of key) c
      → ∥ IsOfOneRun c key seat.number (seen_note seat.hand.note (Some end)) list pool end ∥₁
