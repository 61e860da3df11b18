-- A seat that finds a stop while it holds the list.
use Rattle.std.specs.Prelude.{◌≡◌, ℕ, ◌<◌, false, None, Some, List, slice_get}
use Rattle.depth_first_run.specs.States.{Setting}
use Rattle.deque_machine.specs.Moments.{Moment}
use Rattle.deque_machine.specs.Terms.{Terms, machine_of}
use Rattle.play_rules.specs.declared.stop.Stop.{Stop}
use Rattle.play_rules.specs.declared.stop.Stop.TheVariants.{OutOfMemory}
use Rattle.play_rules.specs.declared.ends.RunEnd.TheVariants.{Stopped}
use Rattle.thread_frames.specs.Passed.Settings.{IsSettingOf}
use Rattle.turn_table.specs.Hands.{Shows, gave}
use Rattle.turn_table.specs.Notes.{HasAs}
use Rattle.turn_table.specs.Seats.{with_hand}
use Rattle.turn_table.specs.Backs.{unchanged}
use Rattle.hall_machine.specs.Steps.{Step, Leads}
use Rattle.hall_machine.specs.Views.{View}
use Rattle.hall_machine.specs.Crew.{HasCauseAmong}
use Rattle.hall_machine.specs.State.{RunningState}
use Rattle.hall_slots.specs.declared.list_slot.ListSlot.{ListSlot}
use Rattle.hall_slots.specs.declared.seat_note.SeatNote.{SeatNote}
use Rattle.hall_slots.specs.declared.slot.Slot.{Slot}
use Rattle.hall_slots.specs.declared.slot.Slot.TheVariants as slots
use Rattle.hall_slots.specs.Shown.{stop_shown, view_of}
use Rattle.hall_slots.specs.Steps.{hall_shown}
use Rattle.hall_slots.specs.declared.key.HallKey.{HallKey}
use Rattle.hall_slots.specs.Keys.{table_of, quota_of, terms_of}
use Rattle.hall_slots.specs.Takes.{HallSeat}

-- the note of a seat that found a stop
abbrev pub found_note : SeatNote → Stop → SeatNote
found_note note stop = record note { found = Some stop }

-- Wherever a hall is in a running state that shows the slots which the seat holds as they are in its hand, and the seat its note, the stop has
-- its cause. So it is for each program that the key may be of.
abbrev pub IsCaused : HallKey → HallSeat → Stop → Type 0
IsCaused key seat stop =
    (c : Setting) → IsSettingOf (table_of key) (quota_of key) c → (shown : List Slot) → Shows shown seat.hand.holds
    → (steps : List Step) (m : Moment) (leads : Leads (machine_of c (terms_of key)) steps m) (count : ℕ) (views : List View)
    → RunningState (machine_of c (terms_of key)) (Terms.limits (terms_of key)) (hall_shown shown) steps m leads count views
    → slice_get views seat.number ≡ Some (view_of seat.hand.note)
    → HasCauseAmong (machine_of c (terms_of key)) (Terms.limits (terms_of key)) steps m leads (stop_shown stop)

-- want of memory needs none
abbrev pub MemoryNeedsNoCause : Type 0
MemoryNeedsNoCause = (key : HallKey) (seat : HallSeat) → IsCaused key seat OutOfMemory

-- The seat is in, holds no count, has found no stop, and holds the list, in which no end is kept. The stop has its cause.
pub record MayStop (key : HallKey) (seat : HallSeat) (list : ListSlot) (stop : Stop) : Type 0 where
  pub placed : 0 < seat.hand.note.places
  pub stays : seat.hand.note.left ≡ false
  pub free : seat.hand.note.counting ≡ false
  pub none : seat.hand.note.found ≡ None
  pub holds : HasAs 0 (slots.List list) seat.hand.holds
  pub no_end : list.end ≡ None
  pub cause : IsCaused key seat stop

-- so this is such a list, with the stop for its end
pub record HoldsTheStopped (key : HallKey) (seat : HallSeat) (list : ListSlot) (note : SeatNote) : Type 0 where
  pub before : ListSlot
  pub stop : Stop
  pub may : MayStop key seat before stop
  pub list_is : list ≡ record before { end = Some (Stopped stop) }
  pub note_is : note ≡ found_note seat.hand.note stop

-- the seat notes this, and holds the list no more
abbrev pub HasStopped : HallSeat → SeatNote → HallSeat → Type 0
HasStopped before note after = after ≡ with_hand before (gave (λ hand. note) unchanged before.hand 0)
