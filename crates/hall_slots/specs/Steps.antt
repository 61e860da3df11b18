-- What a step on the slots has to do to what they show.
use Rattle.std.specs.Prelude.{◌≡◌, ℕ, Some, List, map, slice_get, slice_set}
use Rattle.depth_first_run.specs.States.{Setting}
use Rattle.deque_machine.specs.Machine.{Setting as MachineSetting}
use Rattle.deque_machine.specs.Moments.{Moment}
use Rattle.deque_machine.specs.Play.{Limits}
use Rattle.deque_machine.specs.Terms.{Terms, machine_of}
use Rattle.thread_frames.specs.Passed.Settings.{IsSettingOf}
use Rattle.hall_machine.specs.Values.{Hall, hall_of}
use Rattle.hall_machine.specs.Steps.{Step, Leads}
use Rattle.hall_machine.specs.Views.{View}
use Rattle.hall_machine.specs.State.{RunningState}
use Rattle.hall_slots.specs.declared.slot.Slot.{Slot}
use Rattle.hall_slots.specs.declared.list_slot.ListSlot.{ListSlot}
use Rattle.hall_slots.specs.declared.seat_note.SeatNote.{SeatNote}
use Rattle.hall_slots.specs.Shown.{value_of, list_shown, view_of}
use Rattle.hall_slots.specs.declared.key.HallKey.{HallKey}
use Rattle.hall_slots.specs.Keys.{table_of, quota_of, terms_of}
use Rattle.hall_slots.specs.Takes.{HallSeat}

-- the hall that the slots show
abbrev pub hall_shown : List Slot → Hall
hall_shown shown = hall_of (map value_of shown)

-- some steps lead to a moment where a hall is in a running state
abbrev pub IsRunning : MachineSetting → Limits → Hall → ℕ → List View → Type 0
IsRunning s limits h count views =
    (steps : List Step) × (m : Moment) × (leads : Leads s steps m) × RunningState s limits h steps m leads count views

-- Wherever a hall is in a running state that has this list, and the seat its note, it is in one again once the list is this one and the
-- seat notes this. So it is for each program that the key may be of.
abbrev pub ListMayBecome : HallKey → HallSeat → (before after : ListSlot) → SeatNote → Type 0
ListMayBecome key seat before after note =
    (c : Setting) → IsSettingOf (table_of key) (quota_of key) c → (h : Hall) (count : ℕ) (views : List View)
    → IsRunning (machine_of c (terms_of key)) (Terms.limits (terms_of key)) h count views → h.list ≡ list_shown before
    → slice_get views seat.number ≡ Some (view_of seat.hand.note)
    → ∥ IsRunning (machine_of c (terms_of key)) (Terms.limits (terms_of key)) (record h { list = list_shown after }) count
    (slice_set views seat.number (view_of note)) ∥₁
