-- How it is with a seat that makes one try.
use Rattle.std.specs.Prelude.{◌≡◌, ◌⊎◌, ℕ, Option, None, Some, Result, Ok, Err}
use Rattle.deque_list.specs.declared.deque_id.DequeId.{DequeId}
use Rattle.play_rules.specs.declared.ends.RunEnd.{RunEnd}
use Rattle.play_rules.specs.declared.stop.Stop.{Stop}
use Rattle.turn_table.specs.declared.held.Held.{Held}
use Rattle.worker_entry.specs.Owners.{ActsIn}
use Rattle.worker_entry.specs.Seated.{SameSeat}
use Rattle.worker_entry.specs.Thieves.{StealsIn}
use Rattle.worker_entry.specs.declared.hall.Hall.{Hall}
use Rattle.worker_entry.specs.declared.seat.Seat.{Seat}
use Rattle.worker_entry.specs.declared.refused.EventRefused.{EventRefused}
use Rattle.worker_entry.specs.declared.refused.EventRefused.TheVariants as why
use Rattle.hall_slots.specs.Halting.{HasHalted}
use Rattle.hall_slots.specs.declared.event.Event.{Event}
use Rattle.hall_slots.specs.Takes.{IsRefused}
use Rattle.hall_threads.specs.declared.answer.Answer.{Answer}
use Rattle.hall_threads.specs.declared.answer.Answer.TheVariants.{Did, Found, Over, Refused}

-- how many words a seat draws for its try: one if it has found no stop and owns no deque, so that it steals
abbrev pub drawn_by : Option Stop → Option DequeId → ℕ
drawn_by (Some stop) owned = 0
drawn_by None (Some deque) = 0
drawn_by None None = 1

abbrev pub draws : Seat → ℕ
draws seat = drawn_by seat.stop seat.owned

-- It had found no stop: if it owned a deque, it acted, and otherwise it stole by this word.
abbrev pub GoesOn : Hall → (word : ℕ) → Seat → Seat → Result Event EventRefused → Type 0
GoesOn hall word before after result = (before.stop ≡ None)
    × (((deque : DequeId) × (before.owned ≡ Some deque) × ActsIn hall before after result)
    ⊎ ((before.owned ≡ None) × StealsIn hall word before after result))

-- it had found a stop, kept it unless an end was kept, and was answered this end; or it was refused the list
abbrev pub Halts : Seat → RunEnd → Seat → Type 0
Halts before end after =
    (stop : Stop) × (before.stop ≡ Some stop) × HasHalted before.place stop end after.place × SameSeat before after

abbrev pub FailsToHalt : Seat → Held → Seat → Type 0
FailsToHalt before held after =
    (stop : Stop) × (before.stop ≡ Some stop) × IsRefused before.place 0 held after.place × SameSeat before after

-- One try, and its answer.
abbrev pub Tries : Hall → (word : ℕ) → Seat → Seat → Answer → Type 0
Tries hall word before after (Did event) = GoesOn hall word before after (Ok event)
Tries hall word before after (Found stop) = GoesOn hall word before after (Err (why.Stopped stop))
Tries hall word before after (Over end) = GoesOn hall word before after (Err (why.Over end)) ⊎ Halts before end after
Tries hall word before after (Refused (why.Busy held)) =
    GoesOn hall word before after (Err (why.Busy held)) ⊎ FailsToHalt before held after
Tries hall word before after (Refused why.Nothing) = GoesOn hall word before after (Err why.Nothing)
Tries hall word before after (Refused (why.Over end)) = ⊥
Tries hall word before after (Refused (why.Stopped stop)) = ⊥

-- an event or its refusal, as the answer of a try
abbrev pub answer_as : Result Event EventRefused → Answer
answer_as (Ok event) = Did event
answer_as (Err (why.Busy held)) = Refused (why.Busy held)
answer_as (Err why.Nothing) = Refused why.Nothing
answer_as (Err (why.Over end)) = Over end
answer_as (Err (why.Stopped stop)) = Found stop

-- no slot was refused to it: if its try was refused, there was nothing to steal
abbrev pub IsNotHeld : Answer → Type 0
IsNotHeld (Did event) = Unit {0}
IsNotHeld (Found stop) = Unit {0}
IsNotHeld (Over end) = Unit {0}
IsNotHeld (Refused reason) = reason ≡ why.Nothing
