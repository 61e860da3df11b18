-- What the call of a seat answers that lets its top thread go on without an event.
use Rattle.std.specs.Prelude.{◌≡◌, ◌⊎◌, None, Some, Bool, Result, Ok, Err}
use Rattle.deque_list.specs.declared.deque_id.DequeId.{DequeId}
use Rattle.turn_table.specs.Tables.{key_of}
use Rattle.hall_owner.specs.Passed.Stepping.{GoesSteps}
use Rattle.hall_owner.specs.Passed.ActRefused.{ActRefused}
use Rattle.hall_owner.specs.Passed.ActRefusedVariants as failed
use Rattle.worker_entry.specs.declared.hall.Hall.{Hall}
use Rattle.worker_entry.specs.declared.seat.Seat.{Seat}
use Rattle.worker_entry.specs.declared.refused.EventRefused.{EventRefused}
use Rattle.worker_entry.specs.declared.refused.EventRefused.TheVariants as refused
use Rattle.worker_entry.specs.Seated.{SameSeat}

-- It had found no stop and owned a deque, whose lane it took and put back, or was refused.
abbrev pub GoesThere : Hall → Seat → Result Bool ActRefused → Seat → Type 0
GoesThere hall before result after = (before.stop ≡ None)
    × ((deque : DequeId) × (before.owned ≡ Some deque) × GoesSteps (key_of hall.row) before.place deque result after.place)

-- So it is with a seat that owned a deque: it did no event, and notes what it noted, but for a stop that it found. The answer is whether the top
-- thread of the lane that went back was before its next action. A seat that had found a stop is what it was; one that finds a stop says so from
-- then on.
abbrev pub StepsIn : Hall → Seat → Seat → Result Bool EventRefused → Type 0
StepsIn hall before after (Ok came) = GoesThere hall before (Ok came) after × SameSeat before after
StepsIn hall before after (Err (refused.Busy held)) = GoesThere hall before (Err (failed.Busy held)) after × SameSeat before after
StepsIn hall before after (Err refused.Nothing) = ⊥
StepsIn hall before after (Err (refused.Over end)) = ⊥
StepsIn hall before after (Err (refused.Stopped stop)) = ((before.stop ≡ Some stop) × (after ≡ before))
    ⊎ (GoesThere hall before (Err (failed.Stopped stop)) after
    × (after.worker ≡ before.worker) × (after.places ≡ before.places) × (after.owned ≡ before.owned) × (after.stop ≡ Some stop))

-- the lane was not refused to it
abbrev pub IsNeverBusy : Result Bool EventRefused → Type 0
IsNeverBusy (Ok came) = Unit {0}
IsNeverBusy (Err (refused.Busy held)) = ⊥
IsNeverBusy (Err refused.Nothing) = Unit {0}
IsNeverBusy (Err (refused.Over end)) = Unit {0}
IsNeverBusy (Err (refused.Stopped stop)) = Unit {0}
