-- What an owner has done once its top thread has gone some steps on, without an event.
use Rattle.std.specs.Prelude.{◌≡◌, ◌+◌, Some, Bool, is_some, List, [], ◌∷◌, Result, Ok, Err}
use Rattle.hall_parts.specs.HallNames.{DequeId, table_of, quota_of, HallSeat, IsRefused, HallKey, LaneSlot, SeatNote, IsStill, IsAtPoint, next_of, Thread}
use Rattle.hall_parts.specs.Passed.StopVariants.{OutOfMemory as NoMemory}
use Rattle.hall_parts.specs.Puts.{HasPut}
use Rattle.hall_actions.specs.Advancing.{HasLooked, took_lane}
use Rattle.hall_actions.specs.declared.refused.ActRefused.{ActRefused}
use Rattle.hall_actions.specs.declared.refused.ActRefused.TheVariants.{Busy, Over, Stopped}

-- The second lane is the first one after its top thread has gone some statements on: it has done no action, and is at its point. The answer is
-- whether it is before its next action then.
pub record GoesOn (key : HallKey) (was now : LaneSlot) (came : Bool) : Type 0 where
  pub top_was : Thread
  pub top : Thread
  pub under : List Thread
  pub items_were : was.lane.items ≡ top_was ∷ under
  pub items : now.lane.items ≡ top ∷ under
  pub running : now.running ≡ was.running
  pub still : IsStill top_was top
  pub point : IsAtPoint (table_of key) (quota_of key) top
  pub answers : came ≡ is_some (next_of top)

-- The lane that the seat held went back; if memory was wanting, the seat notes this stop.
abbrev pub StepsBack : HallKey → HallSeat → LaneSlot → Result Bool ActRefused → HallSeat → Type 0
StepsBack key before was (Ok came) after = (now : LaneSlot) × GoesOn key was now came × HasPut before before.hand.note [] after
StepsBack key before was (Err (Busy held)) after = ⊥
StepsBack key before was (Err (Over end)) after = ⊥
StepsBack key before was (Err (Stopped stop)) after = (stop ≡ NoMemory) × HasPut before (record before.hand.note { found = Some stop }) [] after

-- The seat took this lane, put it back and notes this.
abbrev pub HasPutBack : HallSeat → DequeId → LaneSlot → SeatNote → HallSeat → Type 0
HasPutBack before deque lane note after = HasLooked before (took_lane deque lane ∷ []) note after

-- It notes what it noted, and the answer is whether the next action of the top thread had come when the lane went back; or it was refused the lane; or
-- memory was wanting, which it notes. It never sees an end, since it looks at its lane alone.
abbrev pub GoesSteps : HallKey → HallSeat → DequeId → Result Bool ActRefused → HallSeat → Type 0
GoesSteps key before deque (Ok came) after =
    (was : LaneSlot) × (now : LaneSlot) × GoesOn key was now came × HasPutBack before deque was before.hand.note after
GoesSteps key before deque (Err (Busy held)) after = IsRefused before (deque.0 + 2) held after
GoesSteps key before deque (Err (Over end)) after = ⊥
GoesSteps key before deque (Err (Stopped stop)) after =
    (stop ≡ NoMemory) × ((lane : LaneSlot) × HasPutBack before deque lane (record before.hand.note { found = Some stop }) after)
