-- What an owner's event does to what its worker took: the lane of its deque, with the top thread taken out of it, the period that runs there,
-- and the pool with its moves.
use Rattle.std.specs.Prelude.{◌≡◌, ℕ, ◌+◌, ◌≤◌, ◌<◌, List, [], ◌∷◌, map, pos}
use Rattle.block_arena.specs.Region.{Region}
use Rattle.containers.specs.BoundedList.{entries, spare}
use Rattle.containers.specs.declared.bounded_list.BoundedList.{BoundedList}
use Rattle.hall_parts.specs.HallNames.{ActionId, Setting, PoolSlot, IsOfTheList, IsPlaced, done_of, Next, Thread, thread_shown, Hall, PoolShown, open_for}
use Rattle.dag_order.specs.declared.birth.Birth.{Birth}
use Rattle.deque_list.specs.Lanes.{LaneView}
use Rattle.hall_slots.specs.Passed.Facts.{words_at}
use Rattle.hall_slots.specs.Passed.Run.{list_of}
use Rattle.language_limits.specs.declared.TheConstants.{GREATEST_COUNT, GREATEST_QUOTA}
use Rattle.open_periods.specs.Periods.{Period, open_shown}
use Rattle.open_periods.specs.Tables.{birth_room, noted}
use Rattle.open_periods.specs.declared.period.Period.{Period as OpenPeriod}
use Rattle.space_ledger.specs.declared.moves.Moves.{Moves}
use Rattle.space_ledger.specs.MovesList.{moves_list, moves_spare}
use Rattle.space_ledger.specs.Sums.{total_change}
use Rattle.thread_actions.specs.Acts.{StaysAtPoint}
use Rattle.hall_slots.specs.Passed.Writing.{IsAtWork, ActsInLane, PoolTakes}

-- There is memory for an action and a birth in the period, where a list for so many births is ready for the first one.
pub record HasRoomIn (period : OpenPeriod) (ready : ℕ) : Type 0 where
  pub book : 1 ≤ spare period.book
  pub births : 1 ≤ birth_room (entries period.births) (spare period.births) ready

-- and for so many threads more in the lane
pub record HasRoomHere (threads : ℕ) (under : LaneView Thread) (running : OpenPeriod) (ready : ℕ) : Type 0 where
  pub lane : threads ≤ under.spare
  pub period : HasRoomIn running ready

-- There is memory for a move, and the moves so far are those of the words in use.
pub record HasMovesFor (live : ℕ) (moves : Moves) : Type 0 where
  pub room : 1 ≤ moves_spare moves
  pub sum : total_change (moves_list moves) ≡ pos live

-- The thread is at its point, and there is memory for an action, for so many threads more in the lane, and for so many words more of the quota. The
-- list of births is ready for the first one.
pub record MayDo (threads words : ℕ) (top : Thread) (under : LaneView Thread) (running : OpenPeriod) (first : BoundedList Birth) : Type 0 where
  pub placed : IsPlaced top
  pub count : done_of top < GREATEST_COUNT
  pub room : HasRoomHere threads under running (spare first)
  pub none : entries first ≡ []
  pub fits : running.used + words ≤ GREATEST_QUOTA

-- or for its End, for which the lane needs no room
pub record MayEnd (top : Thread) (running : OpenPeriod) (first : BoundedList Birth) : Type 0 where
  pub placed : IsPlaced top
  pub count : done_of top < GREATEST_COUNT
  pub room : HasRoomIn running (spare first)
  pub none : entries first ≡ []
  pub fits : running.used ≤ GREATEST_QUOTA

-- The pool has these words, and its moves are those of the words in use.
pub record PoolBecomes (now : PoolSlot) (words : Region) : Type 0 where
  pub pool : now.pool ≡ words
  pub sum : total_change (moves_list now.moves) ≡ pos now.pool.live

-- the pool as a slot shows it: the words in use, and the moves
abbrev pub pool_with : ℕ → Moves → PoolShown
pool_with live moves = record { live = live; moves = moves_list moves }

-- A worker at work has this top thread, these under it, and this period, for whichever worker the lane notes it.
pub record ShowsOwn {h : Hall} {worker : ℕ} (w : IsAtWork h worker) (top : Thread) (under : List Thread) (period : OpenPeriod) : Type 0 where
  pub top_is : w.top ≡ thread_shown top
  pub under_is : w.under ≡ map thread_shown under
  pub period_is : open_for worker w.period ≡ open_shown worker period

-- The top thread did its next action, of this name, in its own lane, where its period may: now these are the threads of the lane, this is the
-- period, which has so many words less of the quota, and these are the births.
abbrev pub ActsHere : Next → (Where : ℕ → Period → ℕ → Type 0) → Thread → (under : List Thread) → OpenPeriod → (threads : List Thread) → OpenPeriod
    → ActionId → (words : ℕ) → List Birth → Type 0
ActsHere next Where top under before threads after name words births =
    (worker : ℕ) (c : Setting) (k : ℕ) (is : IsOfTheList c top next) → Where k (open_shown worker before) (words_at (list_of c) (IsOfTheList.place is))
    → (h : Hall) (w : IsAtWork h worker) → ShowsOwn w top under before
    → ActsInLane k (list_of c) w (IsOfTheList.place is) name (map thread_shown threads) words births
    × (open_shown worker after ≡ noted (open_for worker w.period) name words births)

-- The pool took the words of this action or had them back, and noted the move if it is one.
abbrev pub TakesWords : Next → Thread → ActionId → (before after : PoolShown) → Type 0
TakesWords next top name before after =
    (c : Setting) (is : IsOfTheList c top next) → PoolTakes (list_of c) (IsOfTheList.place is) name before after

-- the thread is on top of the others of its lane, at its point if it was before
abbrev pub GoesOnTop : Thread → (under threads : List Thread) → Type 0
GoesOnTop top under threads =
    (after : Thread) × (threads ≡ after ∷ under) × StaysAtPoint top after
