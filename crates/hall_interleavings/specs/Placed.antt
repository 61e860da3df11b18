-- Which threads of a hall are at their points of the depth-first run.
use Rattle.std.specs.Prelude.{ℕ, List}
use Rattle.deque_list.specs.declared.deque_id.DequeId.{DequeId}
use Rattle.deque_machine.specs.Lists.{Each}
use Rattle.thread_frames.specs.Passed.Table.{Table}
use Rattle.thread_frames.specs.Points.{IsAtPoint, IsResult}
use Rattle.thread_frames.specs.declared.thread.Thread.{Thread}
use Rattle.thread_frames.specs.declared.ended.Ended.{Ended}
use Rattle.hall_machine.specs.Values.{Hall}
use Rattle.hall_machine.specs.Views.{View}
use Rattle.hall_machine.specs.Points.{AreAtPoints}

-- The threads themselves that the slots of a hall hold: those of the lane of each deque, from top to bottom, and those that wait; and the
-- results of ended ones.
pub record Threads : Type 0 where
  pub in_lane : DequeId → List Thread
  pub waiting : List Thread
  pub results : List Ended

-- By the table of a program and a quota, these threads are at their points of the depth-first run, but for the top one of a deque whose
-- owner found want of memory, or which nobody owns while an end is kept; and the results are those of this run.
pub record ArePlaced (t : Table) (k : ℕ) (h : Hall) (views : List View) (x : Threads) : Type 0 where
  pub points : AreAtPoints (IsAtPoint t k) views h.list.kept h.list.places x.in_lane x.waiting
  pub results : Each (IsResult t k) x.results
