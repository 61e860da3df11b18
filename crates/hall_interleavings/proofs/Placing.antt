-- The threads of a hall stay at their points with each step of a seat.
use Rattle.std.proofs.Common.{◌≢◌, ℕ, List}
use Rattle.std.specs.Prelude.{Some}
use Rattle.deque_machine.specs.Lists.{Each}
use Rattle.deque_machine.specs.Moments.{Moment}
use Rattle.deque_machine.specs.Machine.{Setting}
use Rattle.deque_machine.specs.Play.{Limits}
use Rattle.thread_frames.specs.Passed.Table.{Table}
use Rattle.thread_frames.specs.Points.{IsAtPoint, IsResult}
use Rattle.hall_machine.specs.Values.{Hall, no_memory}
use Rattle.hall_machine.specs.Steps.{Step, Leads}
use Rattle.hall_machine.specs.Writing.{IsAtWork}
use Rattle.hall_machine.specs.Views.{View}
use Rattle.hall_machine.specs.State.{RunningState, IsIn}
use Rattle.hall_interleavings.specs.Placed.{Threads, ArePlaced}
use Rattle.hall_interleavings.specs.EventsAtPoints.{GoOnIn}
use Rattle.hall_interleavings.proofs.Owning.{all_in_lane}

-- ---- events of an owner

module _ (s : Setting) (t : Table) (k : ℕ) (limits : Limits) (h : Hall) (steps : List Step) (m : Moment) (leads : Leads s steps m) (count : ℕ) (views : List View) (seat : ℕ) (v : View)
    (state : RunningState s limits h steps m leads count views) (here : IsIn views seat v) (w : IsAtWork h v.worker) (x y : Threads) (placed : ArePlaced t k h views x) (goes : GoOnIn t k w.id x y)
    (found : v.found ≢ Some no_memory) where
  now : Each (IsAtPoint t k) (y.in_lane w.id) × Each (IsAtPoint t k) y.waiting × Each (IsResult t k) y.results
  now = goes.its (all_in_lane (IsAtPoint t k) s limits h steps m leads count views seat v state here w x.in_lane placed.points.in_lanes found) placed.points.that_wait placed.results
