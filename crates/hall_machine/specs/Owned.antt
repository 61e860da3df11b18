-- What is whose: the worker of a seat, its deque at the moment, and the books of its periods.
use Rattle.std.specs.Prelude.{◌≢◌, ℕ, List}
use Rattle.deque_machine.specs.Moments.{Moment}
use Rattle.deque_machine.specs.Machine.{Setting}
use Rattle.deque_machine.specs.Play.{Limits}
use Rattle.hall_machine.specs.Values.{Hall}
use Rattle.hall_machine.specs.Steps.{Step, Leads}
use Rattle.hall_machine.specs.Views.{View}
use Rattle.hall_machine.specs.State.{RunningState, IsIn}

-- seats that are in have different workers
abbrev pub SeatsHaveTheirWorkers : Setting → Type 0
SeatsHaveTheirWorkers s = (limits : Limits) (h : Hall) (steps : List Step) (m : Moment) (leads : Leads s steps m) (count : ℕ) (views : List View)
    (a b : ℕ) (u v : View) → RunningState s limits h steps m leads count views → a ≢ b → IsIn views a u → IsIn views b v → u.worker ≢ v.worker
