-- Which number a worker gets that enters.
use Rattle.std.specs.Prelude.{◌≡◌, ℕ, ◌<◌, ◌≤◌, None, Some, List, length, slice_get}
use Rattle.deque_machine.specs.Lists.{times}
use Rattle.deque_machine.specs.Moments.{Moment}
use Rattle.deque_machine.specs.Machine.{Setting}
use Rattle.deque_machine.specs.Play.{Limits}
use Rattle.hall_machine.specs.Values.{Hall}
use Rattle.hall_machine.specs.Steps.{Step, Leads}
use Rattle.hall_machine.specs.Views.{View}
use Rattle.hall_machine.specs.State.{RunningState}

-- a number below that of the workers that a crew does not have, and it has each smaller one
abbrev pub IsSmallestNumber : (workers : ℕ) → (crew : List ℕ) → ℕ → Type 0
IsSmallestNumber workers crew worker = (worker < workers) × (times worker crew ≡ 0) × ((other : ℕ) → other < worker → 0 < times other crew)

-- By a seat that has two places and enters for nobody a worker may enter: the list names fewer than all, so there is a number for it.
abbrev pub WorkersMayEnter : Setting → Type 0
WorkersMayEnter s = (limits : Limits) (h : Hall) (steps : List Step) (m : Moment) (leads : Leads s steps m) (count : ℕ) (views : List View)
    (seat : ℕ) (v : View) → RunningState s limits h steps m leads count views → slice_get views seat ≡ Some v → 2 ≤ v.places → v.enters ≡ None
    → (length h.list.crew < s.workers) × ((worker : ℕ) × IsSmallestNumber s.workers h.list.crew worker)
