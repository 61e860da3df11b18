-- Runs of the machine that workers in threads come to.
use Rattle.std.specs.Prelude.{◌≡◌, ◌<◌, List, [], ◌++◌, length}
use Rattle.deque_machine.specs.Moments.{Moment, opening}
use Rattle.deque_machine.specs.Machine.{Setting, HasEnded}
use Rattle.deque_machine.specs.Play.{Limits, Stop, arena_full, steps_spent, deques_full, Ending, finished, stopped, NoneFree}
use Rattle.deque_machine.specs.Runs.{Pair, Reaches}
use Rattle.hall_machine.specs.Steps.{MeetsAt}

-- at some moment of this run the rules want an event of one of its workers that meets this stop
abbrev pub MeetsOnTheWay : Setting → Limits → List Pair → Stop → Type 0
MeetsOnTheWay s limits run stop =
    (front rest : List Pair) × (run ≡ front ++ rest) × (m : Moment) × Reaches s opening front m × MeetsAt s limits m stop

-- A stop has its cause: that of the arena or of the deques on the way of the run, that of the actions in the program, which has more of them
-- than are allowed.
abbrev pub StopHasCause : Setting → Limits → List Pair → Stop → Type 0
StopHasCause s limits run (arena_full live asked) = MeetsOnTheWay s limits run (arena_full live asked)
StopHasCause s limits run (deques_full deques) = MeetsOnTheWay s limits run (deques_full deques)
StopHasCause s limits run (steps_spent limit) = (limit ≡ limits.actions) × (limits.actions < length s.list)

-- Threads come to this run with this ending: it is one of the machine from its opening moment on. If it has finished, the root has ended at its
-- last moment, and no give up of it was free; if it was stopped, the stop has its cause.
pub record IsThreadRun (s : Setting) (limits : Limits) (run : List Pair) (last : Moment) (ending : Ending) : Type 0 where
  pub reaches : Reaches s opening run last
  pub ended : ending ≡ finished → HasEnded s last []
  pub none_free : ending ≡ finished → NoneFree s opening run last reaches
  pub stopped_by : (stop : Stop) → ending ≡ stopped stop → StopHasCause s limits run stop
