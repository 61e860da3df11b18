-- What a run by threads comes to.
use Rattle.std.specs.Prelude.{◌≡◌, List, length, pos}
use Rattle.containers.specs.BoundedList.{entries}
use Rattle.depth_first_run.specs.States.{Setting, State}
use Rattle.depth_first_run.specs.Run.{whole, lines_of, list_of, finish_of_run}
use Rattle.deque_machine.specs.Moments.{Moment}
use Rattle.deque_machine.specs.Play as play
use Rattle.deque_machine.specs.Play.{Ending, finished, stopped}
use Rattle.deque_machine.specs.Runs.{Pair, high_water_mark}
use Rattle.deque_machine.specs.Terms.{Terms, machine_of}
use Rattle.deque_machine.specs.Books.{periods_marked}
use Rattle.play_rules.specs.declared.ends.RunEnd.{RunEnd}
use Rattle.play_rules.specs.declared.ends.RunEnd.TheVariants as ends
use Rattle.play_rules.specs.declared.stop.Stop.{Stop}
use Rattle.play_rules.specs.declared.stop.Stop.TheVariants.{ArenaFull, DequesFull, StepsSpent, OutOfMemory}
use Rattle.run_report.specs.declared.report.Report.{Report}
use Rattle.hall_threads.specs.declared.ran.Ran.{Ran}
use Rattle.hall_threads.specs.declared.ran.Ran.TheVariants as ran
use Rattle.hall_machine.specs.Runs.{IsThreadRun}

-- The report of a run with this last moment: the lines and the finish of the depth-first run, how many periods were begun and how many of them
-- were marked ahead, and the high-water mark.
pub record IsReportOf (c : Setting) (run : List Pair) (last : Moment) (report : Report) : Type 0 where
  pub lines : entries report.lines ≡ lines_of (State.items (whole c))
  pub finish : report.finish ≡ finish_of_run c
  pub periods : report.periods ≡ length last.books
  pub ahead : report.ahead ≡ periods_marked last.books
  pub high : pos report.high ≡ high_water_mark (list_of c) run

-- some run of the machine by threads has this ending, and this is so of it
abbrev pub SomeRun : Setting → Terms → Ending → (List Pair → Moment → Type 0) → Type 0
SomeRun c terms ending Fact =
    ∥ ((run : List Pair) × (last : Moment) × IsThreadRun (machine_of c terms) (Terms.limits terms) run last ending × Fact run last) ∥₁

-- a run that was stopped so; want of memory is told in another way
abbrev pub IsStoppedBy : Setting → Terms → Stop → Type 0
IsStoppedBy c terms (ArenaFull live asked) = SomeRun c terms (stopped (play.arena_full (pos live) asked)) (λ run last. Unit {0})
IsStoppedBy c terms (DequesFull deques) = SomeRun c terms (stopped (play.deques_full deques)) (λ run last. Unit {0})
IsStoppedBy c terms (StepsSpent limit) = SomeRun c terms (stopped (play.steps_spent limit)) (λ run last. Unit {0})
IsStoppedBy c terms OutOfMemory = ⊥

-- what a run comes to by this setting and these terms: it has finished, and this is its report, or it was stopped
abbrev pub ComesTo : Setting → Terms → Ran → Type 0
ComesTo c terms (ran.Finished report) = SomeRun c terms finished (λ run last. IsReportOf c run last report)
ComesTo c terms (ran.Stopped stop) = IsStoppedBy c terms stop

-- The run stopped for lack of memory. Of a run that has finished nothing is asked: its report may lack memory.
abbrev pub LacksMemory : RunEnd → Type 0
LacksMemory (ends.Finished finish) = Unit {0}
LacksMemory (ends.Stopped stop) = stop ≡ OutOfMemory
