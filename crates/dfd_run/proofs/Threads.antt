-- What a run by threads comes to is told as the run of the program.
use Rattle.std.proofs.Common.{◌≡◌, ℕ, List, pos, sym, ap, subst, ◌∙◌}
use Rattle.std.proofs.Math.Logic.{∥∥₁_map}
use Rattle.command_line.specs.declared.command.Command.{Command}
use Rattle.deque_machine.specs.Moments.{Moment}
use Rattle.deque_machine.specs.Play.{finished, stopped, arena_full, steps_spent, deques_full}
use Rattle.deque_machine.specs.Runs.{Pair}
use Rattle.hall_threads.specs.Reports.{IsReportOf, SomeRun, IsStoppedBy}
use Rattle.par_tree.specs.Tree.{Program}
use Rattle.hall_threads.specs.Passed.Stop.{Stop}
use Rattle.hall_threads.specs.Passed.StopVariants.{ArenaFull, DequesFull, StepsSpent, OutOfMemory}
use Rattle.run_report.specs.Shown.{shown_by_report}
use Rattle.run_report.specs.Texts.{report_text}
use Rattle.run_report.specs.declared.report.Report.{Report}
use Rattle.dfd_plays.specs.Peak.{finish_status}
use Rattle.dfd_plays.specs.Play.{Reports, play_setting, play_terms}
use Rattle.dfd_plays.specs.Stops.{TellsStop}
use Rattle.dfd_plays.specs.Threads.{RunMakes}
use Rattle.dfd_plays.specs.declared.status.Status.{Status}
use Rattle.dfd_plays.proofs.Plays.{same_report}

-- the text of a report of a run is what is reported of this run
reports_so : (command : Command) (p : Program) (run : List Pair) (last : Moment) (report : Report) →
    IsReportOf (play_setting command p) run last report → Reports (play_setting command p) run last (report_text (shown_by_report report))
reports_so command p run last report is = (
  report.high,
  (is.high, same_report _ _ _ _ _ _ _ _ report.high is.lines is.finish is.periods is.ahead),
)

pub finished_run : (command : Command) (p : Program) (report : Report) (status : Status) (text : List ℕ) →
    SomeRun (play_setting command p) (play_terms command) finished (λ run last. IsReportOf (play_setting command p) run last report) →
    status ≡ finish_status report.finish → text ≡ report_text (shown_by_report report) → RunMakes command p status text
finished_run command p report status text runs is written =
    ∥∥₁_map runs (λ w. (
      w.0,
      w.1,
      finished,
      w.2,
      (is ∙ ap finish_status (w.3).finish, subst (Reports (play_setting command p) w.0 w.1) (sym written) (reports_so command p w.0 w.1 report w.3)),
    ))

pub stopped_run : (command : Command) (p : Program) (stop : Stop) (status : Status) (text : List ℕ) →
    IsStoppedBy (play_setting command p) (play_terms command) stop → TellsStop stop status text → RunMakes command p status text
stopped_run command p (ArenaFull live asked) status text runs told =
    ∥∥₁_map runs (λ w. (w.0, w.1, stopped (arena_full (pos live) asked), w.2, told))
stopped_run command p (DequesFull deques) status text runs told = ∥∥₁_map runs (λ w. (w.0, w.1, stopped (deques_full deques), w.2, told))
stopped_run command p (StepsSpent limit) status text runs told = ∥∥₁_map runs (λ w. (w.0, w.1, stopped (steps_spent limit), w.2, told))
stopped_run command p OutOfMemory status text runs told = absurd told
