use Rattle.dfd_plays.proofs.Plays.{same_report}
use Rattle.dfd_plays.proofs.ready_playing.report_of.Goals as goal

pub returns-clause-reports : goal.returns-clause-reports
returns-clause-reports c = λ s run m at. (
  c.high.result,
  (
    c.high.ensures s run m at,
    same_report _ _ _ _ _ _ _ _ c.high.result (c.in_ok-lines_of.ensures s at.setting) (at.finished c.args.finish c.requires).1
        (c.periods.ensures s run m at) (c.ahead.ensures s run m at),
  ),
)
