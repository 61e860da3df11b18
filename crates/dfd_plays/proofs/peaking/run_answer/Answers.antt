use Rattle.dfd_plays.proofs.Peaks.{run_answers}
use Rattle.dfd_plays.proofs.peaking.run_answer.Goals as goal

pub returns : goal.returns
returns c = λ limit items tells within.
    run_answers items limit _ _ _ _ _ _ _ _ tells within c.finish_status-status.ensures c.len.ensures c.in_ok-text.ensures
