use Rattle.std.proofs.Math.Logic.{∥∥₁_elim}
use Rattle.thread_frames.proofs.Sets.{lines_fact}
use Rattle.thread_state.specs.Passed.States.{State}
use Rattle.thread_state.specs.Passed.Run.{whole}
use Rattle.thread_frames.proofs.Telling.{whole_told}
use Rattle.thread_frames.proofs.ended.Ended.lines.Goals as goal

pub returns : goal.returns
returns c = λ t k is root setting of.
    ∥∥₁_elim (is.at setting of) (lines_fact c.lines.result _) (λ h. c.lines.ensures.lines (State.items (whole setting)) (whole_told setting t c.args.self.now h root))
