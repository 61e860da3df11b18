use Rattle.std.proofs.Math.Logic.{∥∥₁_elim}
use Rattle.thread_frames.proofs.Sets.{fault_set}
use Rattle.thread_state.specs.Passed.States.{State}
use Rattle.thread_state.specs.Passed.Run.{whole}
use Rattle.thread_frames.proofs.Telling.{whole_told}
use Rattle.thread_frames.proofs.ended.Ended.fault.Goals as goal

pub returns-clause-root : goal.returns-clause-root
returns-clause-root c = λ t k is root setting of.
    ∥∥₁_elim (is.at setting of) (fault_set _ _) (λ h. c.fault.ensures.items (State.items (whole setting)) (whole_told setting t c.args.self.now h root))
