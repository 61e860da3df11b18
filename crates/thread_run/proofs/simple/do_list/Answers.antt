use Rattle.std.proofs.Common.{◌∷◌, refl}
use Rattle.thread_run.proofs.simple.do_list.Goals as goal

pub returns-clause-meaning : goal.returns-clause-meaning
returns-clause-meaning c = λ k setting g u b list gs xs fs s at.
    (c.frame_from.ensures.frames setting.program (g ∷ gs) b xs fs list at.frames, at.state, refl)
