use Rattle.std.proofs.Common.{◌∙◌}
use Rattle.thread_run.proofs.Trees.{alloc_comes}
use Rattle.thread_run.proofs.frames.allocates.Goals as goal

pub returns-in-Ok : goal.returns-in-Ok
returns-in-Ok c = λ t k setting gs f xs fs s of_table frame frames is.
    alloc_comes setting t gs c.args.state.now xs fs s f frame.0 c.args.slot c.args.len c.in-Ok.shell frame.1 frame.2 c.requires (c.in-Ok.ensures ∙ c.pieces_for.ensures) frames
