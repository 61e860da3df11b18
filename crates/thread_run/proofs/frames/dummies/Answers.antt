use Rattle.std.proofs.Common.{◌∙◌, ap}
use Rattle.depth_first_list.specs.Shapes.{Shape}
use Rattle.thread_state.specs.Passed.Middle.{does, tree}
use Rattle.thread_run.proofs.Trees.{dummy_comes, fork_comes}
use Rattle.thread_run.proofs.frames.dummies.Goals as goal

pub returns-in-None : goal.returns-in-None
returns-in-None c = λ t k u setting gs f xs fs s of_table frame frames is.
    dummy_comes setting t gs u xs fs s f (frame ∙ ap (λ (x : Shape). does (tree x)) c.in-None.ensures.shape) frames

pub returns-in-Some : goal.returns-in-Some
returns-in-Some c = λ t k u setting gs f xs fs s of_table frame frames is.
    fork_comes setting t gs u xs fs s f c.in-Some.child c.in-Some.own (frame ∙ ap (λ (x : Shape). does (tree x)) c.in-Some.ensures.shape) frames
