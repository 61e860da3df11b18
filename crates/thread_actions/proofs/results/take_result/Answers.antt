use Rattle.std.proofs.Common.{sym, ◌∙◌, ap}
use Rattle.thread_frames.specs.Children.{is_delivered}
use Rattle.thread_frames.specs.Views.{children_of}
use Rattle.thread_frames.specs.declared.thread.Thread.{Thread}
use Rattle.thread_actions.proofs.results.take_result.Goals as goal

pub hand_over-requires : goal.hand_over-requires
hand_over-requires c =
    c.requires c.in-Join.child c.in-Join.is
    (ap (λ (x : Thread). is_delivered c.in-Join.child (children_of x)) (sym c.get.ensures) ∙ sym c.delivered.ensures ∙ c.if-not-delivered.true)
