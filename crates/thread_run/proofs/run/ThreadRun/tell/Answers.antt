use Rattle.std.proofs.Common.{◌∙◌, sym}
use Rattle.thread_run.proofs.Following.{told_if}
use Rattle.thread_run.proofs.run.ThreadRun.tell.Goals as goal

pub returns-then-is_some-clause-told : goal.returns-then-is_some-clause-told
returns-then-is_some-clause-told c = λ part tells.
    told_if c.args.self.now.told part c.args.value c.fault.result (c.fault.ensures.items part tells) (sym c.is_some.ensures ∙ c.if-is_some.true) tells
