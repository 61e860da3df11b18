use Rattle.std.proofs.Common.{sym, subst}
use Rattle.thread_stack.specs.declared.branch.Branch.{Branch}
use Rattle.thread_frames.specs.Forking.{ForksState}
use Rattle.thread_frames.proofs.forks.fork_state.Goals as goal

pub returns-in-Par : goal.returns-in-Par
returns-in-Par c =
    subst (λ (b : Branch). ForksState b c.args.named.now c.args.state.now c.fork.new.self c.fork.result) (sym c.in-Par.is)
    (λ setting contexts names passes items s turns slots is.
    (c.fork.ensures.child contexts names setting passes s turns slots is, c.fork.ensures.parent contexts names passes items slots s is))

pub returns-in-Dummies : goal.returns-in-Dummies
returns-in-Dummies c =
    subst (λ (b : Branch). ForksState b c.args.named.now c.args.state.now c.fork_dummies.new.self c.fork_dummies.result) (sym c.in-Dummies.is)
    (λ setting contexts items s turns is.
    (c.fork_dummies.ensures.child contexts setting s turns is, c.fork_dummies.ensures.parent contexts items s is))
