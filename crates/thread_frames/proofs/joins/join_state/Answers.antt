use Rattle.std.proofs.Common.{sym, subst}
use Rattle.thread_stack.specs.declared.branch.Branch.{Branch}
use Rattle.thread_frames.specs.Joining.{JoinsState}
use Rattle.thread_frames.proofs.joins.join_state.Goals as goal

pub returns-in-Par-clause-state : goal.returns-in-Par-clause-state
returns-in-Par-clause-state c =
    subst (λ (b : Branch). JoinsState b c.args.assigned.now c.args.state.now c.join.new.self c.args.child) (sym c.in-Par.is)
    (λ contexts names assigns ordinal d s child slots is. c.join.ensures.state contexts names assigns ordinal d child slots s is)

pub returns-in-Dummies-clause-state : goal.returns-in-Dummies-clause-state
returns-in-Dummies-clause-state c =
    subst (λ (b : Branch). JoinsState b c.args.assigned.now c.args.state.now c.join_dummies.new.self c.args.child) (sym c.in-Dummies.is)
    (λ contexts ordinal d s child is. c.join_dummies.ensures.state contexts ordinal d child s is)
