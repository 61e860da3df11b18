use Rattle.std.proofs.Common.{◌∷◌, sym, ap}
use Rattle.thread_state.specs.Passed.Middle.{middle, before_all, step_branch}
use Rattle.node_table.specs.Codes.{code_shown}
use Rattle.thread_run.proofs.Coming.{at_point}
use Rattle.thread_run.proofs.simple.take_arm.Goals as goal

pub returns-then-holds-clause-meaning : goal.returns-then-holds-clause-meaning
returns-then-holds-clause-meaning c = λ k setting g u a b first second gs xs fs s at.
    at_point setting (code_shown c.args.code.now) (g ∷ gs) u xs fs s (middle (before_all a fs) s) (step_branch c.args.holds a b fs s) c.do_list.result
    (ap (λ t. step_branch t a b fs s) (sym c.if-holds.true))
    (c.do_list.ensures.meaning k setting g u a first gs xs fs s at)

pub returns-else-holds-clause-meaning : goal.returns-else-holds-clause-meaning
returns-else-holds-clause-meaning c = λ k setting g u a b first second gs xs fs s at.
    at_point setting (code_shown c.args.code.now) (g ∷ gs) u xs fs s (middle (before_all b fs) s) (step_branch c.args.holds a b fs s) c.do_list-else-holds.result
    (ap (λ t. step_branch t a b fs s) (sym c.if-holds.false))
    (c.do_list-else-holds.ensures.meaning k setting g u b second gs xs fs s at)
