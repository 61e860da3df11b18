use Rattle.std.proofs.Common.{rules, ap, ◌∙◌, ◌+◌, ◌++◌}
use Rattle.par_tree.specs.View.{cmp_op_tree}
use Rattle.node_table.specs.Shown.{expr_shown}
use Rattle.flat_expressions.specs.Codes.{operand_code}
use Rattle.flat_expressions.specs.Shown.{acts_shown}
use Rattle.flat_code.proofs.Links.{both_operands}
use Rattle.flat_code.proofs.expressions.lower_condition.Goals as goal

pub returns-in_ok-right-in-Cmp : goal.returns-in_ok-right-in-Cmp
returns-in_ok-right-in-Cmp c =
    let acts = both_operands (expr_shown c.args.expr.now) (expr_shown c.in-Cmp.left.value) (expr_shown c.in-Cmp.right.value) (cmp_op_tree c.in-Cmp.op)
    c.args.free (acts_shown c.args.acts.now.items) (acts_shown c.lower_operand.new.acts.items)
    (acts_shown c.lower_operand-in-Cmp.new.acts.items)
    (ap expr_shown c.in-Cmp.is)
    (c.in_ok-left-in-Cmp.ensures.1 ∙ ap (λ e. acts_shown c.args.acts.now.items ++ operand_code (expr_shown e) c.args.free) c.deref.ensures)
    (c.in_ok-right-in-Cmp.ensures.1 ∙ ap (λ e. acts_shown c.lower_operand.new.acts.items ++ operand_code (expr_shown e) (c.args.free + 1))
    c.deref-in-Cmp.ensures) in
    search rules
