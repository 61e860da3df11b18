use Rattle.std.proofs.Common.{arith, sym, ap, subst, ◌∙◌}
use Rattle.std.proofs.lemmas.Grind.{common_steps}
use Rattle.par_tree.specs.Tree
use Rattle.par_tree.specs.View.{expr_tree}
use Rattle.par_tree.proofs.Lists.{expr_tree-chain}
use Rattle.par_ownership.specs.Walk.{expr_refusal}
use Rattle.block_check.specs.Shown.{entries_shown, Tests}
use Rattle.block_check.proofs.expressions.+check_expression.Goals as goal

pub check_expression-returns-in_ok-check_expression-in-Chain : goal.check_expression-returns-in_ok-check_expression-in-Chain
check_expression-returns-in_ok-check_expression-in-Chain t c =
    let same = ap expr_tree c.in-Chain.is ∙ expr_tree-chain c.in-Chain.first c.in-Chain.rest in
    subst (λ (e : Tree.Expr). Tests c.check_links.result (expr_refusal c.args.line (entries_shown c.args.env.now) e)) (sym same) (grind (arith, common_steps))
