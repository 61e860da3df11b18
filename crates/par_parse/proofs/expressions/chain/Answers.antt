use Rattle.std.proofs.Common.{◌<◌, length, arith, ap, ◌∙◌}
use Rattle.std.proofs.lemmas.Bool.Decides.{nat_tests}
use Rattle.par_tree.specs.View.{expr_tree, links_tree}
use Rattle.par_tree.specs.declared.expr.Expr.{Expr}
use Rattle.par_text.specs.Grammar.{chained}
use Rattle.par_parse.proofs.Views.{made_chain}
use Rattle.par_parse.proofs.expressions.chain.Goals as goal

pub returns : goal.returns
returns c =
    let some : 0 < length c.args.links.items = grind (arith, nat_tests) in
    made_chain c.in_ok-first.first c.args.links some
    ∙ ap (λ (e : Expr). chained (expr_tree e) (links_tree c.args.links.items)) c.in_ok-first.ensures.ok
