use Rattle.std.proofs.Common.{List, length, refl, sym, ap, ◌∙◌, subst, w64, rules}
use Rattle.std.proofs.lemmas.Int.{to_z-of_z}
use Rattle.node_table.specs.Table
use Rattle.node_table.specs.Shown.{expr_shown, links_shown}
use Rattle.node_table.specs.Reading.{IsExpr, expr_read, links_read, FitsLinks}
use Rattle.node_table.specs.declared.code_expr.CodeExpr.{CodeExpr}
use Rattle.node_table.specs.declared.code_link.CodeLink.{CodeLink}
use Rattle.node_table.proofs.Showing.{expr_shown-chain}
use Rattle.depth_first_run.specs.Values.{value, chained}
use Rattle.slot_store.specs.Outcomes.{outcome_shown}
use Rattle.slot_store.proofs.Chains.{chain_value}
use Rattle.slot_store.proofs.expressions.+evaluate.Goals as goal

pub nested_outcome-returns-in-Number-outcome-2 : goal.nested_outcome-returns-in-Number-outcome-2
nested_outcome-returns-in-Number-outcome-2 t c names store e shows is =
    let front = c.in-Number-outcome-2.front in
    let head = expr_shown c.in-Chain.first.value in
    let rest = links_shown c.in-Chain.rest.items in
    let same = ap expr_shown c.in-Chain.is ∙ expr_shown-chain c.in-Chain.first c.in-Chain.rest in
    let read = subst (λ (x : Table.Expr). IsExpr names x e) same is in
    let first = sym (c.outcome-in-Chain.ensures names store (expr_read names head) shows
    (subst (λ (x : CodeExpr). IsExpr names (expr_shown x) (expr_read names head)) (sym c.deref-in-Chain.ensures) (refl, read.1.0)))
    ∙ ap outcome_shown c.in-Number-outcome-2.is in
    let fits = subst (λ (ls : List CodeLink). FitsLinks (length names) (links_shown ls)) (sym c.deref-in-Number-outcome-2.ensures.value) read.1.1 in
    let number = to_z-of_z w64 front (search rules) in
    c.chain.ensures names store shows fits
    ∙ ap (λ v. chained store (links_read names (links_shown c.deref-in-Number-outcome-2.result.now)) v) number
    ∙ ap (λ (ls : List CodeLink). chained store (links_read names (links_shown ls)) front) c.deref-in-Number-outcome-2.ensures.value
    ∙ sym (chain_value store (expr_read names head) (links_read names rest) front first)
    ∙ ap (value store) read.0
