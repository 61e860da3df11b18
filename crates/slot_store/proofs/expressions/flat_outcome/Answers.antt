use Rattle.std.proofs.Common.{◌≡◌, ℤ, Ok, Option, MatchOption, List, length, refl, sym, ap, ◌∙◌, subst, w64, rules}
use Rattle.std.specs.Prelude.{⊤}
use Rattle.std.proofs.lemmas.Int.{to_z-of_z}
use Rattle.node_table.specs.Table
use Rattle.node_table.specs.Shown.{expr_shown, links_shown}
use Rattle.node_table.specs.Reading.{IsExpr, expr_read, links_read, FitsLinks}
use Rattle.node_table.specs.declared.code_expr.CodeExpr.{CodeExpr}
use Rattle.node_table.specs.declared.code_link.CodeLink.{CodeLink}
use Rattle.node_table.proofs.Showing.{expr_shown-chain}
use Rattle.depth_first_run.specs.Values.{Outcome, value, chained}
use Rattle.slot_store.specs.Outcomes.{outcome_shown}
use Rattle.slot_store.proofs.Chains.{chain_value}
use Rattle.slot_store.proofs.expressions.flat_outcome.Goals as goal

pub returns-in_ok-front-in-Chain : goal.returns-in_ok-front-in-Chain
returns-in_ok-front-in-Chain c names store e shows is =
    let front = c.in_ok-front-in-Chain.front in
    let head = expr_shown c.in-Chain.first.value in
    let rest = links_shown c.in-Chain.rest.items in
    let same = ap expr_shown c.in-Chain.is ∙ expr_shown-chain c.in-Chain.first c.in-Chain.rest in
    let read = subst (λ (x : Table.Expr). IsExpr names x e) same is in
    let told = c.leaf-in-Chain.ensures names store (expr_read names head) shows
    (subst (λ (x : CodeExpr). IsExpr names (expr_shown x) (expr_read names head)) (sym c.deref-in-Chain.ensures) (refl, read.1.0)) in
    let first = subst (λ (o : Option ℤ). MatchOption o ⊤ (λ n. value store (expr_read names head) ≡ Ok n)) c.in_ok-front-in-Chain.was told in
    let fits = subst (λ (ls : List CodeLink). FitsLinks (length names) (links_shown ls)) (sym c.deref-in-Chain-2.ensures.value) read.1.1 in
    subst (λ (v : Outcome). MatchOption c.flat_chain.result ⊤ (λ outcome. outcome_shown outcome ≡ v))
    (ap (λ v. chained store (links_read names (links_shown c.deref-in-Chain-2.result.now)) v) (to_z-of_z w64 front (search rules))
    ∙ ap (λ (ls : List CodeLink). chained store (links_read names (links_shown ls)) front) c.deref-in-Chain-2.ensures.value
    ∙ sym (chain_value store (expr_read names head) (links_read names rest) front first)
    ∙ ap (value store) read.0)
    (c.flat_chain.ensures names store shows fits)
