use Rattle.std.proofs.Common.{rules, ap, sym, ◌∙◌, ◌==◌, ◌+◌, ◌<◌, arith}
use Rattle.std.proofs.lemmas.Bool.{false≢true}
use Rattle.std.proofs.lemmas.List.{nil_from_length}
use Rattle.std.proofs.lemmas.Result.{IfOk-weaker}
use Rattle.node_table.specs.Shown.{expr_shown, links_shown}
use Rattle.par_tree.specs.View.{chain_op_tree}
use Rattle.flat_expressions.specs.Shown.{operand_shown, acts_shown}
use Rattle.flat_code.specs.Room.{most_slots}
use Rattle.flat_code.proofs.Weights.{expr_weight, links_weight}
use Rattle.flat_code.proofs.Links.{link_next, links_end, some_links, chain_parts, link_parts, chain_made}
use Rattle.flat_code.proofs.expressions.+lower_expression.Goals as goal

pub lower_expression-lower_links-requires : goal.lower_expression-lower_links-requires
lower_expression-lower_links-requires t c =
    let parts = chain_parts most_slots c.args.free c.in-Chain.first c.in-Chain.rest c.args.expr.now c.deref-in-Chain-2.result.now c.in-Chain.is
    c.deref-in-Chain-2.ensures.value c.requires in
    let room = parts.0 in
    let less = parts.2 in
    search rules

pub lower_links-lower_operand-requires : goal.lower_links-lower_operand-requires
lower_links-lower_operand-requires t c =
    let parts = link_parts most_slots c.args.free c.links.rest.now c.in-Some.behind.now c.in-Some.link.now c.in-Some.ensures.cases.0 c.links.invariant.1 in
    let room = parts.1 in
    let lighter = parts.3 in
    let kept = c.links.invariant.2 in
    let less : expr_weight (expr_shown c.in-Some.link.now.operand) + 1 < links_weight (links_shown c.args.links.now) = omega (arith, lighter, kept) in
    search rules

pub lower_links-links-preserved : goal.lower_links-links-preserved
lower_links-links-preserved t c =
    let link = c.in-Some.link.now in
    let parts = link_parts most_slots c.args.free c.links.rest.now c.in-Some.behind.now link c.in-Some.ensures.cases.0 c.links.invariant.1 in
    let lighter = parts.4 in
    let kept = c.links.invariant.2 in (
      link_next (links_shown c.links.rest.now) (links_shown c.in-Some.behind.now) (chain_op_tree link.op) (expr_shown link.operand) c.args.to c.args.free
          c.link_target-target.result (operand_shown c.links.left) (operand_shown c.in_ok-right.right) (acts_shown c.links.acts.items)
          (acts_shown c.lower_operand.new.acts.items)
          (acts_shown c.add-in-Some.new.acts.items)
          _
          (ap links_shown c.in-Some.ensures.cases.0)
          c.in_ok-right.ensures
          c.link_target-target.ensures
          c.in_ok-add.ensures
          c.links.invariant.0,
      parts.2,
      omega (arith, lighter, kept),
    )

pub lower_links-returns : goal.lower_links-returns
lower_links-returns t c =
    links_end c.links.rest.now c.args.links.now c.args.to c.args.free (operand_shown c.links.left) (operand_shown c.args.front)
    (acts_shown c.links.acts.items) (acts_shown c.args.acts.now.items)
    (nil_from_length c.links.rest.now c.in_default.ensures.cases)
    (some_links c.args.links.now (λ e. false≢true (sym c.if-is_empty.false ∙ c.is_empty.ensures ∙ ap (λ n. n == 0) e)))
    c.links.invariant.0

pub lower_expression-returns-in_ok-front-in-Chain : goal.lower_expression-returns-in_ok-front-in-Chain
lower_expression-returns-in_ok-front-in-Chain t c =
    IfOk-weaker c.lower_links.result _ _
    (λ x made.
    chain_made c.in-Chain.first c.in-Chain.rest c.args.expr.now c.deref-in-Chain.result.now c.deref-in-Chain-2.result.now c.args.to c.args.free
    (operand_shown c.in_ok-front-in-Chain.front) (acts_shown c.args.acts.now.items) (acts_shown c.lower_operand-in-Chain.new.acts.items)
    (acts_shown c.lower_links.new.acts.items)
    c.in-Chain.is
    c.deref-in-Chain.ensures
    c.deref-in-Chain-2.ensures.value
    c.in_ok-front-in-Chain.ensures
    made)
    c.lower_links.ensures
