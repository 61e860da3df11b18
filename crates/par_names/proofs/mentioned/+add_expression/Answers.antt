use Rattle.par_names.specs.Sets.{names_behind}
use Rattle.par_names.proofs.Listed.{if_ok, chain_listed}
use Rattle.par_names.proofs.mentioned.+add_expression.Goals as goal

pub add_expression-returns-in_ok-add_expression-in-Chain : goal.add_expression-returns-in_ok-add_expression-in-Chain
add_expression-returns-in_ok-add_expression-in-Chain t c =
    if_ok c.add_links.result
    (chain_listed c.args.expr.now c.deref-in-Chain.result.now c.in-Chain.first c.in-Chain.rest c.deref-in-Chain-2.result.now (names_behind c.args.out.now.items) (names_behind c.add_expression-in-Chain.new.out.items) (names_behind c.add_links.new.out.items)
    c.in-Chain.is c.deref-in-Chain.ensures c.deref-in-Chain-2.ensures.value c.in_ok-add_expression-in-Chain.ensures)
    c.add_links.ensures
