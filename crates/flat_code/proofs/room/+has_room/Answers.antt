use Rattle.std.proofs.Common.{rules, ap, ◌∙◌}
use Rattle.node_table.specs.Shown.{expr_shown}
use Rattle.node_table.proofs.Showing.{expr_shown-chain}
use Rattle.flat_code.proofs.room.+has_room.Goals as goal

pub has_room-returns-then-has_room : goal.has_room-returns-then-has_room
has_room-returns-then-has_room t c =
    let whole = ap expr_shown c.in-Chain.is ∙ expr_shown-chain c.in-Chain.first c.in-Chain.rest in
    search rules
