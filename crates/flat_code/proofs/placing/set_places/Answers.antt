use Rattle.std.proofs.Common.{rules, ◌≤◌}
use Rattle.node_table.specs.Shown.{expr_shown}
use Rattle.flat_code.specs.Room.{most_slots}
use Rattle.flat_code.proofs.More.{room_more}
use Rattle.flat_code.proofs.placing.set_places.Goals as goal

pub lower_expression-requires : goal.lower_expression-requires
lower_expression-requires c =
    let low : c.args.scope.now.size ≤ most_slots = search rules in
    room_more (expr_shown c.args.value.now) c.args.scope.now.slots c.args.scope.now.size most_slots low c.requires.2
