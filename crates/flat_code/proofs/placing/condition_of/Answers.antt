use Rattle.std.proofs.Common.{rules, ◌≤◌}
use Rattle.node_table.specs.Shown.{expr_shown}
use Rattle.flat_code.specs.Room.{most_slots}
use Rattle.flat_code.proofs.More.{room_more}
use Rattle.flat_code.proofs.placing.condition_of.Goals as goal

pub lower_condition-requires : goal.lower_condition-requires
lower_condition-requires c =
    let low : c.args.scope.now.size ≤ most_slots = search rules in
    room_more (expr_shown c.args.cond.now) c.args.scope.now.slots c.args.scope.now.size most_slots low c.requires.2
