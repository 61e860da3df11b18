use Rattle.hall_slots.proofs.Starting.{first_keeps}
use Rattle.hall_slots.proofs.opening.open_row.Goals as goal

pub new-requires-clause-keeps : goal.new-requires-clause-keeps
new-requires-clause-keeps c = first_keeps c.args.key c.requires.key c.args.order c.args.lane c.args.pool c.in_ok-slots.slots.items c.requires.order.0 c.requires.order.1 c.requires.root c.requires.pool.0 c.requires.pool.1 c.in_ok-slots.ensures
