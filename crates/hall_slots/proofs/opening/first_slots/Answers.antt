use Rattle.hall_slots.proofs.Filling.{first_of}
use Rattle.hall_slots.proofs.opening.first_slots.Goals as goal

pub returns : goal.returns
returns c = first_of c.args.order c.args.lane c.args.pool c.args.deques c.in_ok-list.list c.in_ok-slots.slots.items c.add_empty_lanes.new.slots.items c.requires c.in_ok-list.ensures c.in_ok-slots.ensures c.in_ok-add_empty_lanes.ensures
