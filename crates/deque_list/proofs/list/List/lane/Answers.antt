-- The lane has the deque's items.
use Rattle.std.proofs.Common.{sym}
use Rattle.deque_list.proofs.ViewLemmas.{lane_of_live, items_shown}
use Rattle.deque_list.proofs.LaneLemmas.{room_before}
use Rattle.deque_list.proofs.list.List.lane.Goals as goal

pub lane-requires : goal.lane-requires
lane-requires g c = lane_of_live c.self.inside.order c.self.inside.lanes c.self.inside.next c.args.self.now c.self.view_is c.args.id c.self.invariant c.requires

pub returns-clause-items : goal.returns-clause-items
returns-clause-items g c = λ rank deque at. sym (items_shown c.self.inside.order c.self.inside.lanes c.self.inside.next c.args.self.now c.self.view_is c.args.id rank deque c.lane.result.now at c.lane.ensures)

pub returns-clause-spare : goal.returns-clause-spare
returns-clause-spare g c = sym (room_before c.self.inside.order c.self.inside.lanes c.self.inside.next c.args.self.now c.self.view_is c.args.id c.lane.result.now c.lane.result.now c.self.invariant c.requires c.lane.ensures)
