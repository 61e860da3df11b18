-- The place has no owner.
use Rattle.std.proofs.Common.{None}
use Rattle.deque_list.proofs.ViewLemmas.{live_in_order, owner_kept, owner_shown, owner_ids}
use Rattle.deque_list.proofs.list.List.give_up.Goals as goal

pub give_up-requires : goal.give_up-requires
give_up-requires g c = live_in_order c.self.inside.order c.self.inside.lanes c.self.inside.next c.args.self.now c.self.view_is c.args.id c.requires

pub invariant_of-self : goal.invariant_of-self
invariant_of-self g c =
    owner_kept c.self.inside.order c.self.inside.lanes c.self.inside.next c.args.self.now c.self.view_is c.give_up.new.self c.self.invariant c.give_up.ensures.ids c.give_up.ensures.most

pub returns-clause-deque : goal.returns-clause-deque
returns-clause-deque g c =
    owner_shown c.self.inside.order c.self.inside.lanes c.self.inside.next c.args.self.now c.self.view_is c.give_up.new.self c.args.id None c.give_up.ensures.place

pub returns-clause-ids : goal.returns-clause-ids
returns-clause-ids g c = owner_ids c.self.inside.order c.self.inside.lanes c.self.inside.next c.args.self.now c.self.view_is c.give_up.new.self c.give_up.ensures.ids
