-- The place has the new owner.
use Rattle.std.proofs.Common.{Some, ap, sym, ◌∙◌}
use Rattle.deque_list.proofs.ViewLemmas.{place_shown, owner_kept, owner_shown, owner_ids}
use Rattle.deque_list.proofs.list.List.take_over.Goals as goal

pub take_over-requires : goal.take_over-requires
take_over-requires g c =
    let found = place_shown c.self.inside.order c.self.inside.lanes c.self.inside.next c.args.self.now c.self.view_is c.args.id c.requires.0 c.requires.1 c.requires.2 in
    record { unowned = (c.requires.0, found.0, found.1, ap (λ d. d.owner) (sym found.2) ∙ c.requires.3) }

pub invariant_of-self : goal.invariant_of-self
invariant_of-self g c = owner_kept c.self.inside.order c.self.inside.lanes c.self.inside.next c.args.self.now c.self.view_is c.take_over.new.self c.self.invariant c.take_over.ensures.ids c.take_over.ensures.most

pub returns-clause-deque : goal.returns-clause-deque
returns-clause-deque g c =
    owner_shown c.self.inside.order c.self.inside.lanes c.self.inside.next c.args.self.now c.self.view_is c.take_over.new.self c.args.id (Some c.args.owner) c.take_over.ensures.place

pub returns-clause-ids : goal.returns-clause-ids
returns-clause-ids g c = owner_ids c.self.inside.order c.self.inside.lanes c.self.inside.next c.args.self.now c.self.view_is c.take_over.new.self c.take_over.ensures.ids
