-- The deque leaves with its lane, which is empty.
use Rattle.std.proofs.Common.{◌∙◌, sym}
use Rattle.deque_list.proofs.PlaceLaws.{id_stands}
use Rattle.deque_list.proofs.ViewLemmas.{place_shown, items_shown}
use Rattle.deque_list.proofs.ChangeLemmas.{removed_kept, removed_shown, removed_rest, removed_ids}
use Rattle.deque_list.proofs.list.List.remove.Goals as goal

pub remove-requires : goal.remove-requires
remove-requires g c =
    let found = place_shown c.self.inside.order c.self.inside.lanes c.self.inside.next c.args.self.now c.self.view_is c.args.id c.requires.0 c.requires.1 c.requires.2 in
    (c.requires.0, id_stands c.self.inside.order.places c.args.id c.requires.0 found.0 found.1)

pub take-lane-requires : goal.take-lane-requires
take-lane-requires g c =
    let found = place_shown c.self.inside.order c.self.inside.lanes c.self.inside.next c.args.self.now c.self.view_is c.args.id c.requires.0 c.requires.1 c.requires.2 in
    c.self.invariant.live c.args.id (c.requires.0, id_stands c.self.inside.order.places c.args.id c.requires.0 found.0 found.1)

pub keep-requires : goal.keep-requires
keep-requires g c =
    sym (items_shown c.self.inside.order c.self.inside.lanes c.self.inside.next c.args.self.now c.self.view_is c.args.id c.requires.0 c.requires.1 c.take-lane.result c.requires.2 c.take-lane.ensures.lane) ∙ c.requires.3

pub invariant_of-self : goal.invariant_of-self
invariant_of-self g c =
    let found = place_shown c.self.inside.order c.self.inside.lanes c.self.inside.next c.args.self.now c.self.view_is c.args.id c.requires.0 c.requires.1 c.requires.2 in
    removed_kept c.self.inside.order c.self.inside.lanes c.self.inside.next c.args.self.now c.self.view_is c.self.invariant c.remove.new.self c.take-lane.new.self c.remove.ensures.most
    c.args.id c.remove.ensures.place c.take-lane.ensures.rest (c.requires.0, id_stands c.self.inside.order.places c.args.id c.requires.0 found.0 found.1) c.take-lane.ensures.keeps_room

pub returns-clause-deque : goal.returns-clause-deque
returns-clause-deque g c =
    removed_shown c.self.inside.order c.self.inside.lanes c.self.inside.next c.args.self.now c.self.view_is c.self.invariant c.remove.new.self c.take-lane.new.self c.remove.ensures.most
    c.args.id c.remove.ensures.place c.take-lane.ensures.rest

pub returns-clause-rest : goal.returns-clause-rest
returns-clause-rest g c =
    removed_rest c.self.inside.order c.self.inside.lanes c.self.inside.next c.args.self.now c.self.view_is c.self.invariant c.remove.new.self c.take-lane.new.self c.remove.ensures.most
    c.args.id c.remove.ensures.place c.take-lane.ensures.rest

pub returns-clause-ids : goal.returns-clause-ids
returns-clause-ids g c =
    removed_ids c.self.inside.order c.self.inside.lanes c.self.inside.next c.args.self.now c.self.view_is c.self.invariant c.remove.new.self c.take-lane.new.self c.remove.ensures.most
    c.args.id c.remove.ensures.place c.take-lane.ensures.rest c.remove.ensures.ids
