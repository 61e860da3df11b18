-- The owner is that of the place, and the items are those of the lane.
use Rattle.std.proofs.Common.{◌∙◌, ap, sym, inl}
use Rattle.deque_list.proofs.ViewLemmas.{live_in_order, lane_of_live, place_shown, items_shown, none_from, ready_by_items}
use Rattle.deque_list.proofs.list.List.ready.Goals as goal

pub owner-requires : goal.owner-requires
owner-requires g c = live_in_order c.self.inside.order c.self.inside.lanes c.self.inside.next c.args.self.now c.self.view_is c.args.id c.requires

pub lane-requires : goal.lane-requires
lane-requires g c = lane_of_live c.self.inside.order c.self.inside.lanes c.self.inside.next c.args.self.now c.self.view_is c.args.id c.self.invariant c.requires

pub returns-then-is_none : goal.returns-then-is_none
returns-then-is_none g c = λ rank deque at.
    let found = place_shown c.self.inside.order c.self.inside.lanes c.self.inside.next c.args.self.now c.self.view_is c.args.id rank deque at in
    let owner = c.owner.ensures rank found.0 found.1 ∙ ap (λ d. d.owner) (sym found.2) in
    (λ test. inl (sym owner ∙ none_from c.owner.result c.if-is_none.ensures), λ ready. c.if-is_none.true)

pub returns-else-is_none : goal.returns-else-is_none
returns-else-is_none g c = λ rank deque at.
    let found = place_shown c.self.inside.order c.self.inside.lanes c.self.inside.next c.args.self.now c.self.view_is c.args.id rank deque at in
    let owner = c.owner.ensures rank found.0 found.1 ∙ ap (λ d. d.owner) (sym found.2) in
    let items = items_shown c.self.inside.order c.self.inside.lanes c.self.inside.next c.args.self.now c.self.view_is c.args.id rank deque c.lane.result.now at c.lane.ensures in
    ready_by_items deque c.owner.result c.lane.result.now.items c.len.result owner c.if-is_none.ensures items c.len.ensures
