-- The items that are seen are those of the lane.
use Rattle.std.proofs.Common.{◌∙◌, ap, sym, slice_get}
use Rattle.deque_list.proofs.ViewLemmas.{lane_of_live, items_shown}
use Rattle.deque_list.proofs.list.List.item.Goals as goal

pub lane-requires : goal.lane-requires
lane-requires g c = lane_of_live c.self.inside.order c.self.inside.lanes c.self.inside.next c.args.self.now c.self.view_is c.args.id c.self.invariant c.requires

pub returns : goal.returns
returns g c = λ rank deque at.
    c.item.ensures ∙ ap (λ items. slice_get items c.args.place)
    (sym (items_shown c.self.inside.order c.self.inside.lanes c.self.inside.next c.args.self.now c.self.view_is c.args.id rank deque c.lane.result.now at c.lane.ensures))
