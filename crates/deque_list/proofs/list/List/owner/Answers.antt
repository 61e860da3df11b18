-- The owner that is seen is that of the place.
use Rattle.std.proofs.Common.{◌∙◌, ap, sym}
use Rattle.deque_list.proofs.ViewLemmas.{live_in_order, place_shown}
use Rattle.deque_list.proofs.list.List.owner.Goals as goal

pub owner-requires : goal.owner-requires
owner-requires g c = live_in_order c.self.inside.order c.self.inside.lanes c.self.inside.next c.args.self.now c.self.view_is c.args.id c.requires

pub returns : goal.returns
returns g c = λ rank deque at.
    let found = place_shown c.self.inside.order c.self.inside.lanes c.self.inside.next c.args.self.now c.self.view_is c.args.id rank deque at in
    c.owner.ensures rank found.0 found.1 ∙ ap (λ d. d.owner) (sym found.2)
