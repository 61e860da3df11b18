-- The one place of the order, and the lane of its id.
use Rattle.std.proofs.Common.{◌≡◌, ◌∙◌, sym, ap, length, slice_get, ◌∷◌, []}
use Rattle.std.proofs.lemmas.List.{length-map}
use Rattle.deque_list.specs.DequeLists.{deque_at}
use Rattle.deque_list.proofs.ViewLemmas.{ids_shown, place_shown, items_shown, only_one, first_id}
use Rattle.deque_list.proofs.list.List.into_first.Goals as goal

pub returns-clause-order : goal.returns-clause-order
returns-clause-order g c = λ deque at.
    let found = place_shown c.self.inside.order c.self.inside.lanes c.self.inside.next c.args.self c.self.view_is deque.id 0 deque (at, λ _. deque.id) in
    let long : length c.args.self.deques ≡ length c.self.inside.order.places =
    ap (λ list. length list.deques) (sym c.self.view_is) ∙ length-map c.self.inside.order.places (deque_at c.self.inside.lanes.lanes) in
    let one : length c.self.inside.order.places ≡ 1 = sym long ∙ c.requires in
    only_one c.self.inside.order.places found.0 one found.1.0 ∙ ap (λ d. record { id = d.id; owner = d.owner } ∷ []) (sym found.2)

first_is : goal.returns-clause-id
first_is g c =
    ap (λ ids. slice_get ids 0) (ids_shown c.self.inside.order c.self.inside.lanes c.self.inside.next c.args.self c.self.view_is) ∙ sym c.in-Some.ensures

pub returns-clause-id : goal.returns-clause-id
returns-clause-id g c = first_is g c

pub returns-clause-lane : goal.returns-clause-lane
returns-clause-lane g c = λ deque at.
    sym (items_shown c.self.inside.order c.self.inside.lanes c.self.inside.next c.args.self c.self.view_is c.in-Some.id 0 deque c.take-lane.result
    (at, first_id c.args.self.deques deque c.in-Some.id at (first_is g c)) c.take-lane.ensures.lane)
