-- The owner is that of the place, and the items are those of the lane.
use Rattle.std.proofs.Common.{◌≡◌, sym, subst, inl, refl, Option, MatchOption, IsTrue, false}
use Rattle.std.specs.Prelude.{◌↔◌, nat_le}
use Rattle.deque_list.specs.Deques.{Deque, IsReady}
use Rattle.deque_list.specs.DequeLists.{deque_at}
use Rattle.deque_list.proofs.PlaceLaws.{id_stands}
use Rattle.deque_list.proofs.ViewLemmas.{deque_of_place, items_shown, none_from, ready_by_items}
use Rattle.deque_list.proofs.list.List.ready_at.Goals as goal

pub lane-requires : goal.lane-requires
lane-requires g c =
    let place = c.in-Some.place in
    c.self.invariant.live place.id (c.args.rank, id_stands c.self.inside.order.places place.id c.args.rank place (sym c.in-Some.ensures, refl))

pub returns-then-is_none : goal.returns-then-is_none
returns-then-is_none g c =
    let P : Option (Deque g.row.T.Denot) → Type 0 = λ o. MatchOption o (c.is_none.result ≡ false) (λ deque. IsTrue c.is_none.result ↔ IsReady deque) in
    subst P (sym (deque_of_place c.self.inside.order c.self.inside.lanes c.self.inside.next c.args.self.now c.self.view_is c.args.rank c.in-Some.place (sym c.in-Some.ensures)))
    (λ test. inl (none_from c.in-Some.place.owner c.if-is_none.ensures), λ ready. c.if-is_none.true)

pub returns-else-is_none : goal.returns-else-is_none
returns-else-is_none g c =
    let place = c.in-Some.place in
    let deque : Deque g.row.T.Denot = deque_at c.self.inside.lanes.lanes place in
    let here = deque_of_place c.self.inside.order c.self.inside.lanes c.self.inside.next c.args.self.now c.self.view_is c.args.rank place (sym c.in-Some.ensures) in
    let items = items_shown c.self.inside.order c.self.inside.lanes c.self.inside.next c.args.self.now c.self.view_is place.id c.args.rank deque c.lane.result.now (here, refl) c.lane.ensures in
    let P : Option (Deque g.row.T.Denot) → Type 0 = λ o. MatchOption o (nat_le 2 c.len.result ≡ false) (λ d. IsTrue (nat_le 2 c.len.result) ↔ IsReady d) in
    subst P (sym here) (ready_by_items deque place.owner c.lane.result.now.items c.len.result refl c.if-is_none.ensures items c.len.ensures)
