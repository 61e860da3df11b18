-- The ids that are seen are those of the order.
use Rattle.std.proofs.Common.{◌≡◌, sym, slice_get, subst, List, MatchOption, Some}
use Rattle.deque_list.specs.declared.deque_id.DequeId.{DequeId}
use Rattle.deque_list.specs.Ids.{IsLive}
use Rattle.deque_list.proofs.ViewLemmas.{ids_shown}
use Rattle.deque_list.proofs.list.List.rank.Goals as goal

pub returns : goal.returns
returns g c =
    let P : List DequeId → Type 0 = λ ids. MatchOption c.rank.result (¬ IsLive ids c.args.id) (λ rank. slice_get ids rank ≡ Some c.args.id) in
    subst P (sym (ids_shown c.self.inside.order c.self.inside.lanes c.self.inside.next c.args.self.now c.self.view_is)) c.rank.ensures
