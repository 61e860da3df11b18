-- The ids that are seen are those of the order.
use Rattle.std.proofs.Common.{◌∙◌, ap, sym, slice_get}
use Rattle.deque_list.proofs.ViewLemmas.{ids_shown}
use Rattle.deque_list.proofs.list.List.at.Goals as goal

pub returns : goal.returns
returns g c =
    c.at.ensures ∙ ap (λ ids. slice_get ids c.args.rank) (sym (ids_shown c.self.inside.order c.self.inside.lanes c.self.inside.next c.args.self.now c.self.view_is))
