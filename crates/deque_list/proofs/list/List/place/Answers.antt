-- The place that is seen is that of the order.
use Rattle.std.proofs.Common.{◌∙◌}
use Rattle.deque_list.proofs.ViewLemmas.{place_seen}
use Rattle.deque_list.proofs.list.List.place.Goals as goal

pub returns : goal.returns
returns g c = c.place.ensures ∙ place_seen c.self.inside.order c.self.inside.lanes c.self.inside.next c.args.self.now c.self.view_is c.args.rank
