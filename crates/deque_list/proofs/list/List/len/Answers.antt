-- The list is lawful.
use Rattle.deque_list.proofs.ViewLemmas.{kept_is_lawful}
use Rattle.deque_list.proofs.list.List.len.Goals as goal

pub returns-clause-lawful : goal.returns-clause-lawful
returns-clause-lawful g c = kept_is_lawful c.self.inside.order c.self.inside.lanes c.self.inside.next c.args.self.now c.self.view_is c.self.invariant c.len.ensures.lawful
