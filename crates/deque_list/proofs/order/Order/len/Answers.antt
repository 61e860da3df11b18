-- The order is lawful.
use Rattle.std.proofs.Common.{ap, sym}
use Rattle.deque_list.proofs.OrderLemmas.{sound_is_lawful}
use Rattle.deque_list.proofs.order.Order.len.Goals as goal

pub returns-clause-lawful : goal.returns-clause-lawful
returns-clause-lawful c =
    sound_is_lawful c.args.self.now _ _ (ap (λ order. order.places) (sym c.self.view_is)) (ap (λ order. order.most) (sym c.self.view_is)) c.self.invariant.0
