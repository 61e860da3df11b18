-- Of the items that were reached, each is before all later ones.
use Rattle.std.proofs.Common.{ℕ, ◌<◌, get_or}
use Rattle.dag_order.specs.LabelOrder.{Before}
use Rattle.dag_order.proofs.placed.is_in_order.Given as goal

abbrev pub invariant-loop-i : goal.invariant-loop-i
invariant-loop-i g l = (i j : ℕ) (d : _) → i < j → j < l.i → Before (g.T.Placed.label_of (get_or l.items i d)) (g.T.Placed.label_of (get_or l.items j d))
