-- As far as the two labels were read, they have the same ordinals.
use Rattle.dag_order.proofs.LabelLemmas.{Agree}
use Rattle.dag_order.proofs.label.is_before.Given as goal

abbrev pub invariant-loop-i : goal.invariant-loop-i
invariant-loop-i l = Agree l.a l.b l.i
