-- The next item is after its neighbour, and so after all items before that.
use Rattle.std.proofs.Common.{◌≡◌, true, false, arith, sym, ◌∙◌}
use Rattle.dag_order.specs.LabelOrder.{Before}
use Rattle.dag_order.proofs.OrderLemmas.{one_more_in_order, not_in_order}
use Rattle.dag_order.proofs.placed.is_in_order.Goals as goal

pub returns-then-not-before : goal.returns-then-not-before
returns-then-not-before g c = (
  λ no. cc,
  λ all. absurd (not_in_order (λ x y. Before (g.T.Placed.label_of x) (g.T.Placed.label_of y)) c.args.items.now c.loop-i.i (omega arith) (omega arith) _ _ c.index-items-i.is c.index-items-i-in-loop-i.is
      (λ h. let clash : false ≡ true = sym c.if-not-before.true ∙ c.before-in-loop-i.ensures.1 (rw (c.label.ensures, c.label-in-loop-i.ensures) h) in cc) all),
)

pub loop-i-preserved : goal.loop-i-preserved
loop-i-preserved g c =
    one_more_in_order (λ x y. Before (g.T.Placed.label_of x) (g.T.Placed.label_of y)) g.met.T.Placed.before_further c.args.items.now c.loop-i.i (omega arith) (omega arith)
    c.loop-i.invariant _ _ c.index-items-i.is c.index-items-i-in-loop-i.is
    (rw (← c.label.ensures, ← c.label-in-loop-i.ensures) (c.before-in-loop-i.ensures.0 c.if-not-before.false))
