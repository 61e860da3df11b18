-- The first place where the labels differ decides, and where there is none the longer label is before.
use Rattle.std.proofs.Common.{◌≤◌, ◌⊎◌, length, arith, inl, inr}
use Rattle.std.proofs.lemmas.Bool.{cases_lt}
use Rattle.dag_order.proofs.LabelLemmas.{first_difference, one_ends, told_by_test}
use Rattle.dag_order.proofs.label.is_before.Goals as goal

pub returns-then-a-i : goal.returns-then-a-i
returns-then-a-i c = told_by_test _ _ (first_difference c.args.a.now c.args.b.now c.loop-i.i c.loop-i.invariant (omega arith) (omega arith) c.if-a-i.true)

pub returns : goal.returns
returns c =
    let ended : (length c.args.a.now ≤ c.loop-i.i) ⊎ (length c.args.b.now ≤ c.loop-i.i) =
    elim (cases_lt (length c.args.a.now) (length c.args.b.now)) [ inl lt ↦ inl (omega arith) | inr le ↦ inr (omega arith) ] in
    told_by_test _ _ (one_ends c.args.a.now c.args.b.now c.loop-i.i c.loop-i.invariant ended)
