-- The number of a comparison, as a condition.
use Rattle.std.proofs.Common.{◌≡◌, Bool, true, false, ℤ, Ok, Err, refl, sym, ap, ◌∙◌}
use Rattle.par_tree.specs.Tree.{Comparison}
use Rattle.slot_store.specs.Passed.Values.{Outcome, compared, holds, truth, is_true}

truth_true : (b : Bool) → is_true (truth b) ≡ b
truth_true true = refl
truth_true false = refl

abbrev number_or : ℤ → Outcome → ℤ
number_or d (Ok n) = n
number_or d (Err kind) = d

same_number : (op : Comparison) (x y n : ℤ) → compared op x y ≡ Ok n → truth (holds op x y) ≡ n
unfolding compared
same_number op x y n e = ap (number_or n) e

pub compared_true : (op : Comparison) (x y n : ℤ) → compared op x y ≡ Ok n → is_true n ≡ holds op x y
compared_true op x y n e = ap is_true (sym (same_number op x y n e)) ∙ truth_true (holds op x y)
