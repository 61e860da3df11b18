-- That labels rise can be decided, so that it is known where it is known to be so.
use Rattle.std.proofs.Common.{ℕ, List, [], ◌∷◌, inl, inr, subst, sym}
use Rattle.std.proofs.Math.Logic.{∥∥₁_elim, ∥∥₁_map}
use Rattle.dag_order.specs.LabelOrder.{Before}
use Rattle.dag_order.specs.LabelLaws.{never_before_itself, before_further, three_ways}
use Rattle.deque_machine.specs.Moments.{Rises}
use Rattle.deque_machine.proofs.Lists.{each_from, each_among}

before_from : (a b : List ℕ) → ∥ Before a b ∥₁ → Before a b
before_from a b known = elim (three_ways a b) [
  | inl before ↦ before
  | inr others ↦ absurd (∥∥₁_elim known (λ x y. absurd x) (λ before. elim others [
    | inl same ↦ never_before_itself a (subst (Before a) (sym same) before)
    | inr back ↦ never_before_itself a (before_further a b a before back)
  ]))
]

pub rises_from : (labels : List (List ℕ)) → ∥ Rises labels ∥₁ → Rises labels
rises_from [] known = tt
rises_from (label ∷ labels) known = (
  each_from (Before label) labels
      (λ other there. before_from label other (∥∥₁_map known (λ rises. each_among (Before label) other labels rises.0 there))),
  rises_from labels (∥∥₁_map known (λ rises. rises.1)),
)
