-- What a walk along two labels learns of their order.
use Rattle.std.proofs.Common.{◌≡◌, ◌≢◌, ◌↔◌, ℕ, IsTrue, nat_lt, zero, suc, ◌<◌, ◌≤◌, ◌⊎◌, List, [], ◌∷◌, length, get_or, arith, inl, inr}
use Rattle.std.proofs.lemmas.Bool.{lt-ltb}
use borrow.Author.Tests.{ltb-true}
use Rattle.dag_order.specs.LabelOrder.{Before}

-- up to place i the two lists are the same
abbrev pub Agree : List ℕ → List ℕ → ℕ → Type 0
Agree a b i = (k : ℕ) → k < i → get_or a k 0 ≡ get_or b k 0

pub first_difference : (a b : List ℕ) (i : ℕ) → Agree a b i → i < length a → i < length b → get_or a i 0 ≢ get_or b i 0
    → Before a b ↔ (get_or a i 0 < get_or b i 0)
first_difference [] b i same in_a in_b differ = absurd (omega arith)
first_difference (x ∷ a) [] i same in_a in_b differ = absurd (omega arith)
first_difference (x ∷ a) (y ∷ b) zero same in_a in_b differ =
    (λ h. elim h [ inl lt ↦ lt | inr p ↦ absurd (differ p.0) ], λ lt. inl lt)
first_difference (x ∷ a) (y ∷ b) (suc i) same in_a in_b differ =
    let e : x ≡ y = same 0 (omega arith) in
    let rest : Before a b ↔ (get_or a i 0 < get_or b i 0) = first_difference a b i (λ k lt. same (suc k) (omega arith)) (omega arith) (omega arith) differ in
    (λ h. elim h [ inl lt ↦ absurd (omega arith) | inr p ↦ rest.0 p.1 ], λ lt. inr (e, rest.1 lt))

pub one_ends : (a b : List ℕ) (i : ℕ) → Agree a b i → (length a ≤ i) ⊎ (length b ≤ i) → Before a b ↔ (length b < length a)
one_ends [] b i same ended = (λ h. absurd h, λ lt. absurd (omega arith))
one_ends (x ∷ a) [] i same ended = (λ h. omega arith, λ lt. tt)
one_ends (x ∷ a) (y ∷ b) zero same ended = elim ended [ inl le ↦ absurd (omega arith) | inr le ↦ absurd (omega arith) ]
one_ends (x ∷ a) (y ∷ b) (suc i) same ended =
    let e : x ≡ y = same 0 (omega arith) in
    let shorter : (length a ≤ i) ⊎ (length b ≤ i) = elim ended [ inl le ↦ inl (omega arith) | inr le ↦ inr (omega arith) ] in
    let rest : Before a b ↔ (length b < length a) = one_ends a b i (λ k lt. same (suc k) (omega arith)) shorter in
    (λ h. elim h [ inl lt ↦ absurd (omega arith) | inr p ↦ let lt : length b < length a = rest.0 p.1 in omega arith ], λ lt. inr (e, rest.1 (omega arith)))

-- a fact that is an order of two numbers is what the test of that order tells
pub told_by_test : {P : Type 0} (m n : ℕ) → P ↔ (m < n) → IsTrue (nat_lt m n) ↔ P
told_by_test m n same = (λ t. same.1 (ltb-true m n t), λ p. lt-ltb m n (same.0 p))
