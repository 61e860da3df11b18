-- The first place that passes is one, and below the bound.
use Rattle.std.proofs.Common.{◌≡◌, ℕ, ◌+◌, ◌%◌, ◌<◌, inl, inr, sym, ap, subst, ◌∙◌, arith, mod-lt}
use Rattle.std.proofs.lemmas.Bool.{cases_lt}
use Rattle.open_periods.specs.Passed.Play.{IsFirst}

-- there is one first that passes
pub one_first : (n word : ℕ) (P : ℕ → Type 0) (x y : ℕ) → IsFirst n word P x → IsFirst n word P y → x ≡ y
one_first n word P x y a b = elim (cases_lt a.turns b.turns) [
  | inl before ↦ absurd (b.none_before a.turns before (subst P a.is a.passes))
  | inr behind ↦ elim (cases_lt b.turns a.turns) [
    | inl before ↦ absurd (a.none_before b.turns before (subst P b.is b.passes))
    | inr equal ↦ let same : a.turns ≡ b.turns = omega (arith, behind, equal) in a.is ∙ ap (λ t. (word + t) % n) same ∙ sym b.is
  ]
]

-- and it is below n
pub first_below : (n word : ℕ) (P : ℕ → Type 0) (x : ℕ) → IsFirst n word P x → x < n
first_below n word P x first =
    let few = first.few in subst (λ t. t < n) (sym first.is) (mod-lt (word + first.turns) (let some : 0 < n = omega (arith, few) in some))
