-- The turns of a word, once round, and what a deque tells of itself.
use Rattle.std.proofs.Common.{◌≡◌, ℕ, ◌+◌, ◌-◌, ◌*◌, ◌/◌, ◌%◌, ◌<◌, Bool, true, false, List, inl, inr, refl, sym, ap, subst, ◌∙◌, arith, mod-lt, true≢false}
use Rattle.std.specs.Prelude.{Option, None, Some, slice_get, MatchOption, IsTrue, ◌↔◌}
use Rattle.std.proofs.lemmas.Bool.{cases_lt}
use Rattle.std.proofs.lemmas.Option.{same_Some, none-some}
use Rattle.std.proofs.Math.Nat.{div-add-mod, add-mul-mod_self_left, mod-eq_of_lt}
use Rattle.deque_list.specs.Deques.{Deque, IsReady}
use Rattle.open_periods.specs.Passed.Play.{IsFirst}
use Rattle.play_rules.specs.Choices.{IsReadyAt}

-- a word may be cut down to its rest first
pub rest_first : (word turn n : ℕ) → (word % n + turn) % n ≡ (word + turn) % n
rest_first word turn n =
    let cut : n * (word / n) + word % n ≡ word = div-add-mod word n in
    let is : word + turn ≡ (word % n + turn) + n * (word / n) = omega (arith, cut) in
    sym (ap (λ t. t % n) is ∙ add-mul-mod_self_left (word % n + turn) n (word / n))

-- each number below n has its turn
pub has_turn : (word n x : ℕ) → x < n → (turn : ℕ) × (turn < n) × ((word + turn) % n ≡ x)
has_turn word n x below =
    let rest_below : word % n < n = mod-lt word (let some : 0 < n = omega (arith, below) in some) in
    elim (cases_lt x (word % n)) [
      | inl before ↦
          let turn : ℕ = x + n - word % n in
          let round : word % n + turn ≡ x + n * 1 = omega (arith, before, rest_below) in
          (turn, omega (arith, before, rest_below), sym (rest_first word turn n) ∙ ap (λ t. t % n) round ∙ add-mul-mod_self_left x n 1 ∙ mod-eq_of_lt below)
      | inr behind ↦
          let turn : ℕ = x - word % n in
          let same : word % n + turn ≡ x = omega (arith, behind) in
          (turn, omega (arith, below), sym (rest_first word turn n) ∙ ap (λ t. t % n) same ∙ mod-eq_of_lt below)
    ]

-- so where no turn passes, nothing does
pub none_passes : (Passes : ℕ → Type 0) (word n : ℕ) → ((e : ℕ) → e < n → ¬ Passes ((word + e) % n)) → (x : ℕ) → x < n → ¬ Passes x
none_passes Passes word n none x below passes =
    let turn = has_turn word n x below in none turn.0 turn.1 (subst Passes (sym turn.2) passes)

-- the first that passes
pub first_is : (Passes : ℕ → Type 0) (word n turn x : ℕ) → turn < n → x ≡ (word + turn) % n → Passes x → ((e : ℕ) → e < turn → ¬ Passes ((word + e) % n)) → IsFirst n word Passes x
first_is Passes word n turn x few is passes none = record { turns = turn; few = few; is = is; passes = passes; none_before = none }

-- one turn more that does not pass
pub one_more_fails : (Passes : ℕ → Type 0) (word n turn x : ℕ) → x ≡ (word + turn) % n → ¬ Passes x → ((e : ℕ) → e < turn → ¬ Passes ((word + e) % n))
    → (e : ℕ) → e < turn + 1 → ¬ Passes ((word + e) % n)
one_more_fails Passes word n turn x is fails none e few passes = elim (cases_lt e turn) [
  | inl before ↦ none e before passes
  | inr last ↦ let same : e ≡ turn = omega (arith, few, last) in fails (subst Passes (ap (λ t. (word + t) % n) same ∙ sym is) passes)
]

-- what a list tells of the deque at a place
pub told_ready : {T : Type 0} (deques : List (Deque T)) (place : ℕ) (told : Bool) → MatchOption (slice_get deques place) (told ≡ false) (λ deque. IsTrue told ↔ IsReady deque)
    → told ≡ true → IsReadyAt deques place
told_ready {T} deques place told says is = by_deque (slice_get deques place) refl says
  where
    by_deque : (o : Option (Deque T)) → slice_get deques place ≡ o → MatchOption o (told ≡ false) (λ deque. IsTrue told ↔ IsReady deque) → IsReadyAt deques place
    by_deque None there tells = absurd (true≢false (sym is ∙ tells))
    by_deque (Some deque) there tells = (deque, there, tells.0 is)

pub told_not_ready : {T : Type 0} (deques : List (Deque T)) (place : ℕ) (told : Bool) → MatchOption (slice_get deques place) (told ≡ false) (λ deque. IsTrue told ↔ IsReady deque)
    → told ≡ false → ¬ IsReadyAt deques place
told_not_ready {T} deques place told says is ready = by_deque (slice_get deques place) refl says
  where
    by_deque : (o : Option (Deque T)) → slice_get deques place ≡ o → MatchOption o (told ≡ false) (λ deque. IsTrue told ↔ IsReady deque) → ⊥
    by_deque None there tells = none-some ready.0 (sym there ∙ ready.1)
    by_deque (Some deque) there tells =
        let same : deque ≡ ready.0 = same_Some deque ready.0 (sym there ∙ ready.1) in
        true≢false (sym (tells.1 (subst IsReady (sym same) ready.2)) ∙ is)
