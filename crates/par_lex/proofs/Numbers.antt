-- Numbers by their digits.
use Rattle.std.proofs.Common.{◌≡◌, ℕ, ◌+◌, ◌-◌, ◌*◌, ◌/◌, ◌<◌, ◌≤◌, List, [], ◌∷◌, length, sym, ap, ◌∙◌, arith}
use Rattle.par_text.specs.Lexing.{value_from, greatest_number}

pub value_from-step : (v c d : ℕ) (rest cs : List ℕ) (total : ℕ) → rest ≡ c ∷ cs → d ≡ c - 48 → value_from v rest ≡ total → value_from (v * 10 + d) cs ≡ total
unfolding value_from
value_from-step v c d rest cs total split digit so_far =
    ap (λ (n : ℕ). value_from (v * 10 + n) cs) digit ∙ ap (λ (w : List ℕ). value_from v w) (sym split) ∙ so_far

pub value_from-end : (v : ℕ) (rest : List ℕ) (total : ℕ) → length rest ≡ 0 → value_from v rest ≡ total → v ≡ total
unfolding value_from
value_from-end v [] total none so_far = so_far
value_from-end v (c ∷ cs) total none so_far = absurd (omega arith)

value_from-grows : (v : ℕ) (w : List ℕ) → v ≤ value_from v w
unfolding value_from
value_from-grows v [] = omega arith
value_from-grows v (c ∷ cs) = let more : v * 10 + (c - 48) ≤ value_from (v * 10 + (c - 48)) cs = value_from-grows (v * 10 + (c - 48)) cs in omega arith

pub too_large : (v c d : ℕ) (rest cs : List ℕ) (total : ℕ) → rest ≡ c ∷ cs → d ≡ c - 48 → (greatest_number - d) / 10 < v → value_from v rest ≡ total → greatest_number < total
too_large v c d rest cs total split digit lt so_far =
    let grown : v * 10 + d ≤ value_from (v * 10 + d) cs = value_from-grows (v * 10 + d) cs in
    let same = value_from-step v c d rest cs total split digit so_far in
    omega arith
