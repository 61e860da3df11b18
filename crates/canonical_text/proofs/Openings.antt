-- How many `(` stand in bytes.
use Rattle.std.proofs.Common.{◌≡◌, ℕ, suc, ◌+◌, ◌≤◌, ◌<◌, ◌^◌, Bool, true, false, List, [], ◌∷◌, ◌++◌, refl, ap, ◌∙◌, subst, arith}
use Rattle.std.specs.Prelude.{◌==◌, pos, codes}
use Rattle.std.specs.Fmt.{decimal, signed_decimal}
use Rattle.std.proofs.lemmas.Bool.{eqb-true}
use Rattle.std.proofs.lemmas.Fmt.{digits_decimal}
use Rattle.par_text.specs.Lexing.{is_digit, greatest_number}
use Rattle.canonical_text.specs.Canonical.{parenthesised}
use Rattle.canonical_text.proofs.Leaves.{Digits, numerals}

abbrev one_if : Bool → ℕ → ℕ
one_if true n = suc n
one_if false n = n

abbrev pub opened : List ℕ → ℕ
opened [] = 0
opened (c ∷ cs) = one_if (c == 40) (opened cs)

pub opened-append : (xs ys : List ℕ) → opened (xs ++ ys) ≡ opened xs + opened ys
opened-append [] ys = omega arith
opened-append (x ∷ xs) ys = go (x == 40) (opened-append xs ys)
  where
    go : (b : Bool) → opened (xs ++ ys) ≡ opened xs + opened ys → one_if b (opened (xs ++ ys)) ≡ one_if b (opened xs) + opened ys
    go true e = omega (arith, e)
    go false e = e

-- parentheses around a text
pub opened-parenthesised : (b : Bool) (text : List ℕ) → opened (parenthesised b text) ≤ 1 + opened text
opened-parenthesised true text = let e = opened-append text (codes ")") in omega (arith, e)
opened-parenthesised false text = omega arith

-- a digit is no `(`
digit_other : (c : ℕ) → is_digit c ≡ true → (c == 40) ≡ false
digit_other c h = go (c == 40) refl
  where
    never : (d : ℕ) → d ≡ 40 → is_digit d ≡ true → ⊥
    never d e h = absurd (no (subst (λ (x : ℕ). is_digit x ≡ true) e h))
      where
        no : is_digit 40 ≡ true → ⊥
        no e = cc

    go : (b : Bool) → (c == 40) ≡ b → b ≡ false
    go true e = absurd (never c (eqb-true c 40 e) h)
    go false e = refl

digits_open : (ds : List ℕ) → Digits ds → opened ds ≡ 0
digits_open [] h = refl
digits_open (c ∷ cs) h = ap (λ (b : Bool). one_if b (opened cs)) (digit_other c h.0) ∙ digits_open cs h.1

pub number_opens : (v : ℕ) → v ≤ greatest_number → opened (signed_decimal (pos v)) ≡ 0
number_opens v small =
    let below : v < 2 ^ 64 = omega (arith, small) in
    digits_open (decimal v) (digits_decimal numerals v below)
