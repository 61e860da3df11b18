-- The names that the helpers have are names of the language.
use Rattle.std.proofs.Common.{◌≡◌, ℕ, ◌^◌, ◌<◌, ◌≤◌, Bool, true, false, cond, List, [], ◌∷◌, ◌++◌, length, Ok, Err, refl, ap, ◌∙◌, arith}
use Rattle.std.specs.Prelude.{◌==◌, ◌&&◌, ◌||◌, nat_le, Some, None, codes}
use Rattle.std.specs.Fmt.{decimal}
use Rattle.std.specs.Str.{bytes_eq}
use Rattle.std.proofs.lemmas.Bool.{leb-true, le-leb, or_right}
use Rattle.std.proofs.lemmas.Slice.Eq.{bytes_eq-Decides}
use Rattle.std.proofs.lemmas.Fmt.{digits_decimal, decimal_nonempty, length-decimal-le}
use Rattle.par_text.specs.declared.kind.Kind.TheVariants as k
use Rattle.par_text.specs.declared.syntax_error.SyntaxKind.TheVariants.{BadToken}
use Rattle.par_text.specs.Lexing.{is_letter, is_digit, is_allowed, form_of, of_word, keyword_kind, symbol_kind, longest_name}
use Rattle.par_text.proofs.KindLemmas.{both_true}
use Rattle.canonical_text.proofs.Lexemes.{Words, Allowed, word-whole}
use Rattle.canonical_text.proofs.Leaves.{IsName, Digits, numerals}
use Rattle.loop_laws.specs.HelperTrees.{further_name, low_name, count_name, sum_of_all, half_name, sum_of_rest, block_name, left_name, right_name}
use Rattle.loop_expand.specs.Texts.{sum_name}

-- digits

digit_bounds : (c : ℕ) → is_digit c ≡ true → (48 ≤ c) × (c ≤ 57)
digit_bounds c h = let (a, b) = both_true (nat_le 48 c) (nat_le c 57) h in (leb-true 48 c a, leb-true c 57 b)

digits_words : (ds : List ℕ) → Digits ds → Words ds
digits_words [] h = tt
digits_words (c ∷ cs) h = (or_right (is_letter c) (is_digit c) h.0, digits_words cs h.1)

digit_allowed : (c : ℕ) → is_digit c ≡ true → is_allowed c ≡ true
digit_allowed c h =
    let (a, b) = digit_bounds c h in
    ap (λ (x : Bool). (x && nat_le c 126) || (c == 9 || (c == 10 || c == 13))) (le-leb 32 c (omega arith))
    ∙ ap (λ (x : Bool). x || (c == 9 || (c == 10 || c == 13))) (le-leb c 126 (omega arith))

digits_allowed : (ds : List ℕ) → Digits ds → Allowed ds
digits_allowed [] h = tt
digits_allowed (c ∷ cs) h = (digit_allowed c h.0, digits_allowed cs h.1)

abbrev second_of : List ℕ → ℕ
second_of (a ∷ b ∷ cs) = b
second_of cs = 0

-- no digit is an `a`, so this is not `call`
not_call : (d : ℕ) (ds : List ℕ) → is_digit d ≡ true → bytes_eq (codes "call") (99 ∷ d ∷ ds) ≡ false
not_call d ds h = by_test (bytes_eq (codes "call") (99 ∷ d ∷ ds)) refl
  where
    by_test : (b : Bool) → bytes_eq (codes "call") (99 ∷ d ∷ ds) ≡ b → b ≡ false
    by_test true e =
        let same : 97 ≡ d = ap second_of ((bytes_eq-Decides (codes "call") (99 ∷ d ∷ ds)).0 e) in
        let (a, b) = digit_bounds d h in
        absurd (omega (arith, same, b))
    by_test false e = refl

digits_of : (n : ℕ) → n < 2 ^ 64 → Digits (decimal n)
digits_of n small = digits_decimal numerals n small

length_of : (n : ℕ) → n < 2 ^ 64 → length (decimal n) ≤ 20
length_of n small = length-decimal-le 20 n (omega arith) (omega arith) small

-- `__sumJ`

sum_of_digits : (ds : List ℕ) → Digits ds → length ds ≤ 20 → IsName (codes "__sum" ++ ds)
unfolding form_of keyword_kind symbol_kind
sum_of_digits ds h short = (
  refl,
  (
    ap (λ (b : Bool). cond b (Ok k.Name) (Err BadToken)) (le-leb (length (codes "__sum" ++ ds)) longest_name (omega (arith, short))),
    (
      word-whole (codes "__sum" ++ ds) (refl, (refl, (refl, (refl, (refl, digits_words ds h))))),
      (refl, (refl, (refl, (refl, (refl, digits_allowed ds h))))),
    ),
  ),
)

pub sum_is_name : (j : ℕ) → j < 2 ^ 64 → IsName (sum_name j)
sum_is_name j small = sum_of_digits (decimal j) (digits_of j small) (length_of j small)

-- `ck`

further_of_digits : (ds : List ℕ) → Digits ds → 0 < length ds → length ds ≤ 20 → IsName (codes "c" ++ ds)
unfolding form_of keyword_kind symbol_kind
further_of_digits [] h some short = absurd (omega (arith, some))
further_of_digits (d ∷ ds) h some short = (
  refl,
  (
    ap (λ (b : Bool). of_word (cond b (Some k.Call) None) (codes "c" ++ d ∷ ds)) (not_call d ds h.0)
        ∙ ap (λ (b : Bool). cond b (Ok k.Name) (Err BadToken)) (le-leb (length (codes "c" ++ d ∷ ds)) longest_name (omega (arith, short))),
    (word-whole (codes "c" ++ d ∷ ds) (refl, digits_words (d ∷ ds) h), (refl, digits_allowed (d ∷ ds) h)),
  ),
)

pub further_is_name : (n : ℕ) → n < 2 ^ 64 → IsName (further_name n)
further_is_name n small = further_of_digits (decimal n) (digits_of n small) (decimal_nonempty n small) (length_of n small)

-- the fixed names

pub low_is_name : IsName low_name
unfolding form_of keyword_kind symbol_kind
low_is_name = (refl, (refl, (word-whole low_name (refl, (refl, tt)), (refl, (refl, tt)))))

pub count_is_name : IsName count_name
unfolding form_of keyword_kind symbol_kind
count_is_name = (refl, (refl, (word-whole count_name (refl, tt), (refl, tt))))

pub sum_of_all_is_name : IsName sum_of_all
unfolding form_of keyword_kind symbol_kind
sum_of_all_is_name = (refl, (refl, (word-whole sum_of_all (refl, tt), (refl, tt))))

pub half_is_name : IsName half_name
unfolding form_of keyword_kind symbol_kind
half_is_name = (refl, (refl, (word-whole half_name (refl, tt), (refl, tt))))

pub sum_of_rest_is_name : IsName sum_of_rest
unfolding form_of keyword_kind symbol_kind
sum_of_rest_is_name = (refl, (refl, (word-whole sum_of_rest (refl, tt), (refl, tt))))

pub block_is_name : IsName block_name
unfolding form_of keyword_kind symbol_kind
block_is_name = (refl, (refl, (word-whole block_name (refl, tt), (refl, tt))))

pub left_is_name : IsName left_name
unfolding form_of keyword_kind symbol_kind
left_is_name = (refl, (refl, (word-whole left_name (refl, tt), (refl, tt))))

pub right_is_name : IsName right_name
unfolding form_of keyword_kind symbol_kind
right_is_name = (refl, (refl, (word-whole right_name (refl, tt), (refl, tt))))
