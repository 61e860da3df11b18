-- Numbers in decimals, and the names of the functions of a made source.
use Rattle.std.proofs.Common.{◌≡◌, ℕ, ◌^◌, ◌<◌, ◌≤◌, Bool, true, false, cond, List, [], ◌∷◌, ◌++◌, length, Ok, Err, refl, ap, ◌∙◌, arith}
use Rattle.std.specs.Prelude.{◌==◌, ◌&&◌, ◌||◌, not, nat_le, codes}
use Rattle.std.specs.Fmt.{decimal}
use Rattle.std.specs.List.{list_all}
use Rattle.std.proofs.lemmas.Bool.{eqb-true, leb-true, le-leb, or_right}
use Rattle.std.proofs.lemmas.Fmt.{digits_decimal, length-decimal-le}
use Rattle.std.proofs.lemmas.List.Folds.{list_all-append}
use Rattle.par_text.specs.declared.kind.Kind.TheVariants as k
use Rattle.par_text.specs.declared.syntax_error.SyntaxKind.TheVariants.{BadToken}
use Rattle.par_text.specs.Lexing.{is_letter, is_digit, is_allowed, is_not_newline, form_of, keyword_kind, symbol_kind, longest_name}
use Rattle.par_text.proofs.KindLemmas.{both_true}
use Rattle.par_ownership.specs.Ownership.{main_name}
use Rattle.canonical_text.proofs.Lexemes.{Words, Allowed, word-whole}
use Rattle.canonical_text.proofs.Leaves.{IsName, Digits, numerals}
use Rattle.loop_laws.proofs.Pieces.{OnOneLine}
use Rattle.made_laws.specs.MadeProgram.{left_block, right_block, function_name}

digit_bounds : (c : ℕ) → is_digit c ≡ true → (48 ≤ c) × (c ≤ 57)
digit_bounds c h = let (a, b) = both_true (nat_le 48 c) (nat_le c 57) h in (leb-true 48 c a, leb-true c 57 b)

digits_words : (ds : List ℕ) → Digits ds → Words ds
digits_words [] h = tt
digits_words (c ∷ cs) h = (or_right (is_letter c) (is_digit c) h.0, digits_words cs h.1)

digit_allowed : (c : ℕ) → is_digit c ≡ true → is_allowed c ≡ true
digit_allowed c h =
    let (a, b) = digit_bounds c h in
    ap (λ (x : Bool). (x && nat_le c 126) || (c == 9 || (c == 10 || c == 13))) (le-leb 32 c (omega arith))
    ∙ ap (λ (x : Bool). x || (c == 9 || (c == 10 || c == 13))) (le-leb c 126 (omega arith))

digits_allowed : (ds : List ℕ) → Digits ds → Allowed ds
digits_allowed [] h = tt
digits_allowed (c ∷ cs) h = (digit_allowed c h.0, digits_allowed cs h.1)

digits_of : (n : ℕ) → n < 2 ^ 64 → Digits (decimal n)
digits_of n small = digits_decimal numerals n small

-- texts without the end of a line

pub join_line : (u v : List ℕ) → OnOneLine u → OnOneLine v → OnOneLine (u ++ v)
join_line u v a b = list_all-append is_not_newline u v ∙ ap (λ x. x && list_all is_not_newline v) a ∙ b

digit_line : (c : ℕ) → is_digit c ≡ true → is_not_newline c ≡ true
digit_line c h = by_test (c == 10) refl
  where
    by_test : (b : Bool) → (c == 10) ≡ b → not b ≡ true
    by_test false e = refl
    by_test true e = let (a, b) = digit_bounds c h in let same = eqb-true c 10 e in absurd (omega (arith, a, same))

digits_line : (ds : List ℕ) → Digits ds → OnOneLine ds
digits_line [] h = refl
digits_line (c ∷ cs) h = ap (λ x. x && list_all is_not_newline cs) (digit_line c h.0) ∙ digits_line cs h.1

pub decimal_line : (n : ℕ) → n < 2 ^ 64 → OnOneLine (decimal n)
decimal_line n small = digits_line (decimal n) (digits_of n small)

-- names

pub left_is_name : IsName left_block
unfolding form_of keyword_kind symbol_kind
left_is_name = (refl, (refl, (word-whole left_block (refl, tt), (refl, tt))))

pub right_is_name : IsName right_block
unfolding form_of keyword_kind symbol_kind
right_is_name = (refl, (refl, (word-whole right_block (refl, tt), (refl, tt))))

pub main_is_name : IsName main_name
unfolding form_of keyword_kind symbol_kind
main_is_name = (refl, (refl, (word-whole main_name (refl, (refl, (refl, (refl, tt)))), (refl, (refl, (refl, (refl, tt)))))))

name_of_digits : (ds : List ℕ) → Digits ds → length ds ≤ 20 → IsName (codes "g" ++ ds)
unfolding form_of keyword_kind symbol_kind
name_of_digits ds h short = (
  refl,
  (
    ap (λ (b : Bool). cond b (Ok k.Name) (Err BadToken)) (le-leb (length (codes "g" ++ ds)) longest_name (omega (arith, short))),
    (word-whole (codes "g" ++ ds) (refl, digits_words ds h), (refl, digits_allowed ds h)),
  ),
)

pub function_is_name : (j : ℕ) → j < 2 ^ 64 → IsName (function_name j)
function_is_name j small = name_of_digits (decimal j) (digits_of j small) (length-decimal-le 20 j (omega arith) (omega arith) small)

pub function_line : (j : ℕ) → j < 2 ^ 64 → OnOneLine (function_name j)
function_line j small = join_line (codes "g") (decimal j) refl (decimal_line j small)
