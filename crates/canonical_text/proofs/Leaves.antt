-- Names, numbers, words and symbols are read as themselves.
use Rattle.std.proofs.Common.{◌≡◌, ℕ, ◌^◌, ◌<◌, ◌≤◌, Bool, true, false, cond, List, [], ◌∷◌, length, Ok, Err, ◌⊎◌, inl, inr, refl, sym, ap, ◌∙◌, subst, arith}
use Rattle.std.specs.Prelude.{◌==◌, ◌&&◌, ◌||◌, not, nat_le, ℤ, pos}
use Rattle.std.specs.List.{list_all}
use Rattle.std.specs.Fmt.{decimal, signed_decimal}
use Rattle.std.proofs.lemmas.Bool.{leb-true, le-leb}
use Rattle.std.proofs.lemmas.Bool.Decides.{eqb_tells}
use Rattle.std.proofs.lemmas.Fmt.{digits_decimal, digits_value-decimal, decimal_nonempty}
use Rattle.std.proofs.lemmas.Str.Parse.{IsNumeralModel, IsDigitsTest, FoldsDigits, numerals_by_fold}
use Rattle.par_text.specs.declared.kind.Kind.{Kind}
use Rattle.par_text.specs.declared.kind.Kind.TheVariants as k
use Rattle.par_text.specs.declared.syntax_error.SyntaxKind.TheVariants.{BadToken, NumberTooLarge}
use Rattle.par_text.specs.Rule.{token}
use Rattle.par_text.specs.Grammar.{name, name_of, number_of, number_rule}
use Rattle.par_tree.specs.Tree.{num}
use Rattle.par_text.specs.Lexing.{is_word, is_letter, is_digit, is_allowed, is_not_newline, takes_equal, begins_with_equal, run, piece_rest, is_lexeme, form_of, of_word, keyword_kind, symbol_kind, of_known, of_digits, value_from, greatest_number}
use Rattle.par_text.proofs.KindLemmas.{both_true}
use Rattle.canonical_text.proofs.Lexemes.{Clear, Words, Allowed, IsWhole, word-whole}
use Rattle.canonical_text.proofs.Claims.{Fits, Always, mapped_fits, weaker_fits, token_fits}

-- literal words and symbols

words_of : (w : List ℕ) → list_all is_word w ≡ true → Words w
words_of [] h = tt
words_of (c ∷ w) h = let (a, b) = both_true (is_word c) (list_all is_word w) h in (a, words_of w b)

allowed_of : (w : List ℕ) → list_all is_allowed w ≡ true → Allowed w
allowed_of [] h = tt
allowed_of (c ∷ w) h = let (a, b) = both_true (is_allowed c) (list_all is_allowed w) h in (a, allowed_of w b)

module _ {most : ℕ} {i : Bool} {n : ℕ} where
  pub word_fits : (j : Kind) (c : ℕ) (cs : List ℕ) → is_lexeme (c ∷ cs) ≡ true → form_of (c ∷ cs) ≡ Ok j → list_all is_word (c ∷ cs) ≡ true → list_all is_allowed (c ∷ cs) ≡ true → Fits most i n (token j) Always (c ∷ cs)
  word_fits j c cs lexeme form words allowed = weaker_fits (λ t h. tt) (token_fits lexeme form (word-whole (c ∷ cs) (words_of (c ∷ cs) words)) (allowed_of (c ∷ cs) allowed))

  pub symbol_fits : (j : Kind) (c : ℕ) (cs : List ℕ) → is_lexeme (c ∷ cs) ≡ true → form_of (c ∷ cs) ≡ Ok j → IsWhole (c ∷ cs) → list_all is_allowed (c ∷ cs) ≡ true → Fits most i n (token j) Always (c ∷ cs)
  symbol_fits j c cs lexeme form whole allowed = weaker_fits (λ t h. tt) (token_fits lexeme form whole (allowed_of (c ∷ cs) allowed))

-- before clear bytes `<`, `>` and `=` are whole
not_equal : (c : ℕ) (rest : List ℕ) → Clear rest → begins_with_equal rest ≡ false
not_equal c [] clear = refl
not_equal c (d ∷ ds) clear = clear.1

and_false : (a b : Bool) → b ≡ false → (a && b) ≡ false
and_false true b e = e
and_false false b e = refl

pub comparing-whole : (c : ℕ) → is_word c ≡ false → (c == 35) ≡ false → IsWhole (c ∷ [])
unfolding piece_rest
comparing-whole c word hash = λ rest clear.
    ap (λ (b : Bool). cond b (run is_word rest) (cond (c == 35) (run is_not_newline rest) (cond (takes_equal c && begins_with_equal rest) 1 0))) word
    ∙ ap (λ (b : Bool). cond b (run is_not_newline rest) (cond (takes_equal c && begins_with_equal rest) 1 0)) hash
    ∙ ap (λ (b : Bool). cond b 1 0) (and_false (takes_equal c) (begins_with_equal rest) (not_equal c rest clear))

-- a token that a text has

abbrev pub IsToken : Kind → List ℕ → Type 0
IsToken j [] = ⊥
IsToken j (c ∷ cs) = (is_lexeme (c ∷ cs) ≡ true) × ((form_of (c ∷ cs) ≡ Ok j) × (IsWhole (c ∷ cs) × Allowed (c ∷ cs)))

abbrev pub IsName : List ℕ → Type 0
IsName x = IsToken k.Name x

pub name_fits : {most : ℕ} {i : Bool} {n : ℕ} (x : List ℕ) → IsName x → Fits most i n name (λ y. y ≡ x) x
unfolding name
name_fits [] h = absurd h
name_fits (c ∷ cs) h = mapped_fits name_of (λ t e. e.0) (token_fits h.0 h.1.0 h.1.1.0 h.1.1.1)

pub name_token_fits : {most : ℕ} {i : Bool} {n : ℕ} (x : List ℕ) → IsName x → Fits most i n (token k.Name) (λ t. t.bytes ≡ x) x
name_token_fits [] h = absurd h
name_token_fits (c ∷ cs) h = weaker_fits (λ t e. e.0) (token_fits h.0 h.1.0 h.1.1.0 h.1.1.1)

-- numbers

digit_bounds : (c : ℕ) → is_digit c ≡ true → (48 ≤ c) × (c ≤ 57)
digit_bounds c h = let (a, b) = both_true (nat_le 48 c) (nat_le c 57) h in (leb-true 48 c a, leb-true c 57 b)

digit_within : (c : ℕ) → 48 ≤ c → c ≤ 57 → is_digit c ≡ true
digit_within c a b = ap (λ (x : Bool). x && nat_le c 57) (le-leb 48 c a) ∙ le-leb c 57 b

or_true : (a b : Bool) → b ≡ true → (a || b) ≡ true
or_true true b e = refl
or_true false b e = e

digit_word : (c : ℕ) → is_digit c ≡ true → is_word c ≡ true
digit_word c h = or_true (is_letter c) (is_digit c) h

digit_allowed : (c : ℕ) → is_digit c ≡ true → is_allowed c ≡ true
digit_allowed c h =
    let (a, b) = digit_bounds c h in
    ap (λ (x : Bool). (x && nat_le c 126) || (c == 9 || (c == 10 || c == 13))) (le-leb 32 c (omega arith))
    ∙ ap (λ (x : Bool). x || (c == 9 || (c == 10 || c == 13))) (le-leb c 126 (omega arith))

differs : (a b : ℕ) → (a ≡ b → ⊥) → (a == b) ≡ false
differs a b n = go (eqb_tells a b)
  where
    go : (((a == b) ≡ true) × (a ≡ b)) ⊎ (((a == b) ≡ false) × (a ≡ b → ⊥)) → (a == b) ≡ false
    go (inl h) = absurd (n h.1)
    go (inr h) = h.0

digit_lexeme : (c : ℕ) (cs : List ℕ) → is_digit c ≡ true → is_lexeme (c ∷ cs) ≡ true
digit_lexeme c cs h =
    let (a, b) = digit_bounds c h in
    ap (λ (x : Bool). not ((x || (c == 9 || (c == 10 || c == 13))) || c == 35)) (differs c 32 (λ e. omega arith))
    ∙ ap (λ (x : Bool). not ((x || (c == 10 || c == 13)) || c == 35)) (differs c 9 (λ e. omega arith))
    ∙ ap (λ (x : Bool). not ((x || c == 13) || c == 35)) (differs c 10 (λ e. omega arith))
    ∙ ap (λ (x : Bool). not (x || c == 35)) (differs c 13 (λ e. omega arith))
    ∙ ap (λ (x : Bool). not x) (differs c 35 (λ e. omega arith))

abbrev pub Digits : List ℕ → Type 0
Digits [] = Unit {0}
Digits (c ∷ cs) = (is_digit c ≡ true) × Digits cs

digits_test : IsDigitsTest Digits
digits_test = record {
  empty = tt;
  parts = λ c cs h. (digit_bounds c h.0, h.1);
  more = λ c cs r h. (digit_within c r.0 r.1, h);
}

folds : FoldsDigits value_from
unfolding value_from
folds = record { empty = λ n. refl; more = λ n c cs h. refl }

pub numerals : IsNumeralModel Digits (value_from 0)
numerals = numerals_by_fold Digits digits_test value_from folds

digits_words : (ds : List ℕ) → Digits ds → Words ds
digits_words [] h = tt
digits_words (c ∷ cs) h = (digit_word c h.0, digits_words cs h.1)

digits_allowed : (ds : List ℕ) → Digits ds → Allowed ds
digits_allowed [] h = tt
digits_allowed (c ∷ cs) h = (digit_allowed c h.0, digits_allowed cs h.1)

all_digits : (ds : List ℕ) → Digits ds → list_all is_digit ds ≡ true
all_digits [] h = refl
all_digits (c ∷ cs) h = ap (λ (b : Bool). b && list_all is_digit cs) h.0 ∙ all_digits cs h.1

digits_form : (c : ℕ) (cs : List ℕ) → Digits (c ∷ cs) → value_from 0 (c ∷ cs) ≤ greatest_number → form_of (c ∷ cs) ≡ Ok k.Number
unfolding form_of
digits_form c cs h small =
    ap (λ (b : Bool). cond b (of_digits (c ∷ cs)) (cond (is_letter c) (of_word (keyword_kind (c ∷ cs)) (c ∷ cs)) (of_known (symbol_kind (c ∷ cs))))) h.0
    ∙ ap (λ (b : Bool). cond b (cond (nat_le (value_from 0 (c ∷ cs)) greatest_number) (Ok k.Number) (Err NumberTooLarge)) (Err BadToken)) (all_digits (c ∷ cs) h)
    ∙ ap (λ (b : Bool). cond b (Ok k.Number) (Err NumberTooLarge)) (le-leb (value_from 0 (c ∷ cs)) greatest_number small)

-- a number that a text has
pub record IsNumber (z : ℤ) : Type 0 where
  pub value : ℕ
  pub is : z ≡ pos value
  pub small : value ≤ greatest_number

digits_fit : {most : ℕ} {i : Bool} {n : ℕ} (v : ℕ) → v ≤ greatest_number → (ds : List ℕ) → Digits ds → 0 < length ds → value_from 0 ds ≡ v → Fits most i n number_rule (λ e. e ≡ num (pos v)) ds
unfolding number_rule
digits_fit v small [] h some e = absurd (omega (arith, some))
digits_fit v small (c ∷ cs) h some e =
    mapped_fits number_of (λ t p. ap (λ (z : ℤ). num z) (p.1 ∙ ap (λ (b : Bool). cond b (pos (value_from 0 (c ∷ cs))) (pos 0)) h.0 ∙ ap pos e))
    (token_fits (digit_lexeme c cs h.0) (digits_form c cs h (omega (arith, e))) (word-whole (c ∷ cs) (digits_words (c ∷ cs) h)) (digits_allowed (c ∷ cs) h))

pub number_fits : {most : ℕ} {i : Bool} {n : ℕ} (z : ℤ) → IsNumber z → Fits most i n number_rule (λ e. e ≡ num z) (signed_decimal z)
number_fits {most} {i} {n} z h =
    let v = h.value in
    let small : v < 2 ^ 64 = omega (arith, h.small) in
    subst (λ (y : ℤ). Fits most i n number_rule (λ e. e ≡ num y) (signed_decimal y)) (sym h.is)
    (digits_fit v h.small (decimal v) (digits_decimal numerals v small) (decimal_nonempty v small) (digits_value-decimal numerals v small))
