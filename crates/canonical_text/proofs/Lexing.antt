-- The `(` of the tokens of a text are at most as many as those of its bytes.
use Rattle.std.proofs.Common.{◌≡◌, ℕ, zero, suc, ◌+◌, ◌≤◌, Bool, true, false, cond, List, [], ◌∷◌, length, take, drop, Option, Some, None, Result, Ok, Err, refl, sym, ap, ◌∙◌, subst, arith}
use Rattle.std.specs.Prelude.{nat_le, nat_lt, pos, codes}
use Rattle.std.specs.Str.{bytes_eq}
use Rattle.std.proofs.lemmas.Slice.Eq.{bytes_eq-Decides}
use Rattle.std.specs.List.{list_all}
use Rattle.std.specs.Fmt.{signed_decimal}
use Rattle.std.proofs.lemmas.Bool.{leb-true}
use Rattle.std.proofs.lemmas.List.{take-append-drop}
use Rattle.par_text.specs.declared.kind.Kind.{Kind}
use Rattle.par_text.specs.declared.kind.Kind.TheVariants as k
use Rattle.par_text.specs.declared.syntax_error.SyntaxKind.{SyntaxKind}
use Rattle.par_text.specs.declared.syntax_error.SyntaxKind.TheVariants.{BadToken, NumberTooLarge, TooLong}
use Rattle.par_text.specs.declared.syntax_error.SyntaxError.{SyntaxError}
use Rattle.par_text.specs.Kinds.{is}
use Rattle.par_text.specs.Rule.{Token}
use Rattle.par_text.specs.Lexing.{Piece, Lexed, piece_rest, line_after, pieces, is_lexeme, is_digit, is_letter, form_of, of_word, of_digits, of_known, keyword_kind, symbol_kind, kind_in, keywords, symbols, value_from, value_of, greatest_number, longest_name, token_from, with_token, with_form, with_piece, lexed, forbidden, of_allowed, longest_text, text_tokens}
use Rattle.par_text.proofs.KindLemmas.{is-self, same_from_is}
use Rattle.canonical_text.proofs.Openings.{opened, opened-append, number_opens}
use Rattle.canonical_text.proofs.Weights.{token_weight, tokens_weight}

-- a number's digits have none
number_weighs : (w : List ℕ) → form_of w ≡ Ok k.Number → opened (signed_decimal (value_of w)) ≡ 0
unfolding form_of
number_weighs [] e = cc
number_weighs (c ∷ cs) e = by_digit (is_digit c) e
  where
    ok_same : (b : Bool) → cond b (Ok k.Number) (Err NumberTooLarge) ≡ Ok k.Number → b ≡ true
    ok_same true e = refl
    ok_same false e = cc

    from_digits : (all : Bool) (v : ℕ) → cond all (cond (nat_le v greatest_number) (Ok k.Number) (Err NumberTooLarge)) (Err BadToken) ≡ Ok k.Number → v ≤ greatest_number
    from_digits true v e = leb-true v greatest_number (ok_same (nat_le v greatest_number) e)
    from_digits false v e = cc

    by_digit : (b : Bool) → cond b (of_digits (c ∷ cs)) (cond (is_letter c) (of_word (keyword_kind (c ∷ cs)) (c ∷ cs)) (of_known (symbol_kind (c ∷ cs)))) ≡ Ok k.Number → opened (signed_decimal (cond b (pos (value_from 0 (c ∷ cs))) (pos 0))) ≡ 0
    by_digit true e = number_opens (value_from 0 (c ∷ cs)) (from_digits (list_all is_digit (c ∷ cs)) (value_from 0 (c ∷ cs)) e)
    by_digit false e = number_opens 0 (omega arith)

-- a kind that no entry of a list has
abbrev lacks : Kind → List (List ℕ × Kind) → Bool
lacks j [] = true
lacks j (entry ∷ rest) = cond (is j entry.1) false (lacks j rest)

lacking : (j : Kind) (table : List (List ℕ × Kind)) (w : List ℕ) → lacks j table ≡ true → kind_in table w ≡ Some j → ⊥
lacking j [] w h e = cc
lacking j (entry ∷ rest) w h e = go (is j entry.1) refl h (bytes_eq entry.0 w) e (lacking j rest w)
  where
    never : false ≡ true → ⊥
    never e = cc

    some_same : (i : Kind) → Some i ≡ Some j → i ≡ j
    some_same i e = cc

    go : (b : Bool) → is j entry.1 ≡ b → cond b false (lacks j rest) ≡ true → (found : Bool) → cond found (Some entry.1) (kind_in rest w) ≡ Some j → (lacks j rest ≡ true → kind_in rest w ≡ Some j → ⊥) → ⊥
    go true s h found e more = never h
    go false s h true e more = never (sym s ∙ is-self j entry.1 (some_same entry.1 e))
    go false s h false e more = more h e

ok_kind : (i j : Kind) → ◌≡◌ {A = Result Kind SyntaxKind} (Ok i) (Ok j) → i ≡ j
ok_kind i j e = cc

err_kind : (f : SyntaxKind) (j : Kind) → ◌≡◌ {A = Result Kind SyntaxKind} (Err f) (Ok j) → ⊥
err_kind f j e = cc

-- the one token that is a `(` is the byte
paren_bytes : (w : List ℕ) → form_of w ≡ Ok k.LeftParen → 1 ≤ opened w
unfolding form_of keyword_kind symbol_kind
paren_bytes [] e = absurd (err_kind _ _ e)
paren_bytes (c ∷ cs) e = by_digit (is_digit c) e
  where
    not_number : k.Number ≡ k.LeftParen → ⊥
    not_number e = cc

    not_name : k.Name ≡ k.LeftParen → ⊥
    not_name e = cc

    some_kind : (j : Kind) → of_known (Some j) ≡ Ok k.LeftParen → Some j ≡ Some k.LeftParen
    some_kind j e = ap Some (ok_kind j k.LeftParen e)

    small_number : (b : Bool) → cond b (Ok k.Number) (Err NumberTooLarge) ≡ Ok k.LeftParen → ⊥
    small_number true e = not_number (ok_kind _ _ e)
    small_number false e = err_kind _ _ e

    all_digits : (b : Bool) → cond b (cond (nat_le (value_from 0 (c ∷ cs)) greatest_number) (Ok k.Number) (Err NumberTooLarge)) (Err BadToken) ≡ Ok k.LeftParen → ⊥
    all_digits true e = small_number (nat_le (value_from 0 (c ∷ cs)) greatest_number) e
    all_digits false e = err_kind _ _ e

    short_name : (b : Bool) → cond b (Ok k.Name) (Err BadToken) ≡ Ok k.LeftParen → ⊥
    short_name true e = not_name (ok_kind _ _ e)
    short_name false e = err_kind _ _ e

    keyword : (o : Option Kind) → keyword_kind (c ∷ cs) ≡ o → of_word o (c ∷ cs) ≡ Ok k.LeftParen → ⊥
    keyword (Some j) h e = lacking k.LeftParen keywords (c ∷ cs) refl (h ∙ ap Some (ok_kind j k.LeftParen e))
    keyword None h e = short_name (nat_le (length (c ∷ cs)) longest_name) e

    symbol : (o : Option Kind) → symbol_kind (c ∷ cs) ≡ o → of_known o ≡ Ok k.LeftParen → 1 ≤ opened (c ∷ cs)
    symbol None h e = absurd (err_kind _ _ e)
    symbol (Some j) h e = first (bytes_eq (codes "(") (c ∷ cs)) refl (h ∙ some_kind j e)
      where
        first : (b : Bool) → bytes_eq (codes "(") (c ∷ cs) ≡ b → cond b (Some k.LeftParen) (kind_in (drop 1 symbols) (c ∷ cs)) ≡ Some k.LeftParen → 1 ≤ opened (c ∷ cs)
        first true s e = subst (λ (w : List ℕ). 1 ≤ opened w) ((bytes_eq-Decides (codes "(") (c ∷ cs)).0 s) (omega arith)
        first false s e = absurd (lacking k.LeftParen (drop 1 symbols) (c ∷ cs) refl e)

    by_letter : (b : Bool) → cond b (of_word (keyword_kind (c ∷ cs)) (c ∷ cs)) (of_known (symbol_kind (c ∷ cs))) ≡ Ok k.LeftParen → 1 ≤ opened (c ∷ cs)
    by_letter true e = absurd (keyword (keyword_kind (c ∷ cs)) refl e)
    by_letter false e = symbol (symbol_kind (c ∷ cs)) refl e

    by_digit : (b : Bool) → cond b (of_digits (c ∷ cs)) (cond (is_letter c) (of_word (keyword_kind (c ∷ cs)) (c ∷ cs)) (of_known (symbol_kind (c ∷ cs)))) ≡ Ok k.LeftParen → 1 ≤ opened (c ∷ cs)
    by_digit true e = absurd (all_digits (list_all is_digit (c ∷ cs)) e)
    by_digit false e = by_letter (is_letter c) e

-- a token has no more than its bytes
token_weighs : (p : Piece) (j : Kind) → form_of p.bytes ≡ Ok j → token_weight (token_from p j) ≤ opened p.bytes
token_weighs p j form = by_paren (is k.LeftParen j) refl
  where
    by_number : (b : Bool) → is k.Number j ≡ b → cond b (opened (signed_decimal (value_of p.bytes))) (opened p.bytes) ≤ opened p.bytes
    by_number true e = let none = number_weighs p.bytes (form ∙ ap Ok (same_from_is k.Number j e)) in omega (arith, none)
    by_number false e = omega arith

    by_paren : (b : Bool) → is k.LeftParen j ≡ b → cond b 1 (cond (is k.Number j) (opened (signed_decimal (value_of p.bytes))) (opened p.bytes)) ≤ opened p.bytes
    by_paren true e = paren_bytes p.bytes (form ∙ ap Ok (same_from_is k.LeftParen j e))
    by_paren false e = by_number (is k.Number j) refl

-- the tokens of a text or of a part of it weigh at most so much
abbrev Weighs : ℕ → Lexed → Type 0
Weighs n (Ok ts) = tokens_weight ts ≤ n
Weighs n (Err e) = Unit {0}

more_weight : (m n : ℕ) (l : Lexed) → m ≤ n → Weighs m l → Weighs n l
more_weight m n (Ok ts) le h = omega (arith, le, h)
more_weight m n (Err e) le h = tt

token_added : (m n : ℕ) (t : Token) (l : Lexed) → token_weight t ≤ m → Weighs n l → Weighs (m + n) (with_token t l)
token_added m n t (Ok ts) le h = omega (arith, le, h)
token_added m n t (Err e) le h = tt

piece_added : (n : ℕ) (p : Piece) (l : Lexed) → Weighs n l → Weighs (opened p.bytes + n) (with_piece p l)
unfolding with_piece
piece_added n p l h = go (is_lexeme p.bytes)
  where
    of_form : (f : Result Kind SyntaxKind) → form_of p.bytes ≡ f → Weighs (opened p.bytes + n) (with_form p f l)
    of_form (Ok j) e = token_added (opened p.bytes) n (token_from p j) l (token_weighs p j e) h
    of_form (Err f) e = tt

    go : (b : Bool) → Weighs (opened p.bytes + n) (cond b (with_form p (form_of p.bytes) l) l)
    go true = of_form (form_of p.bytes) refl
    go false = more_weight n (opened p.bytes + n) l (omega arith) h

pieces_weigh : (skip at line : ℕ) (cs : List ℕ) → Weighs (opened (drop skip cs)) (lexed (pieces skip at line cs))
unfolding pieces lexed
pieces_weigh zero at line [] = omega arith
pieces_weigh (suc skip) at line [] = omega arith
pieces_weigh (suc skip) at line (c ∷ cs) = pieces_weigh skip (at + 1) (line_after c line) cs
pieces_weigh zero at line (c ∷ cs) =
    let n = piece_rest c cs in
    let first = c ∷ take n cs in
    let parts = opened-append first (drop n cs) in
    let whole = ap (λ (x : List ℕ). opened (c ∷ x)) (take-append-drop n cs) in
    more_weight (opened first + opened (drop n cs)) (opened (c ∷ cs)) _ (omega (arith, parts, whole))
    (piece_added (opened (drop n cs)) (record { bytes = first; at = at; line = line }) (lexed (pieces n (at + 1) (line_after c line) cs)) (pieces_weigh n (at + 1) (line_after c line) cs))

of_lexed : (n : ℕ) (l : Lexed) (ts : List Token) → Weighs n l → l ≡ Ok ts → tokens_weight ts ≤ n
of_lexed n l ts h e = subst (λ (x : Lexed). Weighs n x) e h

never : (f : SyntaxError) (ts : List Token) → ◌≡◌ {A = Lexed} (Err f) (Ok ts) → ⊥
never f ts e = cc

allowed_weigh : (o : Option ℕ) (text : List ℕ) (ts : List Token) → of_allowed o text ≡ Ok ts → tokens_weight ts ≤ opened text
allowed_weigh (Some at) text ts e = absurd (never _ ts e)
allowed_weigh None text ts e = of_lexed (opened text) _ ts (pieces_weigh 0 0 1 text) e

pub text_weighs : (text : List ℕ) (ts : List Token) → text_tokens text ≡ Ok ts → tokens_weight ts ≤ opened text
unfolding text_tokens
text_weighs text ts e = go (nat_lt longest_text (length text)) e
  where
    go : (b : Bool) → cond b (Err (record { kind = TooLong; at = longest_text })) (of_allowed (forbidden 0 text) text) ≡ Ok ts → tokens_weight ts ≤ opened text
    go true e = absurd (never _ ts e)
    go false e = allowed_weigh (forbidden 0 text) text ts e
