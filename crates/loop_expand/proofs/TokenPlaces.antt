-- The tokens of a text stand one behind the other.
use Rattle.std.proofs.Common.{◌≡◌, ℕ, zero, suc, ◌+◌, ◌≤◌, Bool, true, false, cond, List, [], ◌∷◌, ◌++◌, length, map, take, Result, Ok, Err, refl, ap, subst, arith}
use Rattle.std.specs.Prelude.{◌==◌, ◌&&◌, nat_lt, Option, Some, None}
use Rattle.std.proofs.lemmas.List.{length-take-le}
use Rattle.par_text.specs.declared.kind.Kind.{Kind}
use Rattle.par_text.specs.declared.syntax_error.SyntaxKind.{SyntaxKind}
use Rattle.par_text.specs.declared.syntax_error.SyntaxKind.TheVariants.{TooLong}
use Rattle.par_text.specs.Rule.{Token}
use Rattle.par_text.specs.Lexing.{Lexed, Piece, is_word, is_not_newline, takes_equal, begins_with_equal, run, piece_rest, line_after, pieces, is_lexeme, form_of, token_from, with_token, with_form, with_piece, lexed, forbidden, longest_text, of_allowed, text_tokens}
use Rattle.par_lex.specs.declared.lexeme.Lexeme.{Lexeme}
use Rattle.loop_expand.specs.Texts.{place_behind}
use Rattle.loop_expand.specs.Expansion.{lexeme_of}

-- The tokens stand one behind the other, from a place on and up to another.
abbrev pub Ordered : ℕ → List Lexeme → ℕ → Type 0
Ordered from [] to = from ≤ to
Ordered from (t ∷ ts) to = (from ≤ t.at) × Ordered (place_behind t) ts to

pub ordered_from : (a b : ℕ) (ts : List Lexeme) (to : ℕ) → a ≤ b → Ordered b ts to → Ordered a ts to
ordered_from a b [] to le here = omega arith
ordered_from a b (t ∷ ts) to le here = (omega (arith, here.0), here.1)

-- what stands behind a front
pub record From (least : ℕ) (ts : List Lexeme) (to : ℕ) : Type 0 where
  pub place : ℕ
  pub least_le : least ≤ place
  pub stands : Ordered place ts to

pub ordered_behind : (front ts : List Lexeme) (from to : ℕ) → Ordered from (front ++ ts) to → From from ts to
ordered_behind [] ts from to here = record { place = from; least_le = omega arith; stands = here }
ordered_behind (t ∷ front) ts from to here =
    let more = ordered_behind front ts (place_behind t) to here.1 in
    record { place = more.place; least_le = omega (arith, here.0, more.least_le); stands = more.stands }

-- a piece is no longer than what is left

run_le : (p : ℕ → Bool) (cs : List ℕ) → run p cs ≤ length cs
run_le p [] = omega arith
run_le p (c ∷ cs) = by_test (p c) (run_le p cs)
  where
    by_test : (b : Bool) → run p cs ≤ length cs → cond b (suc (run p cs)) 0 ≤ length (c ∷ cs)
    by_test true more = omega arith
    by_test false more = omega arith

one_le : (a : Bool) (cs : List ℕ) → cond (a && begins_with_equal cs) 1 0 ≤ length cs
one_le false cs = omega arith
one_le true [] = omega arith
one_le true (c ∷ cs) = by_test (c == 61)
  where
    by_test : (b : Bool) → cond b 1 0 ≤ length (c ∷ cs)
    by_test true = omega arith
    by_test false = omega arith

pub piece_rest_le : (c : ℕ) (cs : List ℕ) → piece_rest c cs ≤ length cs
unfolding piece_rest
piece_rest_le c cs = by_tests (is_word c) (c == 35)
  where
    by_tests : (a b : Bool) → cond a (run is_word cs) (cond b (run is_not_newline cs) (cond (takes_equal c && begins_with_equal cs) 1 0)) ≤ length cs
    by_tests true b = run_le is_word cs
    by_tests false true = run_le is_not_newline cs
    by_tests false false = one_le (takes_equal c) cs

-- tokens of pieces

tokens_of : Lexed → List Token
tokens_of (Ok ts) = ts
tokens_of (Err e) = []

same_tokens : (a b : List Token) → (let l : Lexed = Ok a in l) ≡ Ok b → a ≡ b
unfolding tokens_of
same_tokens a b e = ap tokens_of e

token_ordered : (p : Piece) (j : Kind) (r : Lexed) (ts : List Token) (to : ℕ) → with_token (token_from p j) r ≡ Ok ts
    → ((us : List Token) → r ≡ Ok us → Ordered (p.at + length p.bytes) (map lexeme_of us) to) → Ordered p.at (map lexeme_of ts) to
token_ordered p j (Err e) ts to is more = cc
token_ordered p j (Ok us) ts to is more =
    subst (λ (vs : List Token). Ordered p.at (map lexeme_of vs) to) (same_tokens (token_from p j ∷ us) ts is) (omega arith, more us refl)

form_ordered : (p : Piece) (form : Result Kind SyntaxKind) (r : Lexed) (ts : List Token) (to : ℕ) → with_form p form r ≡ Ok ts
    → ((us : List Token) → r ≡ Ok us → Ordered (p.at + length p.bytes) (map lexeme_of us) to) → Ordered p.at (map lexeme_of ts) to
form_ordered p (Ok j) r ts to is more = token_ordered p j r ts to is more
form_ordered p (Err f) r ts to is more = cc

piece_ordered : (p : Piece) (r : Lexed) (ts : List Token) (to : ℕ) → with_piece p r ≡ Ok ts
    → ((us : List Token) → r ≡ Ok us → Ordered (p.at + length p.bytes) (map lexeme_of us) to) → Ordered p.at (map lexeme_of ts) to
unfolding with_piece
piece_ordered p r ts to is more = by_test (is_lexeme p.bytes) is
  where
    by_test : (b : Bool) → cond b (with_form p (form_of p.bytes) r) r ≡ Ok ts → Ordered p.at (map lexeme_of ts) to
    by_test true h = form_ordered p (form_of p.bytes) r ts to h more
    by_test false h = ordered_from p.at (p.at + length p.bytes) (map lexeme_of ts) to (omega arith) (more ts h)

pieces_ordered : (cs : List ℕ) (skip at line : ℕ) (ts : List Token) → skip ≤ length cs → lexed (pieces skip at line cs) ≡ Ok ts → Ordered (at + skip) (map lexeme_of ts) (at + length cs)
unfolding pieces lexed
pieces_ordered [] zero at line ts room is = subst (λ (us : List Token). Ordered (at + 0) (map lexeme_of us) (at + 0)) (same_tokens [] ts is) (omega arith)
pieces_ordered [] (suc skip) at line ts room is = absurd (omega arith)
pieces_ordered (c ∷ cs) (suc skip) at line ts room is =
    let more = pieces_ordered cs skip (at + 1) (line_after c line) ts (omega arith) is in
    subst (λ (n : ℕ). Ordered n (map lexeme_of ts) (at + suc (length cs))) (let e : (at + 1) + skip ≡ at + suc skip = omega arith in e)
    (subst (λ (n : ℕ). Ordered ((at + 1) + skip) (map lexeme_of ts) n) (let e : (at + 1) + length cs ≡ at + suc (length cs) = omega arith in e) more)
pieces_ordered (c ∷ cs) zero at line ts room is =
    let rest = piece_rest c cs in
    let fits : rest ≤ length cs = piece_rest_le c cs in
    let long : length (take rest cs) ≡ rest = length-take-le rest cs fits in
    let p : Piece = record { bytes = c ∷ take rest cs; at = at; line = line } in
    let inner : (us : List Token) → lexed (pieces rest (at + 1) (line_after c line) cs) ≡ Ok us → Ordered (at + length p.bytes) (map lexeme_of us) (at + suc (length cs)) = λ us e.
    subst (λ (n : ℕ). Ordered n (map lexeme_of us) (at + suc (length cs))) (let e : (at + 1) + rest ≡ at + suc (length (take rest cs)) = omega (arith, long) in e)
    (subst (λ (n : ℕ). Ordered ((at + 1) + rest) (map lexeme_of us) n) (let e : (at + 1) + length cs ≡ at + suc (length cs) = omega arith in e)
    (pieces_ordered cs rest (at + 1) (line_after c line) us fits e)) in
    subst (λ (n : ℕ). Ordered n (map lexeme_of ts) (at + suc (length cs))) (let e : at ≡ at + 0 = omega arith in e)
    (piece_ordered p (lexed (pieces rest (at + 1) (line_after c line) cs)) ts (at + suc (length cs)) is inner)

pub tokens_ordered : (text : List ℕ) (ts : List Token) → text_tokens text ≡ Ok ts → Ordered 0 (map lexeme_of ts) (length text)
unfolding text_tokens
tokens_ordered text ts is = by_length (nat_lt longest_text (length text)) is
  where
    too_long : Lexed
    too_long = Err (record { kind = TooLong; at = longest_text })

    by_bytes : (o : Option ℕ) → of_allowed o text ≡ Ok ts → Ordered 0 (map lexeme_of ts) (length text)
    by_bytes (Some at) h = cc
    by_bytes None h =
        subst (λ (n : ℕ). Ordered 0 (map lexeme_of ts) n) (let e : 0 + length text ≡ length text = omega arith in e) (pieces_ordered text 0 0 1 ts (omega arith) h)

    by_length : (b : Bool) → cond b too_long (of_allowed (forbidden 0 text) text) ≡ Ok ts → Ordered 0 (map lexeme_of ts) (length text)
    by_length true h = cc
    by_length false h = by_bytes (forbidden 0 text) h
