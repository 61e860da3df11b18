-- The tokens of a text that ends with a line, and of what stands behind it.
use Rattle.std.proofs.Common.{◌≡◌, ℕ, zero, suc, ◌+◌, ◌≤◌, Bool, true, false, cond, List, [], ◌∷◌, ◌++◌, length, take, Option, Some, None, Result, Ok, Err, refl, sym, ap, ◌∙◌, arith}
use Rattle.std.specs.Prelude.{◌==◌, ◌&&◌, nat_lt}
use Rattle.std.proofs.lemmas.Bool.{ltb-false}
use Rattle.std.proofs.lemmas.List.{take-append-le}
use Rattle.par_text.specs.declared.kind.Kind.{Kind}
use Rattle.par_text.specs.declared.syntax_error.SyntaxKind.{SyntaxKind}
use Rattle.par_text.specs.declared.syntax_error.SyntaxKind.TheVariants.{TooLong}
use Rattle.par_text.specs.Rule.{Token}
use Rattle.par_text.specs.Lexing.{Lexed, Piece, is_word, is_not_newline, takes_equal, begins_with_equal, run, piece_rest, line_after, pieces, is_lexeme, form_of, token_from, with_token, with_form, with_piece, lexed, forbidden, longest_text, of_allowed, text_tokens}
use Rattle.canonical_text.proofs.Lexemes.{with_tokens}
use Rattle.loop_expand.proofs.TokenPlaces.{piece_rest_le}

-- tokens in front of others, or the reason why there are none
abbrev pub in_front : Lexed → Lexed → Lexed
in_front (Ok ts) l = with_tokens ts l
in_front (Err e) l = Err e

-- the place behind bytes, and the line there
abbrev pub place_after : ℕ → List ℕ → ℕ
place_after at [] = at
place_after at (c ∷ cs) = place_after (at + 1) cs

abbrev pub lines_after : ℕ → List ℕ → ℕ
lines_after line [] = line
lines_after line (c ∷ cs) = lines_after (line_after c line) cs

-- no piece but a blank has the end of a line

run_stops : (p : ℕ → Bool) → p 10 ≡ false → (cs behind : List ℕ) → run p (cs ++ 10 ∷ behind) ≡ run p cs
run_stops p none [] behind = ap (λ (b : Bool). cond b (suc (run p behind)) 0) none
run_stops p none (c ∷ cs) behind = ap (λ (n : ℕ). cond (p c) (suc n) 0) (run_stops p none cs behind)

equal_stops : (cs behind : List ℕ) → begins_with_equal (cs ++ 10 ∷ behind) ≡ begins_with_equal cs
equal_stops [] behind = refl
equal_stops (c ∷ cs) behind = refl

rest_stops : (c : ℕ) (cs behind : List ℕ) → piece_rest c (cs ++ 10 ∷ behind) ≡ piece_rest c cs
unfolding piece_rest
rest_stops c cs behind =
    ap (λ (n : ℕ). cond (is_word c) n (cond (c == 35) (run is_not_newline (cs ++ 10 ∷ behind)) (cond (takes_equal c && begins_with_equal (cs ++ 10 ∷ behind)) 1 0))) (run_stops is_word refl cs behind)
    ∙ ap (λ (n : ℕ). cond (is_word c) (run is_word cs) (cond (c == 35) n (cond (takes_equal c && begins_with_equal (cs ++ 10 ∷ behind)) 1 0))) (run_stops is_not_newline refl cs behind)
    ∙ ap (λ (b : Bool). cond (is_word c) (run is_word cs) (cond (c == 35) (run is_not_newline cs) (cond (takes_equal c && b) 1 0))) (equal_stops cs behind)

-- a piece in front

token_in_front : (t : Token) (a l : Lexed) → with_token t (in_front a l) ≡ in_front (with_token t a) l
token_in_front t (Ok ts) l = refl
token_in_front t (Err e) l = refl

form_in_front : (p : Piece) (form : Result Kind SyntaxKind) (a l : Lexed) → with_form p form (in_front a l) ≡ in_front (with_form p form a) l
form_in_front p (Ok j) a l = token_in_front (token_from p j) a l
form_in_front p (Err f) a l = refl

pub piece_in_front : (p : Piece) (a l : Lexed) → with_piece p (in_front a l) ≡ in_front (with_piece p a) l
unfolding with_piece
piece_in_front p a l = by_test (is_lexeme p.bytes)
  where
    by_test : (b : Bool) → cond b (with_form p (form_of p.bytes) (in_front a l)) (in_front a l) ≡ in_front (cond b (with_form p (form_of p.bytes) a) a) l
    by_test true = form_in_front p (form_of p.bytes) a l
    by_test false = refl

-- The tokens of a text, one end of a line and another text are those of both.
pub joined : (skip at line : ℕ) (u v : List ℕ) → skip ≤ length u
    → lexed (pieces skip at line (u ++ 10 ∷ v)) ≡ in_front (lexed (pieces skip at line u)) (lexed (pieces 0 (place_after at u) (lines_after line u) (10 ∷ v)))
unfolding pieces lexed
joined zero at line [] v le = refl
joined (suc skip) at line [] v le = absurd (omega arith)
joined (suc skip) at line (c ∷ cs) v le = joined skip (at + 1) (line_after c line) cs v (omega arith)
joined zero at line (c ∷ cs) v le =
    let rest : ℕ = piece_rest c cs in
    let short : rest ≤ length cs = piece_rest_le c cs in
    let behind : Lexed = lexed (pieces 0 (place_after (at + 1) cs) (lines_after (line_after c line) cs) (10 ∷ v)) in
    ap (λ (n : ℕ). with_piece (record { bytes = c ∷ take n (cs ++ 10 ∷ v); at = at; line = line }) (lexed (pieces n (at + 1) (line_after c line) (cs ++ 10 ∷ v)))) (rest_stops c cs v)
    ∙ ap (λ (w : List ℕ). with_piece (record { bytes = c ∷ w; at = at; line = line }) (lexed (pieces rest (at + 1) (line_after c line) (cs ++ 10 ∷ v)))) (take-append-le rest cs (10 ∷ v) short)
    ∙ ap (λ (l : Lexed). with_piece (record { bytes = c ∷ take rest cs; at = at; line = line }) l) (joined rest (at + 1) (line_after c line) cs v short)
    ∙ piece_in_front (record { bytes = c ∷ take rest cs; at = at; line = line }) (lexed (pieces rest (at + 1) (line_after c line) cs)) behind

-- the end of a line is no token
pub behind_line : (at line : ℕ) (v : List ℕ) → lexed (pieces 0 at line (10 ∷ v)) ≡ lexed (pieces 0 (at + 1) (line + 1) v)
unfolding pieces lexed with_piece piece_rest
behind_line at line v = refl

-- tokens that are there in front and behind
pub record BothHave (a l : Lexed) (ts : List Token) : Type 0 where
  pub front : List Token
  pub behind : List Token
  pub front_is : a ≡ Ok front
  pub behind_is : l ≡ Ok behind
  pub both : ts ≡ front ++ behind

abbrev pub tokens_or_none : Lexed → List Token
tokens_or_none (Ok ts) = ts
tokens_or_none (Err e) = []

pub same_tokens : (a b : List Token) → ◌≡◌ {A = Lexed} (Ok a) (Ok b) → a ≡ b
same_tokens a b e = ap tokens_or_none e

with_tokens-ok : (ts us : List Token) → with_tokens ts (Ok us) ≡ Ok (ts ++ us)
with_tokens-ok [] us = refl
with_tokens-ok (t ∷ ts) us = ap (λ (l : Lexed). with_token t l) (with_tokens-ok ts us)

with_tokens-err : (ts us : List Token) (l : Lexed) → with_tokens ts l ≡ Ok us → (vs : List Token) × (l ≡ Ok vs)
with_tokens-err [] us l e = (us, e)
with_tokens-err (t ∷ ts) us l e = by_rest (λ vs h. with_tokens-err ts vs l h) (with_tokens ts l) refl e
  where
    by_rest : ((vs : List Token) → with_tokens ts l ≡ Ok vs → (ws : List Token) × (l ≡ Ok ws)) → (r : Lexed) → with_tokens ts l ≡ r → with_token t r ≡ Ok us → (vs : List Token) × (l ≡ Ok vs)
    by_rest more (Ok vs) h e = more vs h
    by_rest more (Err f) h e = absurd (never e)
      where
        never : ◌≡◌ {A = Lexed} (Err f) (Ok us) → ⊥
        never e = cc

pub both_have : (a l : Lexed) (ts : List Token) → in_front a l ≡ Ok ts → BothHave a l ts
both_have (Ok front) l ts e =
    let h = with_tokens-err front ts l e in
    record {
      front = front;
      behind = h.0;
      front_is = refl;
      behind_is = h.1;
      both = same_tokens ts (front ++ h.0) (sym e ∙ ap (λ (x : Lexed). with_tokens front x) h.1 ∙ with_tokens-ok front h.0);
    }
both_have (Err f) l ts e = absurd (never e)
  where
    never : ◌≡◌ {A = Lexed} (Err f) (Ok ts) → ⊥
    never e = cc

-- a text that has tokens is not too long, and they are those of its pieces
pub lexed_of_text : (text : List ℕ) (ts : List Token) → text_tokens text ≡ Ok ts → (length text ≤ longest_text) × (lexed (pieces 0 0 1 text) ≡ Ok ts)
unfolding text_tokens
lexed_of_text text ts is = by_length (nat_lt longest_text (length text)) refl is
  where
    too_long : Lexed
    too_long = Err (record { kind = TooLong; at = longest_text })

    by_bytes : (o : Option ℕ) → of_allowed o text ≡ Ok ts → lexed (pieces 0 0 1 text) ≡ Ok ts
    by_bytes (Some at) h = cc
    by_bytes None h = h

    by_length : (b : Bool) → nat_lt longest_text (length text) ≡ b → cond b too_long (of_allowed (forbidden 0 text) text) ≡ Ok ts → (length text ≤ longest_text) × (lexed (pieces 0 0 1 text) ≡ Ok ts)
    by_length true long h = cc
    by_length false short h = (ltb-false longest_text (length text) short, by_bytes (forbidden 0 text) h)
