-- A text, one piece after the other.
use Rattle.std.proofs.Common.{◌≡◌, ℕ, zero, suc, ◌+◌, ◌≤◌, Bool, true, false, cond, List, [], ◌∷◌, ◌++◌, length, map, take, drop, Result, Ok, Err, refl, sym, ap, ◌∙◌, arith, append_assoc}
use Rattle.std.specs.Prelude.{◌==◌, ◌&&◌, ℤ}
use Rattle.std.proofs.lemmas.Bool.{eqb-true}
use Rattle.std.proofs.lemmas.List.{map_push, drop-drop, append-nil}
use Rattle.par_text.specs.declared.kind.Kind.{Kind}
use Rattle.par_text.specs.declared.syntax_error.SyntaxKind.{SyntaxKind}
use Rattle.par_text.specs.Rule.{Token}
use Rattle.par_text.specs.Lexing.{Lexed, Piece, is_word, is_not_newline, takes_equal, begins_with_equal, run, piece_rest, line_after, pieces, is_lexeme, form_of, value_of, token_from, with_token, with_form, with_piece, lexed}
use Rattle.par_lex.specs.declared.lexeme.Lexeme.{Lexeme}
use Rattle.par_lex.specs.Words.{word_of, words}
use Rattle.par_lex.specs.declared.parse_fail.ParseFail.{ParseFail}
use Rattle.par_lex.specs.declared.parse_fail.ParseFail.TheVariants.{Refused, OutOfMemory}
use Rattle.par_lex.specs.Lexes.{with_tokens, RefusesSo}

-- a blank or a comment leaves no trace
pub with_piece-gap : (p : Piece) (rest : Lexed) → is_lexeme p.bytes ≡ false → with_piece p rest ≡ rest
unfolding with_piece
with_piece-gap p rest e = ap (λ (b : Bool). cond b (with_form p (form_of p.bytes) rest) rest) e

pub with_piece-bad : (p : Piece) (rest : Lexed) (f : SyntaxKind) → is_lexeme p.bytes ≡ true → form_of p.bytes ≡ Err f → with_piece p rest ≡ Err (record { kind = f; at = p.at })
unfolding with_piece
with_piece-bad p rest f e h =
    ap (λ (b : Bool). cond b (with_form p (form_of p.bytes) rest) rest) e ∙ ap (λ (form : Result Kind SyntaxKind). with_form p form rest) h

with_piece-good : (p : Piece) (rest : Lexed) (j : Kind) → is_lexeme p.bytes ≡ true → form_of p.bytes ≡ Ok j → with_piece p rest ≡ with_token (token_from p j) rest
unfolding with_piece
with_piece-good p rest j e h =
    ap (λ (b : Bool). cond b (with_form p (form_of p.bytes) rest) rest) e ∙ ap (λ (form : Result Kind SyntaxKind). with_form p form rest) h

with_tokens-append : (ts : List Token) (t : Token) (rest : Lexed) → with_tokens ts (with_token t rest) ≡ with_tokens (ts ++ t ∷ []) rest
with_tokens-append ts t (Ok us) = ap (λ (xs : List Token). Ok xs) (sym (append_assoc ts (t ∷ []) us))
with_tokens-append ts t (Err e) = refl

words-append : (text : List ℕ) (ls : List Lexeme) (l : Lexeme) → words text (ls ++ l ∷ []) ≡ words text ls ++ word_of text l ∷ []
unfolding words
words-append text ls l = map_push (word_of text) ls l

pub words-none : (text : List ℕ) (ls : List Lexeme) → ls ≡ [] → words text ls ≡ []
unfolding words
words-none text ls e = ap (λ (xs : List Lexeme). map (word_of text) xs) e

-- the token of a piece
word_of-piece : (text bytes : List ℕ) (j : Kind) (v : ℤ) (at line : ℕ) → take (length bytes) (drop at text) ≡ bytes → v ≡ value_of bytes
    → word_of text (record { kind = j; value = v; at = at; len = length bytes; line = line }) ≡ token_from (record { bytes = bytes; at = at; line = line }) j
word_of-piece text bytes j v at line h g =
    let by_bytes : word_of text (record { kind = j; value = v; at = at; len = length bytes; line = line }) ≡ record { kind = j; bytes = bytes; value = v; at = at; len = length bytes; line = line } =
    ap (λ (bs : List ℕ). record { kind = j; bytes = bs; value = v; at = at; len = length bytes; line = line }) h in
    let by_value : record { kind = j; bytes = bytes; value = v; at = at; len = length bytes; line = line } ≡ token_from (record { bytes = bytes; at = at; line = line }) j =
    ap (λ (n : ℤ). record { kind = j; bytes = bytes; value = n; at = at; len = length bytes; line = line }) g in
    by_bytes ∙ by_value

pub adds_token : (text bytes : List ℕ) (j : Kind) (v : ℤ) (at line : ℕ) (old new : List Lexeme) (rest : Lexed) → is_lexeme bytes ≡ true → form_of bytes ≡ Ok j → v ≡ value_of bytes
    → new ≡ old ++ record { kind = j; value = v; at = at; len = length bytes; line = line } ∷ [] → take (length bytes) (drop at text) ≡ bytes
    → with_tokens (words text old) (with_piece (record { bytes = bytes; at = at; line = line }) rest) ≡ with_tokens (words text new) rest
adds_token text bytes j v at line old new rest e h g added cut =
    ap (λ (l : Lexed). with_tokens (words text old) l) (with_piece-good (record { bytes = bytes; at = at; line = line }) rest j e h)
    ∙ with_tokens-append (words text old) (token_from (record { bytes = bytes; at = at; line = line }) j) rest
    ∙ ap (λ (t : Token). with_tokens (words text old ++ t ∷ []) rest) (sym (word_of-piece text bytes j v at line cut g))
    ∙ ap (λ (ts : List Token). with_tokens ts rest) (sym (words-append text old (record { kind = j; value = v; at = at; len = length bytes; line = line })))
    ∙ ap (λ (ls : List Lexeme). with_tokens (words text ls) rest) (sym added)

-- the first k bytes are no end of a line
abbrev Quiet : ℕ → List ℕ → Type 0
Quiet zero cs = Unit {0}
Quiet (suc k) [] = Unit {0}
Quiet (suc k) (c ∷ cs) = ((c == 10) ≡ false) × Quiet k cs

pieces-skip : (k at line : ℕ) (cs : List ℕ) → Quiet k cs → pieces k at line cs ≡ pieces 0 (at + k) line (drop k cs)
unfolding pieces
pieces-skip zero at line [] q = refl
pieces-skip (suc k) at line [] q = refl
pieces-skip zero at line (c ∷ cs) q = ap (λ (n : ℕ). pieces 0 n line (c ∷ cs)) (let e : at ≡ at + 0 = omega arith in e)
pieces-skip (suc k) at line (c ∷ cs) q =
    ap (λ (b : Bool). pieces k (at + 1) (cond b (line + 1) line) cs) q.0
    ∙ pieces-skip k (at + 1) line cs q.1
    ∙ ap (λ (n : ℕ). pieces 0 n line (drop k cs)) (let e : (at + 1) + k ≡ at + suc k = omega arith in e)

no_newline : (p : ℕ → Bool) (c : ℕ) → p 10 ≡ false → p c ≡ true → (c == 10) ≡ false
no_newline p c none h = go (c == 10) refl
  where
    go : (b : Bool) → (c == 10) ≡ b → b ≡ false
    go true e = let same : c ≡ 10 = eqb-true c 10 e in let at_ten : p c ≡ p 10 = ap p same in cc
    go false e = refl

run-quiet : (p : ℕ → Bool) (cs : List ℕ) → p 10 ≡ false → Quiet (run p cs) cs
run-quiet p [] none = tt
run-quiet p (c ∷ cs) none = go (p c) refl (run-quiet p cs none)
  where
    go : (b : Bool) → p c ≡ b → Quiet (run p cs) cs → Quiet (cond b (suc (run p cs)) 0) (c ∷ cs)
    go true e q = (no_newline p c none e, q)
    go false e q = tt

equal-quiet : (cs : List ℕ) (b : Bool) → begins_with_equal cs ≡ b → Quiet (cond b 1 0) cs
equal-quiet [] true e = tt
equal-quiet (c ∷ cs) true e = (no_newline (λ n. n == 61) c refl e, tt)
equal-quiet cs false e = tt

and-quiet : (a : Bool) (cs : List ℕ) → Quiet (cond (a && begins_with_equal cs) 1 0) cs
and-quiet true cs = equal-quiet cs (begins_with_equal cs) refl
and-quiet false cs = tt

piece_rest-quiet : (c : ℕ) (cs : List ℕ) → Quiet (piece_rest c cs) cs
unfolding piece_rest
piece_rest-quiet c cs = go (is_word c) (c == 35)
  where
    go : (a b : Bool) → Quiet (cond a (run is_word cs) (cond b (run is_not_newline cs) (cond (takes_equal c && begins_with_equal cs) 1 0))) cs
    go true b = run-quiet is_word cs refl
    go false true = run-quiet is_not_newline cs refl
    go false false = and-quiet (takes_equal c) cs

-- the first piece, and then the others
pub lexed-step : (at line : ℕ) (rest : List ℕ) (c : ℕ) (cs : List ℕ) (n : ℕ) (piece after : List ℕ) → rest ≡ c ∷ cs → n ≡ piece_rest c cs + 1 → piece ≡ take n rest → after ≡ drop n rest
    → lexed (pieces 0 at line rest) ≡ with_piece (record { bytes = piece; at = at; line = line }) (lexed (pieces 0 (at + n) (line_after c line) after))
unfolding lexed pieces
lexed-step at line rest c cs n piece after split count front back =
    let more = piece_rest c cs in
    let n_is : n ≡ suc more = omega arith in
    let piece_is : piece ≡ c ∷ take more cs = front ∙ ap (λ (i : ℕ). take i rest) n_is ∙ ap (λ (l : List ℕ). take (suc more) l) split in
    let after_is : after ≡ drop more cs = back ∙ ap (λ (i : ℕ). drop i rest) n_is ∙ ap (λ (l : List ℕ). drop (suc more) l) split in
    let place : (at + 1) + more ≡ at + n = omega arith in
    ap (λ (l : List ℕ). lexed (pieces 0 at line l)) split
    ∙ ap (λ (ps : List Piece). with_piece (record { bytes = c ∷ take more cs; at = at; line = line }) (lexed ps)) (pieces-skip more (at + 1) (line_after c line) cs (piece_rest-quiet c cs))
    ∙ ap (λ (i : ℕ). with_piece (record { bytes = c ∷ take more cs; at = at; line = line }) (lexed (pieces 0 i (line_after c line) (drop more cs)))) place
    ∙ ap (λ (l : List ℕ). with_piece (record { bytes = l; at = at; line = line }) (lexed (pieces 0 (at + n) (line_after c line) (drop more cs)))) (sym piece_is)
    ∙ ap (λ (l : List ℕ). with_piece (record { bytes = piece; at = at; line = line }) (lexed (pieces 0 (at + n) (line_after c line) l))) (sym after_is)

pub lexed-end : (at line : ℕ) (rest : List ℕ) → length rest ≡ 0 → lexed (pieces 0 at line rest) ≡ Ok []
unfolding lexed pieces
lexed-end at line [] e = refl
lexed-end at line (c ∷ cs) e = absurd (omega arith)

pub cut_of : (at n : ℕ) (text rest piece : List ℕ) → rest ≡ drop at text → piece ≡ take n rest → length piece ≡ n → take (length piece) (drop at text) ≡ piece
cut_of at n text rest piece here front long =
    ap (λ (i : ℕ). take i (drop at text)) long ∙ ap (λ (l : List ℕ). take n l) (sym here) ∙ sym front

pub rest_of : (at n : ℕ) (text rest after : List ℕ) → rest ≡ drop at text → after ≡ drop n rest → after ≡ drop (at + n) text
rest_of at n text rest after here back = back ∙ ap (λ (l : List ℕ). drop n l) here ∙ drop-drop n at text

pub with_tokens-none : (ts : List Token) (rest : Lexed) → ts ≡ [] → with_tokens ts rest ≡ rest
with_tokens-none ts rest e = ap (λ (us : List Token). with_tokens us rest) e ∙ bare rest
  where
    bare : (rest : Lexed) → with_tokens [] rest ≡ rest
    bare (Ok us) = refl
    bare (Err e) = refl

pub line_after-le : (c line : ℕ) → line_after c line ≤ line + 1
line_after-le c line = go (c == 10)
  where
    go : (b : Bool) → cond b (line + 1) line ≤ line + 1
    go true = omega arith
    go false = omega arith

-- a refusal of the next piece refuses the text
pub refuses_text : (f : ParseFail) (front : List Token) (p : Piece) (rest now total : Lexed) → ((rest : Lexed) → RefusesSo f (with_piece p rest)) → now ≡ with_piece p rest → with_tokens front now ≡ total → RefusesSo f total
refuses_text OutOfMemory front p rest now total h e so_far = tt
refuses_text (Refused g) front p rest now total h e so_far = sym so_far ∙ ap (λ (l : Lexed). with_tokens front l) (e ∙ h rest)

pub all_tokens : (front : List Token) (now total : Lexed) → now ≡ Ok [] → with_tokens front now ≡ total → total ≡ Ok front
all_tokens front now total e so_far = sym so_far ∙ ap (λ (l : Lexed). with_tokens front l) e ∙ ap (λ (ts : List Token). Ok ts) (append-nil front)
