-- What holds of each token of a text: the bytes at its place are its own, and its line is that of all where no line ends.
use Rattle.std.proofs.Common.{◌≡◌, ℕ, zero, suc, ◌+◌, ◌≤◌, Bool, true, false, cond, List, [], ◌∷◌, length, take, drop, Result, Ok, Err, refl, sym, ap, ◌∙◌, subst, arith}
use Rattle.std.specs.Prelude.{◌==◌, not}
use Rattle.std.specs.List.{list_all}
use Rattle.std.proofs.lemmas.List.{length-take-le, drop-drop}
use Rattle.par_text.specs.declared.kind.Kind.{Kind}
use Rattle.par_text.specs.declared.syntax_error.SyntaxKind.{SyntaxKind}
use Rattle.par_text.specs.Rule.{Token}
use Rattle.par_text.specs.Lexing.{Lexed, Piece, is_not_newline, piece_rest, line_after, pieces, is_lexeme, form_of, token_from, with_token, with_form, with_piece, lexed, text_tokens}
use Rattle.par_text.proofs.KindLemmas.{both_true}
use Rattle.loop_expand.specs.Texts.{bytes_of}
use Rattle.loop_expand.specs.Expansion.{lexeme_of}
use Rattle.loop_laws.proofs.Joining.{same_tokens, lexed_of_text}
use Rattle.loop_expand.proofs.TokenPlaces.{piece_rest_le}

abbrev pub Each : (Token → Type 0) → List Token → Type 0
Each P [] = Unit {0}
Each P (t ∷ ts) = P t × Each P ts

module _ (P : Token → Type 0) where
  each_token : (t : Token) (r : Lexed) (ts : List Token) → with_token t r ≡ Ok ts → P t → ((us : List Token) → r ≡ Ok us → Each P us) → Each P ts
  each_token t (Ok us) ts e p more = subst (Each P) (same_tokens (t ∷ us) ts e) (p, more us refl)
  each_token t (Err f) ts e p more = cc

  each_form : (p : Piece) (form : Result Kind SyntaxKind) (r : Lexed) (ts : List Token) → with_form p form r ≡ Ok ts → ((j : Kind) → P (token_from p j)) → ((us : List Token) → r ≡ Ok us → Each P us) → Each P ts
  each_form p (Ok j) r ts e one more = each_token (token_from p j) r ts e (one j) more
  each_form p (Err f) r ts e one more = cc

  each_of_piece : (p : Piece) (r : Lexed) (ts : List Token) → with_piece p r ≡ Ok ts → ((j : Kind) → P (token_from p j)) → ((us : List Token) → r ≡ Ok us → Each P us) → Each P ts
  unfolding with_piece
  each_of_piece p r ts e one more = by_test (is_lexeme p.bytes) e
    where
      by_test : (b : Bool) → cond b (with_form p (form_of p.bytes) r) r ≡ Ok ts → Each P ts
      by_test true h = each_form p (form_of p.bytes) r ts h one more
      by_test false h = more ts h

  module _ (Here : ℕ → ℕ → ℕ → List ℕ → Type 0)
      (old : (skip at line c : ℕ) (cs : List ℕ) → Here (suc skip) at line (c ∷ cs) → Here skip (at + 1) (line_after c line) cs)
      (new : (at line c : ℕ) (cs : List ℕ) → Here 0 at line (c ∷ cs) → Here (piece_rest c cs) (at + 1) (line_after c line) cs)
      (one : (at line c : ℕ) (cs : List ℕ) (j : Kind) → Here 0 at line (c ∷ cs) → P (token_from (record { bytes = c ∷ take (piece_rest c cs) cs; at = at; line = line }) j)) where
    -- what each piece keeps holds of each token
    each_of_pieces : (skip at line : ℕ) (cs : List ℕ) (ts : List Token) → Here skip at line cs → lexed (pieces skip at line cs) ≡ Ok ts → Each P ts
    unfolding pieces lexed
    each_of_pieces skip at line [] ts here e = subst (Each P) (same_tokens [] ts e) tt
    each_of_pieces (suc skip) at line (c ∷ cs) ts here e = each_of_pieces skip (at + 1) (line_after c line) cs ts (old skip at line c cs here) e
    each_of_pieces zero at line (c ∷ cs) ts here e =
        each_of_piece (record { bytes = c ∷ take (piece_rest c cs) cs; at = at; line = line }) (lexed (pieces (piece_rest c cs) (at + 1) (line_after c line) cs)) ts e
        (λ j. one at line c cs j here)
        (λ us h. each_of_pieces (piece_rest c cs) (at + 1) (line_after c line) cs us (new at line c cs here) h)

-- the bytes at its place in the text are the token's own
abbrev pub HasItsBytes : List ℕ → Token → Type 0
HasItsBytes text t = bytes_of text (lexeme_of t) ≡ t.bytes

token_bytes : (text : List ℕ) (at line c : ℕ) (cs : List ℕ) (j : Kind) → drop at text ≡ c ∷ cs → HasItsBytes text (token_from (record { bytes = c ∷ take (piece_rest c cs) cs; at = at; line = line }) j)
token_bytes text at line c cs j here =
    ap (λ (left : List ℕ). take (suc (length (take (piece_rest c cs) cs))) left) here
    ∙ ap (λ (n : ℕ). c ∷ take n cs) (length-take-le (piece_rest c cs) cs (piece_rest_le c cs))

next_left : (text : List ℕ) (at c : ℕ) (cs : List ℕ) → drop at text ≡ c ∷ cs → drop (at + 1) text ≡ cs
next_left text at c cs here = sym (drop-drop 1 at text) ∙ ap (λ (left : List ℕ). drop 1 left) here

pub tokens_have_their_bytes : (text : List ℕ) (ts : List Token) → text_tokens text ≡ Ok ts → Each (HasItsBytes text) ts
tokens_have_their_bytes text ts e =
    each_of_pieces (HasItsBytes text) (λ skip at line cs. drop at text ≡ cs)
    (λ skip at line c cs here. next_left text at c cs here) (λ at line c cs here. next_left text at c cs here)
    (λ at line c cs j here. token_bytes text at line c cs j here)
    0 0 1 text ts refl (lexed_of_text text ts e).1

-- how many bytes of a piece are still to come behind the first n bytes
abbrev pub walk : ℕ → ℕ → List ℕ → ℕ
walk skip zero cs = skip
walk skip (suc n) [] = 0
walk (suc skip) (suc n) (c ∷ cs) = walk skip n cs
walk zero (suc n) (c ∷ cs) = walk (piece_rest c cs) n cs

-- no piece of the text goes over this place
abbrev pub IsBoundary : List ℕ → ℕ → Type 0
IsBoundary text n = walk 0 n text ≡ 0

pub walk-add : (skip n m : ℕ) (cs : List ℕ) → walk skip (n + m) cs ≡ walk (walk skip n cs) m (drop n cs)
walk-add skip zero m cs = ap (λ i. walk skip i cs) (let e : 0 + m ≡ m = omega arith in e)
walk-add skip (suc n) m [] = ap (λ i. walk skip i []) (let e : suc n + m ≡ suc (n + m) = omega arith in e) ∙ nothing m
  where
    nothing : (m : ℕ) → 0 ≡ walk 0 m []
    nothing zero = refl
    nothing (suc m) = refl
walk-add (suc skip) (suc n) m (c ∷ cs) = ap (λ i. walk (suc skip) i (c ∷ cs)) (let e : suc n + m ≡ suc (n + m) = omega arith in e) ∙ walk-add skip n m cs
walk-add zero (suc n) m (c ∷ cs) = ap (λ i. walk 0 i (c ∷ cs)) (let e : suc n + m ≡ suc (n + m) = omega arith in e) ∙ walk-add (piece_rest c cs) n m cs

walk-all : (n : ℕ) (cs : List ℕ) → n ≤ length cs → walk n n cs ≡ 0
walk-all zero cs le = refl
walk-all (suc n) [] le = absurd (omega (arith, le))
walk-all (suc n) (c ∷ cs) le = walk-all n cs (omega (arith, le))

abbrev pub StandsApart : List ℕ → Token → Type 0
StandsApart text t = IsBoundary text t.at × IsBoundary text (t.at + t.len)

next_walk : (text : List ℕ) (skip at : ℕ) (cs : List ℕ) → drop at text ≡ cs → walk 0 at text ≡ skip → walk 0 (at + 1) text ≡ walk skip 1 cs
next_walk text skip at cs here is = walk-add 0 at 1 text ∙ ap (λ s. walk s 1 (drop at text)) is ∙ ap (λ left. walk skip 1 left) here

token_apart : (text : List ℕ) (at line c : ℕ) (cs : List ℕ) (j : Kind) → drop at text ≡ c ∷ cs → walk 0 at text ≡ 0 → StandsApart text (token_from (record { bytes = c ∷ take (piece_rest c cs) cs; at = at; line = line }) j)
token_apart text at line c cs j here is = (
  is,
  walk-add 0 at (suc (length (take (piece_rest c cs) cs))) text
      ∙ ap (λ s. walk s (suc (length (take (piece_rest c cs) cs))) (drop at text)) is
      ∙ ap (λ left. walk 0 (suc (length (take (piece_rest c cs) cs))) left) here
      ∙ ap (λ n. walk (piece_rest c cs) n cs) (length-take-le (piece_rest c cs) cs (piece_rest_le c cs))
      ∙ walk-all (piece_rest c cs) cs (piece_rest_le c cs),
)

pub tokens_stand_apart : (text : List ℕ) (ts : List Token) → text_tokens text ≡ Ok ts → Each (StandsApart text) ts
tokens_stand_apart text ts e =
    each_of_pieces (StandsApart text) (λ skip at line cs. (drop at text ≡ cs) × (walk 0 at text ≡ skip))
    (λ skip at line c cs h. (next_left text at c cs h.0, next_walk text (suc skip) at (c ∷ cs) h.0 h.1))
    (λ at line c cs h. (next_left text at c cs h.0, next_walk text 0 at (c ∷ cs) h.0 h.1))
    (λ at line c cs j h. token_apart text at line c cs j h.0 h.1)
    0 0 1 text ts (refl, refl) (lexed_of_text text ts e).1

-- no line ends in these bytes
abbrev pub OnOneLine : List ℕ → Type 0
OnOneLine bs = list_all is_not_newline bs ≡ true

abbrev pub IsOnLine : ℕ → Token → Type 0
IsOnLine line t = t.line ≡ line

pub same_line : (c line : ℕ) → is_not_newline c ≡ true → line_after c line ≡ line
same_line c line h = by_test (c == 10) h
  where
    by_test : (b : Bool) → not b ≡ true → cond b (line + 1) line ≡ line
    by_test true h = absurd (never h)
      where
        never : false ≡ true → ⊥
        never e = cc
    by_test false h = refl

pub tokens_on_line : (at line : ℕ) (bs : List ℕ) (ts : List Token) → OnOneLine bs → lexed (pieces 0 at line bs) ≡ Ok ts → Each (IsOnLine line) ts
tokens_on_line at line bs ts one e =
    each_of_pieces (IsOnLine line) (λ skip place here cs. (here ≡ line) × (OnOneLine cs))
    (λ skip place here c cs h. further place here c cs h) (λ place here c cs h. further place here c cs h)
    (λ place here c cs j h. h.0)
    0 at line bs ts (refl, one) e
  where
    further : (place here c : ℕ) (cs : List ℕ) → (here ≡ line) × (OnOneLine (c ∷ cs)) → (line_after c here ≡ line) × (OnOneLine cs)
    further place here c cs h = let (a, b) = both_true (is_not_newline c) (list_all is_not_newline cs) h.1 in (same_line c here a ∙ h.0, b)
