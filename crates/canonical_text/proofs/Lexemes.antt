-- The tokens of a text, one lexeme after the other.
use Rattle.std.proofs.Common.{◌≡◌, ℕ, suc, ◌+◌, Bool, true, false, cond, List, [], ◌∷◌, ◌++◌, length, take, Some, None, Result, Ok, refl, sym, ap, ◌∙◌, append_assoc}
use Rattle.std.specs.Prelude.{◌==◌, ◌&&◌}
use Rattle.std.proofs.lemmas.List.{take_at}
use Rattle.par_text.specs.declared.kind.Kind.{Kind}
use Rattle.par_text.specs.declared.syntax_error.SyntaxKind.{SyntaxKind}
use Rattle.par_text.specs.Rule.{Token}
use Rattle.par_text.specs.Lexing.{Lexed, Piece, is_word, is_allowed, is_not_newline, takes_equal, begins_with_equal, run, piece_rest, line_after, pieces, is_lexeme, form_of, token_from, with_token, with_form, with_piece, lexed, forbidden}

-- the tokens of the bytes from a place on
abbrev pub lex : ℕ → ℕ → List ℕ → Lexed
lex at line bs = lexed (pieces 0 at line bs)

abbrev pub with_tokens : List Token → Lexed → Lexed
with_tokens [] l = l
with_tokens (t ∷ ts) l = with_token t (with_tokens ts l)

pub with_tokens-append : (ts us : List Token) (l : Lexed) → with_tokens (ts ++ us) l ≡ with_tokens ts (with_tokens us l)
with_tokens-append [] us l = refl
with_tokens-append (t ∷ ts) us l = ap (λ (x : Lexed). with_token t x) (with_tokens-append ts us l)

pub with_tokens-all : (ts : List Token) → with_tokens ts (Ok []) ≡ Ok ts
with_tokens-all [] = refl
with_tokens-all (t ∷ ts) = ap (λ (x : Lexed). with_token t x) (with_tokens-all ts)

-- bytes that make no lexeme longer that ends before them
abbrev pub Clear : List ℕ → Type 0
Clear [] = Unit {0}
Clear (c ∷ cs) = (is_word c ≡ false) × ((c == 61) ≡ false)

-- letters, digits and `_`
abbrev pub Words : List ℕ → Type 0
Words [] = Unit {0}
Words (c ∷ cs) = (is_word c ≡ true) × Words cs

-- the bytes bs, with the bytes of rest behind them, are the tokens ts
pub record Lexes (at line : ℕ) (bs rest : List ℕ) (ts : List Token) : Type 0 where
  pub at_end : ℕ
  pub last_line : ℕ
  pub same : lex at line (bs ++ rest) ≡ with_tokens ts (lex at_end last_line rest)

pub no_bytes : (at line : ℕ) (rest : List ℕ) → Lexes at line [] rest []
no_bytes at line rest = record { at_end = at; last_line = line; same = refl }

pub both_lex : (at line : ℕ) (u v rest : List ℕ) (ts us : List Token) (a : Lexes at line u (v ++ rest) ts) → Lexes a.at_end a.last_line v rest us → Lexes at line (u ++ v) rest (ts ++ us)
both_lex at line u v rest ts us a b = record {
  at_end = b.at_end;
  last_line = b.last_line;
  same =
      ap (λ (x : List ℕ). lex at line x) (append_assoc u v rest)
      ∙ a.same
      ∙ ap (λ (x : Lexed). with_tokens ts x) b.same
      ∙ sym (with_tokens-append ts us (lex b.at_end b.last_line rest));
}

-- behind the first byte of a piece
record Passed (at line : ℕ) (w rest : List ℕ) : Type 0 where
  at_end : ℕ
  last_line : ℕ
  same : pieces (length w) at line (w ++ rest) ≡ pieces 0 at_end last_line rest

passed : (at line : ℕ) (w rest : List ℕ) → Passed at line w rest
unfolding pieces
passed at line [] rest = record { at_end = at; last_line = line; same = refl }
passed at line (c ∷ w) rest =
    let p = passed (at + 1) (line_after c line) w rest in
    record { at_end = p.at_end; last_line = p.last_line; same = p.same }

-- the piece of a lexeme, and what is behind it
record Cut (at line c : ℕ) (cs rest : List ℕ) : Type 0 where
  at_end : ℕ
  last_line : ℕ
  same : lex at line (c ∷ (cs ++ rest)) ≡ with_piece (record { bytes = c ∷ cs; at = at; line = line }) (lex at_end last_line rest)

cut : (at line c : ℕ) (cs rest : List ℕ) → piece_rest c (cs ++ rest) ≡ length cs → Cut at line c cs rest
unfolding pieces lexed
cut at line c cs rest e =
    let p = passed (at + 1) (line_after c line) cs rest in
    record {
      at_end = p.at_end;
      last_line = p.last_line;
      same =
          ap (λ (n : ℕ). with_piece (record { bytes = c ∷ take n (cs ++ rest); at = at; line = line }) (lexed (pieces n (at + 1) (line_after c line) (cs ++ rest)))) e
          ∙ ap (λ (w : List ℕ). with_piece (record { bytes = c ∷ w; at = at; line = line }) (lexed (pieces (length cs) (at + 1) (line_after c line) (cs ++ rest)))) (take_at cs rest (length cs) refl)
          ∙ ap (λ (ps : List Piece). with_piece (record { bytes = c ∷ cs; at = at; line = line }) (lexed ps)) p.same;
    }

with_piece-good : (p : Piece) (rest : Lexed) (j : Kind) → is_lexeme p.bytes ≡ true → form_of p.bytes ≡ Ok j → with_piece p rest ≡ with_token (token_from p j) rest
unfolding with_piece
with_piece-good p rest j e h =
    ap (λ (b : Bool). cond b (with_form p (form_of p.bytes) rest) rest) e ∙ ap (λ (form : Result Kind SyntaxKind). with_form p form rest) h

with_piece-gap : (p : Piece) (rest : Lexed) → is_lexeme p.bytes ≡ false → with_piece p rest ≡ rest
unfolding with_piece
with_piece-gap p rest e = ap (λ (b : Bool). cond b (with_form p (form_of p.bytes) rest) rest) e

-- a lexeme of a kind is one token
pub one_token : (k : Kind) (c : ℕ) (cs : List ℕ) → is_lexeme (c ∷ cs) ≡ true → form_of (c ∷ cs) ≡ Ok k
    → (at line : ℕ) (rest : List ℕ) → piece_rest c (cs ++ rest) ≡ length cs
    → Lexes at line (c ∷ cs) rest (token_from (record { bytes = c ∷ cs; at = at; line = line }) k ∷ [])
one_token k c cs word form at line rest whole =
    let p = cut at line c cs rest whole in
    record {
      at_end = p.at_end;
      last_line = p.last_line;
      same = p.same ∙ with_piece-good (record { bytes = c ∷ cs; at = at; line = line }) (lex p.at_end p.last_line rest) k word form;
    }

-- blanks are no tokens
abbrev pub IsGap : ℕ → Type 0
IsGap c = ((is_lexeme (c ∷ []) ≡ false) × ((is_allowed c ≡ true) × ((cs : List ℕ) → piece_rest c cs ≡ 0))) × Clear (c ∷ [])

abbrev pub AreGaps : List ℕ → Type 0
AreGaps [] = Unit {0}
AreGaps (c ∷ cs) = IsGap c × AreGaps cs

pub gap-space : IsGap 32
unfolding piece_rest
gap-space = ((refl, (refl, λ cs. refl)), (refl, refl))

pub gap-newline : IsGap 10
unfolding piece_rest
gap-newline = ((refl, (refl, λ cs. refl)), (refl, refl))

pub no_token : (w : List ℕ) → AreGaps w → (at line : ℕ) (rest : List ℕ) → Lexes at line w rest []
no_token [] h at line rest = no_bytes at line rest
no_token (c ∷ w) h at line rest =
    let p = cut at line c [] (w ++ rest) (h.0.0.1.1 (w ++ rest)) in
    let more = no_token w h.1 p.at_end p.last_line rest in
    record {
      at_end = more.at_end;
      last_line = more.last_line;
      same = p.same ∙ with_piece-gap (record { bytes = c ∷ []; at = at; line = line }) (lex p.at_end p.last_line (w ++ rest)) h.0.0.0 ∙ more.same;
    }

pub gaps-append : (u v : List ℕ) → AreGaps u → AreGaps v → AreGaps (u ++ v)
gaps-append [] v a b = b
gaps-append (c ∷ u) v a b = (a.0, gaps-append u v a.1 b)

-- bytes that a text may have
abbrev pub Allowed : List ℕ → Type 0
Allowed [] = Unit {0}
Allowed (c ∷ cs) = (is_allowed c ≡ true) × Allowed cs

pub allowed-append : (u v : List ℕ) → Allowed u → Allowed v → Allowed (u ++ v)
allowed-append [] v a b = b
allowed-append (c ∷ u) v a b = (a.0, allowed-append u v a.1 b)

pub gaps-allowed : (w : List ℕ) → AreGaps w → Allowed w
gaps-allowed [] h = tt
gaps-allowed (c ∷ w) h = (h.0.0.1.0, gaps-allowed w h.1)

pub none_forbidden : (at : ℕ) (bs : List ℕ) → Allowed bs → forbidden at bs ≡ None
unfolding forbidden
none_forbidden at [] h = refl
none_forbidden at (c ∷ cs) h = ap (λ (b : Bool). cond b (forbidden (at + 1) cs) (Some at)) h.0 ∙ none_forbidden (at + 1) cs h.1

-- a lexeme that is read whole before clear bytes
abbrev pub IsWhole : List ℕ → Type 0
IsWhole [] = Unit {0}
IsWhole (c ∷ cs) = (rest : List ℕ) → Clear rest → piece_rest c (cs ++ rest) ≡ length cs

run-all : (w : List ℕ) → Words w → (rest : List ℕ) → Clear rest → run is_word (w ++ rest) ≡ length w
run-all [] h [] clear = refl
run-all [] h (c ∷ rest) clear = ap (λ (b : Bool). cond b (suc (run is_word rest)) 0) clear.0
run-all (c ∷ w) h rest clear = ap (λ (b : Bool). cond b (suc (run is_word (w ++ rest))) 0) h.0 ∙ ap suc (run-all w h.1 rest clear)

-- a word is whole before clear bytes
pub word-whole : (w : List ℕ) → Words w → IsWhole w
unfolding piece_rest
word-whole [] h = tt
word-whole (c ∷ cs) h = λ rest clear.
    ap (λ (b : Bool). cond b (run is_word (cs ++ rest)) (cond (c == 35) (run is_not_newline (cs ++ rest)) (cond (takes_equal c && begins_with_equal (cs ++ rest)) 1 0))) h.0
    ∙ run-all cs h.1 rest clear
