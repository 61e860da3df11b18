-- A text has at most as many tokens as bytes.
use Rattle.std.proofs.Common.{◌≡◌, ℕ, zero, suc, ◌+◌, ◌≤◌, Bool, true, false, cond, List, [], ◌∷◌, length, Option, Some, None, Result, Ok, Err, refl, subst, arith}
use Rattle.std.specs.Prelude.{nat_lt}
use Rattle.std.proofs.lemmas.Bool.{ltb-false}
use Rattle.par_text.specs.declared.kind.Kind.{Kind}
use Rattle.par_text.specs.declared.syntax_error.SyntaxKind.{SyntaxKind}
use Rattle.par_text.specs.declared.syntax_error.SyntaxKind.TheVariants.{TooLong}
use Rattle.par_text.specs.declared.syntax_error.SyntaxError.{SyntaxError}
use Rattle.par_text.specs.Rule.{Token}
use Rattle.par_text.specs.Lexing.{Piece, Lexed, piece_rest, line_after, pieces, is_lexeme, form_of, with_token, with_form, with_piece, lexed, forbidden, of_allowed, longest_text, text_tokens}

-- each piece begins at a byte of its own
few_pieces : (skip at line : ℕ) (cs : List ℕ) → length (pieces skip at line cs) ≤ length cs
unfolding pieces
few_pieces skip at line [] = omega arith
few_pieces zero at line (c ∷ cs) = let rest = few_pieces (piece_rest c cs) (at + 1) (line_after c line) cs in omega (arith, rest)
few_pieces (suc skip) at line (c ∷ cs) = let rest = few_pieces skip (at + 1) (line_after c line) cs in omega (arith, rest)

-- at most n tokens, where there are tokens
abbrev AtMost : ℕ → Lexed → Type 0
AtMost n (Ok ts) = length ts ≤ n
AtMost n (Err e) = Unit {0}

more_room : (n : ℕ) (l : Lexed) → AtMost n l → AtMost (suc n) l
more_room n (Ok ts) h = omega (arith, h)
more_room n (Err e) h = tt

token_room : (n : ℕ) (t : Token) (l : Lexed) → AtMost n l → AtMost (suc n) (with_token t l)
token_room n t (Ok ts) h = omega (arith, h)
token_room n t (Err e) h = tt

form_room : (n : ℕ) (p : Piece) (j : Result Kind SyntaxKind) (l : Lexed) → AtMost n l → AtMost (suc n) (with_form p j l)
form_room n p (Ok j) l h = token_room n _ l h
form_room n p (Err f) l h = tt

piece_room : (n : ℕ) (p : Piece) (l : Lexed) → AtMost n l → AtMost (suc n) (with_piece p l)
unfolding with_piece
piece_room n p l h = go (is_lexeme p.bytes)
  where
    go : (b : Bool) → AtMost (suc n) (cond b (with_form p (form_of p.bytes) l) l)
    go true = form_room n p (form_of p.bytes) l h
    go false = more_room n l h

few_tokens : (ps : List Piece) → AtMost (length ps) (lexed ps)
unfolding lexed
few_tokens [] = omega arith
few_tokens (p ∷ ps) = piece_room (length ps) p (lexed ps) (few_tokens ps)

at_most : (n : ℕ) (l : Lexed) (ts : List Token) → AtMost n l → l ≡ Ok ts → length ts ≤ n
at_most n l ts h e = subst (λ (x : Lexed). AtMost n x) e h

never : (f : SyntaxError) (ts : List Token) → ◌≡◌ {A = Lexed} (Err f) (Ok ts) → ⊥
never f ts e = cc

allowed_tokens : (o : Option ℕ) (text : List ℕ) (ts : List Token) → of_allowed o text ≡ Ok ts → length ts ≤ length text
allowed_tokens (Some at) text ts e = absurd (never _ ts e)
allowed_tokens None text ts e = let a = few_pieces 0 0 1 text in let b = at_most _ _ ts (few_tokens (pieces 0 0 1 text)) e in omega (arith, a, b)

pub few_text_tokens : (text : List ℕ) (ts : List Token) → text_tokens text ≡ Ok ts → length ts ≤ longest_text
unfolding text_tokens
few_text_tokens text ts e = go (nat_lt longest_text (length text)) refl e
  where
    go : (b : Bool) → nat_lt longest_text (length text) ≡ b → cond b (Err (record { kind = TooLong; at = longest_text })) (of_allowed (forbidden 0 text) text) ≡ Ok ts → length ts ≤ longest_text
    go true h e = absurd (never _ ts e)
    go false h e = let a = ltb-false longest_text (length text) h in let b = allowed_tokens (forbidden 0 text) text ts e in omega (arith, a, b)
