-- The tokens of a text are valid.
use Rattle.std.proofs.Common.{◌≡◌, ℕ, zero, suc, ◌+◌, Bool, true, false, cond, List, [], ◌∷◌, length, take, Option, Some, None, Result, Ok, Err, refl, sym, ap, ◌∙◌, subst}
use Rattle.std.specs.Prelude.{◌==◌, ◌&&◌, ◌||◌, not}
use Rattle.par_text.specs.declared.kind.Kind.{Kind}
use Rattle.par_text.specs.declared.syntax_error.SyntaxKind.{SyntaxKind}
use Rattle.par_text.specs.declared.syntax_error.SyntaxKind.TheVariants.{TooLong}
use Rattle.par_text.specs.declared.syntax_error.SyntaxError.{SyntaxError}
use Rattle.par_text.specs.Rule.{Token}
use Rattle.par_text.specs.Form.{Marked, tokens_of}
use Rattle.par_text.specs.Text.{Shallow}
use Rattle.par_text.specs.Lexing.{Lexed, is_word, is_blank, is_allowed, is_not_newline, takes_equal, begins_with_equal, run, piece_rest, line_after, pieces, form_of, token_from, with_token, with_form, with_piece, lexed, forbidden, of_allowed, longest_text, text_tokens}
use Rattle.canonical_text.proofs.Lexemes.{Words, Allowed, IsWhole, word-whole}
use Rattle.canonical_text.proofs.Leaves.{IsToken, comparing-whole}
use Rattle.canonical_text.proofs.Sound.{IsValid, Sound}
use Rattle.std.specs.Prelude.{nat_lt}

allowed_from : (at : ℕ) (bs : List ℕ) → forbidden at bs ≡ None → Allowed bs
unfolding forbidden
allowed_from at [] e = tt
allowed_from at (c ∷ cs) e = go (is_allowed c) refl (allowed_from (at + 1) cs) e
  where
    go : (b : Bool) → is_allowed c ≡ b → (forbidden (at + 1) cs ≡ None → Allowed cs) → cond b (forbidden (at + 1) cs) (Some at) ≡ None → Allowed (c ∷ cs)
    go true h more e = (h, more e)
    go false h more e = absurd (never e)
      where
        never : ◌≡◌ {A = Option ℕ} (Some at) None → ⊥
        never e = cc

allowed_take : (n : ℕ) (cs : List ℕ) → Allowed cs → Allowed (take n cs)
allowed_take zero cs h = tt
allowed_take (suc n) [] h = tt
allowed_take (suc n) (c ∷ cs) h = (h.0, allowed_take n cs h.1)

run_words : (cs : List ℕ) → Words (take (run is_word cs) cs)
run_words [] = tt
run_words (c ∷ cs) = go (is_word c) refl (run_words cs)
  where
    go : (b : Bool) → is_word c ≡ b → Words (take (run is_word cs) cs) → Words (take (cond b (suc (run is_word cs)) 0) (c ∷ cs))
    go true h more = (h, more)
    go false h more = tt

or_true : (a : Bool) → (a || true) ≡ true
or_true true = refl
or_true false = refl

equal_whole : (c : ℕ) (cs : List ℕ) → is_word c ≡ false → (c == 35) ≡ false → (takes_equal c && begins_with_equal cs) ≡ true → IsWhole (c ∷ take 1 cs)
unfolding piece_rest
equal_whole c [] word hash h = absurd (never (takes_equal c) h)
  where
    never : (a : Bool) → (a && false) ≡ true → ⊥
    never true e = cc
    never false e = cc
equal_whole c (d ∷ ds) word hash h = λ rest clear.
    ap (λ (b : Bool). cond b (run is_word (d ∷ rest)) (cond (c == 35) (run is_not_newline (d ∷ rest)) (cond (takes_equal c && (d == 61)) 1 0))) word
    ∙ ap (λ (b : Bool). cond b (run is_not_newline (d ∷ rest)) (cond (takes_equal c && (d == 61)) 1 0)) hash
    ∙ ap (λ (b : Bool). cond b 1 0) h

piece_whole : (c : ℕ) (cs : List ℕ) → not (is_blank c || (c == 35)) ≡ true → IsWhole (c ∷ take (piece_rest c cs) cs)
unfolding piece_rest
piece_whole c cs lexeme = go (is_word c) (c == 35) (takes_equal c && begins_with_equal cs) refl refl refl
  where
    never : false ≡ true → ⊥
    never e = cc

    go : (a h q : Bool) → is_word c ≡ a → (c == 35) ≡ h → (takes_equal c && begins_with_equal cs) ≡ q → IsWhole (c ∷ take (cond a (run is_word cs) (cond h (run is_not_newline cs) (cond q 1 0))) cs)
    go true h q ea eh eq = word-whole (c ∷ take (run is_word cs) cs) (ea, run_words cs)
    go false true q ea eh eq = absurd (never (sym (ap (λ (b : Bool). not (is_blank c || b)) eh ∙ ap not (or_true (is_blank c))) ∙ lexeme))
    go false false true ea eh eq = equal_whole c cs ea eh eq
    go false false false ea eh eq = comparing-whole c ea eh

abbrev pub AllValid : List Token → Type 0
AllValid [] = Unit {0}
AllValid (t ∷ ts) = IsValid t × AllValid ts

same_ok : (ts us : List Token) → ◌≡◌ {A = Lexed} (Ok ts) (Ok us) → ts ≡ us
same_ok ts us e = cc

err_ok : (f : SyntaxError) (us : List Token) → ◌≡◌ {A = Lexed} (Err f) (Ok us) → ⊥
err_ok f us e = cc

-- one piece more
one_valid : (at line c : ℕ) (cs : List ℕ) (ts : List Token) (rest : Lexed) → Allowed (c ∷ cs) → ((us : List Token) → rest ≡ Ok us → AllValid us)
    → with_piece (record { bytes = c ∷ take (piece_rest c cs) cs; at = at; line = line }) rest ≡ Ok ts → AllValid ts
unfolding with_piece
one_valid at line c cs ts rest h of_rest e = go (not (is_blank c || (c == 35))) refl e
  where
    of_token : (j : Kind) → IsToken j (c ∷ take (piece_rest c cs) cs) → (l : Lexed) → rest ≡ l → with_token (token_from (record { bytes = c ∷ take (piece_rest c cs) cs; at = at; line = line }) j) l ≡ Ok ts → AllValid ts
    of_token j t (Ok us) g e = subst AllValid (same_ok (token_from (record { bytes = c ∷ take (piece_rest c cs) cs; at = at; line = line }) j ∷ us) ts e) ((t, refl), of_rest us g)
    of_token j t (Err f) g e = absurd (err_ok f ts e)

    of_form : (not (is_blank c || (c == 35)) ≡ true) → (f : Result Kind SyntaxKind) → form_of (c ∷ take (piece_rest c cs) cs) ≡ f → with_form (record { bytes = c ∷ take (piece_rest c cs) cs; at = at; line = line }) f rest ≡ Ok ts → AllValid ts
    of_form l (Ok j) g e = of_token j (l, (g, (piece_whole c cs l, (h.0, allowed_take (piece_rest c cs) cs h.1)))) rest refl e
    of_form l (Err f) g e = absurd (err_ok _ ts e)

    go : (b : Bool) → not (is_blank c || (c == 35)) ≡ b → cond b (with_form (record { bytes = c ∷ take (piece_rest c cs) cs; at = at; line = line }) (form_of (c ∷ take (piece_rest c cs) cs)) rest) rest ≡ Ok ts → AllValid ts
    go true l e = of_form l (form_of (c ∷ take (piece_rest c cs) cs)) refl e
    go false l e = of_rest ts e

valid_tokens : (skip at line : ℕ) (cs : List ℕ) (ts : List Token) → Allowed cs → lexed (pieces skip at line cs) ≡ Ok ts → AllValid ts
unfolding pieces lexed
valid_tokens skip at line [] ts h e = subst AllValid (same_ok [] ts e) tt
valid_tokens (suc skip) at line (c ∷ cs) ts h e = valid_tokens skip (at + 1) (line_after c line) cs ts h.1 e
valid_tokens zero at line (c ∷ cs) ts h e =
    one_valid at line c cs ts (lexed (pieces (piece_rest c cs) (at + 1) (line_after c line) cs)) h (λ us g. valid_tokens (piece_rest c cs) (at + 1) (line_after c line) cs us h.1 g) e

pub tokens_valid : (text : List ℕ) (ts : List Token) → text_tokens text ≡ Ok ts → AllValid ts
unfolding text_tokens
tokens_valid text ts e = by_length (nat_lt longest_text (length text)) e
  where
    by_bytes : (o : Option ℕ) → forbidden 0 text ≡ o → of_allowed o text ≡ Ok ts → AllValid ts
    by_bytes (Some at) h e = absurd (err_ok _ ts e)
    by_bytes None h e = valid_tokens 0 0 1 text ts (allowed_from 0 text h) e

    by_length : (b : Bool) → cond b (Err (record { kind = TooLong; at = longest_text })) (of_allowed (forbidden 0 text) text) ≡ Ok ts → AllValid ts
    by_length true e = absurd (err_ok _ ts e)
    by_length false e = by_bytes (forbidden 0 text) refl e

pub sound_from : (most : ℕ) (ms : List Marked) → AllValid (tokens_of ms) → Shallow most ms → Sound most ms
sound_from most [] v s = tt
sound_from most (m ∷ ms) v s = ((s.0, v.0), sound_from most ms v.1 s.1)

pub sound_tokens : (most : ℕ) (ms : List Marked) (ts : List Token) → tokens_of ms ≡ ts → AllValid ts → Shallow most ms → Sound most ms
sound_tokens most ms ts e v s = sound_from most ms (subst AllValid (sym e) v) s
