-- Counting from token to token, and the places of tokens.
use Rattle.std.proofs.Common.{◌≡◌, ℕ, zero, suc, ◌+◌, ◌<◌, ◌≤◌, Bool, true, false, cond, List, [], ◌∷◌, length, get_or, Option, Some, None, refl, sym, ap, ◌∙◌, arith}
use Rattle.std.specs.Prelude.{◌||◌, nat_lt}
use Rattle.std.proofs.lemmas.Bool.{ltb-false}
use Rattle.std.proofs.lemmas.List.{get_or_default}
use Rattle.par_text.specs.Rule.{Token}
use Rattle.par_text.specs.Counts.{Before, after, is_too_many, crowded_from, most_functions, most_names}
use Rattle.par_text.specs.Judging.{place_of}
use Rattle.par_lex.specs.declared.lexeme.Lexeme.{Lexeme}
use Rattle.par_lex.specs.Words.{word_of, words}

pub words-cons : (text : List ℕ) (rest : List Lexeme) (l : Lexeme) (ls : List Lexeme) → rest ≡ l ∷ ls → words text rest ≡ word_of text l ∷ words text ls
unfolding words
words-cons text rest l ls e = ap (λ (xs : List Lexeme). words text xs) e

pub words-end : (text : List ℕ) (rest : List Lexeme) → length rest ≡ 0 → words text rest ≡ []
unfolding words
words-end text [] e = refl
words-end text (l ∷ ls) e = absurd (omega arith)

step : (i : ℕ) (b c : Before) (t : Token) (rest ts : List Token) (many : Bool) → rest ≡ t ∷ ts → c ≡ after b t.kind → is_too_many c ≡ many → crowded_from i b rest ≡ cond many (Some i) (crowded_from (i + 1) c ts)
unfolding crowded_from
step i b c t rest ts many split next count =
    ap (λ (us : List Token). crowded_from i b us) split
    ∙ ap (λ (d : Before). cond (is_too_many d) (Some i) (crowded_from (i + 1) d ts)) (sym next)
    ∙ ap (λ (e : Bool). cond e (Some i) (crowded_from (i + 1) c ts)) count

pub crowded-here : (i : ℕ) (b c : Before) (t : Token) (rest ts : List Token) (total : Option ℕ) → rest ≡ t ∷ ts → c ≡ after b t.kind → is_too_many c ≡ true → crowded_from i b rest ≡ total → Some i ≡ total
crowded-here i b c t rest ts total split next count so_far = sym (step i b c t rest ts true split next count) ∙ so_far

pub crowded-later : (i : ℕ) (b c : Before) (t : Token) (rest ts : List Token) (total : Option ℕ) → rest ≡ t ∷ ts → c ≡ after b t.kind → is_too_many c ≡ false → crowded_from i b rest ≡ total → crowded_from (i + 1) c ts ≡ total
crowded-later i b c t rest ts total split next count so_far = sym (step i b c t rest ts false split next count) ∙ so_far

pub crowded-end : (i : ℕ) (b : Before) (rest : List Token) (total : Option ℕ) → rest ≡ [] → crowded_from i b rest ≡ total → None ≡ total
unfolding crowded_from
crowded-end i b rest total none so_far = ap (λ (us : List Token). crowded_from i b us) (sym none) ∙ so_far

neither : (a b : Bool) → (a || b) ≡ false → (a ≡ false) × (b ≡ false)
neither true b e = cc
neither false b e = (refl, e)

pub allows_more : (b : Before) → is_too_many b ≡ false → (b.functions ≤ most_functions) × (b.names ≤ most_names)
allows_more b e =
    let (f, n) = neither (nat_lt most_functions b.functions) (nat_lt most_names b.names) e in
    (ltb-false most_functions b.functions f, ltb-false most_names b.names n)

pub place-in : (text : List ℕ) (ls : List Lexeme) (i : ℕ) (l : Lexeme) (end : ℕ) → i < length ls → l ≡ get_or ls i l → l.at ≡ place_of (words text ls) i end
unfolding words
place-in text [] i l end lt e = absurd (omega arith)
place-in text (m ∷ ls) zero l end lt e = ap (λ (x : Lexeme). x.at) e
place-in text (m ∷ ls) (suc i) l end lt e = place-in text ls i l end (omega arith) e

pub place-past : (text : List ℕ) (ls : List Lexeme) (i end : ℕ) → length ls ≤ i → end ≡ place_of (words text ls) i end
unfolding words
place-past text [] i end le = refl
place-past text (m ∷ ls) zero end le = absurd (omega arith)
place-past text (m ∷ ls) (suc i) end le = place-past text ls i end (omega arith)

pub place-at : (text : List ℕ) (ls : List Lexeme) (i : ℕ) (d : Lexeme) (end : ℕ) → i < length ls → (get_or ls i d).at ≡ place_of (words text ls) i end
place-at text ls i d end lt = place-in text ls i (get_or ls i d) end lt (get_or_default ls i d (get_or ls i d) lt)
