-- What a text comes to, by its lexemes and by the loops that were read.
use Rattle.std.proofs.Common.{◌≡◌, ℕ, List, [], ◌∷◌, length, map, Result, Ok, Err, refl, sym, ap, ◌∙◌, subst}
use Rattle.par_text.specs.Lexing.{Lexed, text_tokens}
use Rattle.par_lex.specs.declared.lexeme.Lexeme.{Lexeme}
use Rattle.par_lex.specs.Words.{words}
use Rattle.loop_expand.specs.declared.expand_fail.ExpandFail.{ExpandFail}
use Rattle.loop_expand.specs.declared.expand_fail.ExpandFail.TheVariants.{Refused, BadLoop, NameTaken, OutOfMemory}
use Rattle.loop_expand.specs.Loops.{Loop, AreLoops}
use Rattle.loop_expand.specs.Expansion.{IsTaken, FirstAt, Nowhere, IsBad, expansion, TokensExpand, lexeme_of, LexedExpand, Expands}
use Rattle.loop_expand.specs.Reading.{loops_of}
use Rattle.loop_expand.specs.Found.{FailsAt}
use Rattle.loop_expand.specs.Answers.{FailsSo}
use Rattle.loop_expand.proofs.WholeLoops.{Reads, reads}

-- the lexemes of the tokens that they stand for
pub lexemes-words : (text : List ℕ) (ls : List Lexeme) → map lexeme_of (words text ls) ≡ ls
unfolding words
lexemes-words text [] = refl
lexemes-words text (l ∷ ls) = ap (λ (ms : List Lexeme). l ∷ ms) (lexemes-words text ls)

-- what the lexemes of a text come to is what the text comes to
pub by_lexemes : (text : List ℕ) (ls : List Lexeme) (answer : Result (List ℕ) ExpandFail) → text_tokens text ≡ Ok (words text ls) → TokensExpand text ls answer → Expands text answer
by_lexemes text ls answer tokens here =
    subst (λ (l : Lexed). LexedExpand text l answer) (sym tokens) (subst (λ (ms : List Lexeme). TokensExpand text ms answer) (sym (lexemes-words text ls)) here)

pub are_loops : (ts : List Lexeme) (ls : List Loop) → loops_of ts ≡ Ok ls → AreLoops ts ls
are_loops ts ls is = subst (λ (r : Result (List Loop) ℕ). Reads ts r) is (reads ts)

pub first_bad : (ts : List Lexeme) (at : ℕ) → loops_of ts ≡ Err at → FirstAt IsBad ts at
first_bad ts at is = subst (λ (r : Result (List Loop) ℕ). Reads ts r) is (reads ts)

-- the search for loops failed
pub loops_fail : (text : List ℕ) (ls ts : List Lexeme) (e : ExpandFail) → text_tokens text ≡ Ok (words text ls) → ts ≡ ls → FailsAt e (loops_of ts) → FailsSo e text
loops_fail text ls ts (BadLoop at) tokens same is = by_lexemes text ls (Err (BadLoop at)) tokens (first_bad ls at (ap loops_of (sym same) ∙ is))
loops_fail text ls ts OutOfMemory tokens same is = tt
loops_fail text ls ts (Refused e) tokens same is = absurd is
loops_fail text ls ts (NameTaken at) tokens same is = absurd is

-- a name is taken
pub name_fails : (text : List ℕ) (ls ts us : List Lexeme) (loops : List Loop) (count at : ℕ) → text_tokens text ≡ Ok (words text ls) → ts ≡ ls → us ≡ ls → loops_of ts ≡ Ok loops
    → count ≡ length loops → FirstAt (IsTaken text count) us at → Expands text (Err (NameTaken at))
name_fails text ls ts us loops count at tokens same again is long here =
    by_lexemes text ls (Err (NameTaken at)) tokens (
      loops,
      are_loops ls loops (ap loops_of (sym same) ∙ is),
      subst (λ (vs : List Lexeme). FirstAt (IsTaken text (length loops)) vs at) again (subst (λ (n : ℕ). FirstAt (IsTaken text n) us at) long here),
    )

-- there is an expansion
pub expands : (text : List ℕ) (ls ts us : List Lexeme) (loops written : List Loop) (count : ℕ) (bytes : List ℕ) → text_tokens text ≡ Ok (words text ls) → ts ≡ ls → us ≡ ls
    → loops_of ts ≡ Ok loops → count ≡ length loops → Nowhere (IsTaken text count) us → written ≡ loops → bytes ≡ expansion text written → Expands text (Ok bytes)
expands text ls ts us loops written count bytes tokens same again is long here same_loops wrote =
    by_lexemes text ls (Ok bytes) tokens (
      loops,
      are_loops ls loops (ap loops_of (sym same) ∙ is),
      subst (λ (vs : List Lexeme). Nowhere (IsTaken text (length loops)) vs) again (subst (λ (n : ℕ). Nowhere (IsTaken text n) us) long here),
      wrote ∙ ap (λ (ms : List Loop). expansion text ms) same_loops,
    )
