-- A program is whole where no token is left.
use Rattle.std.proofs.Common.{◌≡◌, ℕ, ◌<◌, List, [], ◌∷◌, length, Ok, Err, refl, ap, arith}
use Rattle.par_tree.specs.Tree.{Program}
use Rattle.par_text.specs.declared.stop.Stop.TheVariants.{Expected}
use Rattle.par_text.specs.Parsing.{whole}
use Rattle.par_lex.specs.declared.lexeme.Lexeme.{Lexeme}
use Rattle.par_lex.specs.Words.{words}
use Rattle.par_parse.proofs.Loops.{length-words}

pub whole-empty : (p : Program) (text : List ℕ) (rest : List Lexeme) → length rest ≡ 0 → whole (p, words text rest) ≡ Ok p
unfolding words
whole-empty p text [] e = refl
whole-empty p text (t ∷ rest) e = absurd (omega arith)

pub whole-rest : (p : Program) (text : List ℕ) (rest : List Lexeme) → 0 < length rest → whole (p, words text rest) ≡ Err (Expected, length rest)
unfolding words
whole-rest p text [] lt = absurd (omega arith)
whole-rest p text (t ∷ rest) lt = ap (λ (n : ℕ). Err (Expected, n)) (length-words text (t ∷ rest))
