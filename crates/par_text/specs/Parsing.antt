-- Reading by the grammar.
use Rattle.std.specs.Prelude.{ℕ, zero, suc, List, [], ◌∷◌, length, Result, Ok, Err}
use Rattle.par_tree.specs.Tree.{Program}
use Rattle.par_text.specs.declared.stop.Stop.{Stop}
use Rattle.par_text.specs.declared.stop.Stop.TheVariants.{Expected, TooDeep}
use Rattle.par_text.specs.Rule.{Token, Nonterminal, TreeOf, Rule}
use Rattle.par_text.specs.Reading.{Answer, Reader, read_by}
use Rattle.par_text.specs.Grammar.{rule, program_rule}

-- a nonterminal behind a bracket or a sign, where n constructs may open outside it
unfoldable pub read_inner : ℕ → (s : Nonterminal) → Reader (TreeOf s)
read_inner zero s ts = Err (TooDeep, length ts)
read_inner (suc n) s ts = read_by n (read_inner n) (rule s) ts

-- by a rule, where n constructs may open
abbrev pub read : {X : Type 0} → ℕ → Rule X → Reader X
read n r ts = read_by n (read_inner n) r ts

abbrev pub whole : Program × List Token → Result Program (Stop × ℕ)
whole (p, []) = Ok p
whole (p, t ∷ ts) = Err (Expected, length (t ∷ ts))

abbrev pub ended : Answer Program → Result Program (Stop × ℕ)
ended (Ok x) = whole x
ended (Err e) = Err e

-- a program that takes all tokens
unfoldable pub read_program : ℕ → List Token → Result Program (Stop × ℕ)
read_program n ts = ended (read n program_rule ts)
