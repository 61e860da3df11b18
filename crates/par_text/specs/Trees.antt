-- The programs that texts have.
use Rattle.std.specs.Prelude.{ℕ, List}
use Rattle.par_tree.specs.Tree.{Program}
use Rattle.par_text.specs.Judging.{IsText}

-- some bytes are a text, and p is its tree
abbrev pub IsTreeOfText : Program → Type 0
IsTreeOfText p = ∥ ((text : List ℕ) × IsText text p) ∥₁
