-- What holds of canonical texts, beyond that they are texts.
use Rattle.std.specs.Prelude.{◌≡◌, ℕ, List, ◌++◌, codes}
use Rattle.par_tree.specs.Tree.{Program}
use Rattle.par_text.specs.Judging.{IsText}
use Rattle.canonical_text.specs.Canonical.{canonical}
use Rattle.canonical_text.specs.Lines.{SameButForLines}

-- What is left of the canonical text of p without a `(` and a `)` that stands behind it, wherever they stand, is no text of the
-- same program but for lines.
abbrev pub ParenthesesAreNeeded : Type 0
ParenthesesAreNeeded =
    (p q : Program) (before inside behind : List ℕ) → canonical p ≡ before ++ codes "(" ++ inside ++ codes ")" ++ behind
    → IsText (before ++ inside ++ behind) q → SameButForLines q p → ⊥
