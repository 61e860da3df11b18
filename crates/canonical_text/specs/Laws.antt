-- What holds of canonical texts.
use Rattle.std.specs.Prelude.{◌≡◌, ℕ, ◌≤◌, List, length}
use Rattle.par_tree.specs.Tree.{Program}
use Rattle.par_text.specs.Lexing.{longest_text}
use Rattle.par_text.specs.Judging.{IsText}
use Rattle.canonical_text.specs.Canonical.{canonical}
use Rattle.canonical_text.specs.Lines.{SameButForLines}

-- The bytes are a text, and its tree is this one but for lines.
pub record IsTextButForLines (text : List ℕ) (p : Program) : Type 0 where
  pub tree : Program
  pub is_text : IsText text tree
  pub same : SameButForLines tree p

-- The canonical text does not depend on lines.
abbrev pub LinesDoNotMatter : Type 0
LinesDoNotMatter = (p q : Program) → SameButForLines p q → canonical p ≡ canonical q

-- The canonical text of a program that is the tree of a text is a text of the same program but for
-- lines, wherever it is not too long for a text.
abbrev pub CanonicalIsText : Type 0
CanonicalIsText = (text : List ℕ) (p : Program) → IsText text p → length (canonical p) ≤ longest_text → IsTextButForLines (canonical p) p

-- Whatever is read from a canonical text has that canonical text again, and is the same program but
-- for lines.
abbrev pub CanonicalStays : Type 0
CanonicalStays =
    (text : List ℕ) (p q : Program) → IsText text p → IsText (canonical p) q → SameButForLines q p × (canonical q ≡ canonical p)
