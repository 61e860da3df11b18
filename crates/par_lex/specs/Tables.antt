-- A table of words, as the list that it shows.
use Rattle.std.specs.Prelude.{ℕ, List, map}
use denote.Ref.{Bor}
use Rattle.par_text.specs.declared.kind.Kind.{Kind}

abbrev pub entry_shown : Bor (List ℕ) × Kind → List ℕ × Kind
entry_shown entry = (entry.0.now, entry.1)

abbrev pub table_shown : List (Bor (List ℕ) × Kind) → List (List ℕ × Kind)
table_shown table = map entry_shown table
