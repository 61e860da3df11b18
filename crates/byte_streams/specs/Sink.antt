-- What a sink takes.
use Rattle.std.specs.Prelude.{◌≡◌, ℕ, List, ◌++◌, Option, Some, None}

-- what a sink that tells what it took has taken in between: these bytes, behind what it had; it tells nothing new
-- that it did not tell before
abbrev pub Takes : Option (List ℕ) → Option (List ℕ) → List ℕ → Type 0
Takes before None bytes = Unit {0}
Takes None (Some after) bytes = ⊥
Takes (Some before) (Some after) bytes = after ≡ before ++ bytes
