-- Sums of a list of changes, as of the words in use.
use Rattle.std.specs.Prelude.{List, [], ◌∷◌, ℤ, pos, ◌+ℤ◌}
use Rattle.std.specs.Int.{int_max}

-- what they change together
abbrev pub total : List ℤ → ℤ
total [] = pos 0
total (change ∷ later) = change +ℤ total later

-- the high-water mark: the greatest sum of those of a prefix, which is at least the 0 of the empty one
abbrev pub high_water : List ℤ → ℤ
high_water [] = pos 0
high_water (change ∷ later) = int_max (pos 0) (change +ℤ high_water later)
