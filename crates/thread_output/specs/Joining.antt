-- Lines and later lines.
use Rattle.std.specs.Prelude.{◌≡◌, ◌<◌, ◌+◌, List, ◌++◌, length, ℤ, Option, Some, None}
use Rattle.language_limits.specs.declared.TheConstants.{GREATEST_COUNT}
use Rattle.dag_order.specs.declared.fault.FaultAt.{FaultAt}

-- the lines of the earlier items, and where they have no fault those of the later ones after them
abbrev pub lines_before : Option FaultAt → (earlier later : List ℤ) → List ℤ
lines_before (Some fault) earlier later = earlier
lines_before None earlier later = earlier ++ later

-- lines that are kept, with later lines after them; all are lost where either are, or where they are more than `GREATEST_COUNT` together
abbrev pub IsJoined : (lines later all : Option (List ℤ)) → Type 0
IsJoined (Some lines) (Some later) (Some all) = all ≡ lines ++ later
IsJoined (Some lines) (Some later) None = GREATEST_COUNT < length lines + length later
IsJoined (Some lines) None (Some all) = ⊥
IsJoined (Some lines) None None = Unit {0}
IsJoined None later (Some all) = ⊥
IsJoined None later None = Unit {0}
