-- Which numbers of leaves a tree may have.
use Rattle.std.specs.Prelude.{ℕ, ◌≤◌}
use Rattle.language_limits.specs.declared.TheConstants.{MOST_LEAVES}

abbrev pub IsTreeSize : ℕ → Type 0
IsTreeSize n = (1 ≤ n) × (n ≤ MOST_LEAVES)
