-- A table that grows.
use Rattle.std.specs.Prelude.{◌≡◌, ℕ, ◌≤◌, List, length, slice_get, Some}
use Rattle.node_table.specs.Table.{Node}

-- nothing of a table is lost in a longer one
pub record Grown (t u : List Node) : Type 0 where
  pub keeps : (m : ℕ) (v : Node) → slice_get t m ≡ Some v → slice_get u m ≡ Some v
  pub longer : length t ≤ length u
