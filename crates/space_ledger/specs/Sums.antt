-- Sums of moves.
use Rattle.std.specs.Prelude.{◌≡◌, ℕ, List, map, take, ℤ, ◌≤ℤ◌}
use Rattle.dag_order.specs.Changes.{total, high_water}
use Rattle.space_ledger.specs.declared.moved.Moved.{Moved}

-- by how much a move changes the words in use
abbrev pub change_of : Moved → ℤ
change_of moved = moved.change

-- what the moves change together
abbrev pub total_change : List Moved → ℤ
total_change moves = total (map change_of moves)

-- the greatest sum that the changes have at any time: at least the 0 of the start
abbrev pub highest : List Moved → ℤ
highest moves = high_water (map change_of moves)

-- the greatest sum of a prefix
pub record IsHighest (moves : List Moved) (high : ℤ) : Type 0 where
  pub reached : (n : ℕ) × (high ≡ total_change (take n moves))
  pub never_above : (n : ℕ) → total_change (take n moves) ≤ℤ high
