-- What must stand in the row of a thread before a block is cut or put together again.
use Rattle.std.specs.Prelude.{◌≡◌, ◌≢◌, ℕ, ◌+◌, ◌%◌, ◌<◌, ◌≤◌, List, length}
use Rattle.language_limits.specs.declared.TheConstants.{LONGEST_BLOCK, PIECE_WORDS}
use Rattle.slot_store.specs.Rows.{Entry, items_at, HasBlock, HasNone}

-- a block may be cut into two slots that have none
pub record CanCut (row : List Entry) (slot left right : ℕ) : Type 0 where
  pub within : slot < length row
  pub within_left : left < length row
  pub within_right : right < length row
  pub has : HasBlock row slot
  pub no_left : HasNone row left
  pub no_right : HasNone row right
  pub apart : left ≢ right

-- two parts may be put together in a slot that has none: the left one is whole pieces of 16, and both have no more numbers than a block may have
pub record CanRejoin (row : List Entry) (slot left right : ℕ) : Type 0 where
  pub within : slot < length row
  pub within_left : left < length row
  pub within_right : right < length row
  pub none : HasNone row slot
  pub has_left : HasBlock row left
  pub has_right : HasBlock row right
  pub apart : left ≢ right
  pub whole : length (items_at row left) % PIECE_WORDS ≡ 0
  pub short : length (items_at row left) + length (items_at row right) ≤ LONGEST_BLOCK
