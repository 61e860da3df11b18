-- What a way of a thread, step by step, changes and what it leaves.
use Rattle.std.specs.Prelude.{◌≡◌, ℕ, zero, suc, ◌≤◌, List, length}
use Rattle.thread_state.specs.Passed.Table.{Table}
use Rattle.thread_state.specs.Passed.Rows.{Entry, blocks_at, row_words}
use Rattle.flat_statements.specs.Threads.{Standing}
use Rattle.flat_statements.specs.Follows.{Steps, stays, onward}

-- how many steps there are from one standing to another
abbrev pub how_many : {t : Table} {s u : Standing} → Steps t s u → ℕ
how_many stays = zero
how_many (onward v first rest) = suc (how_many rest)

-- no slot of a row has two blocks
abbrev pub HasSingleBlocks : List Entry → Type 0
HasSingleBlocks row = (s : ℕ) → length (blocks_at row s) ≤ 1

-- a row has as many slots as another and as many words in its blocks, and no slot of it has two blocks
pub record RowStays (before after : List Entry) : Type 0 where
  pub long : length after ≡ length before
  pub words : row_words after ≡ row_words before
  pub single : HasSingleBlocks after
