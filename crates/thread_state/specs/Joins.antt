-- What a Join needs, and what it gives back.
use Rattle.std.specs.Prelude.{◌≡◌, ℕ, ◌+◌, ◌≤◌, Bool, true, false, List, length, map}
use Rattle.node_table.specs.Reading.{FitsSlots}
use Rattle.slot_store.specs.Rows.{Entry, blocks_at, row_words}
use Rattle.slot_store.specs.Shown.{slots_shown}
use Rattle.thread_state.specs.Rows.{all_words}
use Rattle.thread_state.specs.States.{words_held}
use Rattle.thread_state.specs.declared.state.ThreadState.{ThreadState}
use Rattle.thread_state.specs.declared.released_rows.ReleasedRows.{ReleasedRows}

-- the words that a Join gives back
abbrev pub words_by : (faulted child_faulted : Bool) → (own childs : ℕ) → ℕ
words_by true child_faulted own childs = childs
words_by false true own childs = own
words_by false false own childs = 0

abbrev pub released : (own child : ThreadState) → ℕ
released own child = words_by own.faulted child.faulted (words_held own) (words_held child)

-- the words of the blocks in rows that come out of a thread
abbrev pub words_released : ReleasedRows → ℕ
words_released rows = row_words (slots_shown rows.slots) + all_words (map slots_shown rows.callers.items)

-- a child's row can be taken in: it has as many slots, and under no slot both have a block
pub record CanTakeIn (own child : List Entry) (assigned : List ℕ) : Type 0 where
  pub count : length child ≡ length own
  pub within : FitsSlots (length own) assigned
  pub apart : (s : ℕ) → length (blocks_at own s) + length (blocks_at child s) ≤ 1
