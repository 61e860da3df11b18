-- What calls do that may fault.
use Rattle.std.specs.Prelude.{◌≡◌, List, [], ◌∷◌, ℤ, ℕ, Option, Some, None, Result, Ok, Err, slice_set}
use Rattle.dag_order.specs.declared.fault.FaultKind.{FaultKind}
use Rattle.dag_order.specs.declared.fault.FaultKind.TheVariants as faults
use Rattle.depth_first_run.specs.Passed.Tree.{Name}
use Rattle.depth_first_run.specs.Stores.{Store, block_of, write_block}
use Rattle.slot_store.specs.Rows.{Entry, items_at, with_blocks_at}
use Rattle.slot_store.specs.Agreement.{ShowsStore}

-- a number is written to a place of the block b, or the place is outside the block and nothing changes
abbrev pub Puts : List Name → (b : Name) → ℤ → Option ℕ → Store → Result (Unit {0}) FaultKind → List Entry → Type 0
Puts names b v (Some i) store result row =
    (result ≡ Ok tt) × ShowsStore names row (write_block b (slice_set (block_of store.blocks b) i v) store)
Puts names b v None store result row = (result ≡ Err faults.Index) × ShowsStore names row store

-- the same of the row, by the slot of the block
abbrev pub PutsAt : (s : ℕ) → ℤ → Option ℕ → (before : List Entry) → Result (Unit {0}) FaultKind → (after : List Entry) → Type 0
PutsAt s v (Some i) before result after = (result ≡ Ok tt) × (after ≡ with_blocks_at before s (slice_set (items_at before s) i v ∷ []))
PutsAt s v None before result after = (result ≡ Err faults.Index) × (after ≡ before)
