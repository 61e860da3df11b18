-- The rows of slots that a thread has, the innermost call first, and the stores that they show.
use Rattle.std.specs.Prelude.{◌≡◌, ℕ, ◌+◌, Bool, true, false, List, [], ◌∷◌, map, reverse}
use Rattle.depth_first_run.specs.Passed.Tree.{Name}
use Rattle.depth_first_run.specs.Stores.{Store, nothing}
use Rattle.slot_store.specs.Rows.{Entry, row_words}
use Rattle.slot_store.specs.Shown.{slots_shown}
use Rattle.slot_store.specs.Agreement.{ShowsStore}
use Rattle.slot_store.specs.declared.slots.Slots.{Slots}

-- the rows of the callers, which are pushed when they begin to wait
abbrev pub waiting_rows : List Slots → List (List Entry)
waiting_rows callers = reverse (map slots_shown callers)

-- the words of the blocks in some rows
abbrev pub all_words : List (List Entry) → ℕ
all_words [] = 0
all_words (row ∷ rows) = row_words row + all_words rows

-- rows show stores, each by the names of its slots
abbrev pub ShowStores : (contexts : List (List Name)) → List (List Entry) → List Store → Type 0
ShowStores [] [] [] = Unit {0}
ShowStores [] [] (store ∷ stores) = ⊥
ShowStores [] (row ∷ rows) stores = ⊥
ShowStores (names ∷ contexts) [] stores = ⊥
ShowStores (names ∷ contexts) (row ∷ rows) [] = ⊥
ShowStores (names ∷ contexts) (row ∷ rows) (store ∷ stores) = ShowsStore names row store × ShowStores contexts rows stores

-- What a thread holds is in its rows: what it can reach, and the stores of its callers. A thread that a fault ended has one row without
-- slots, and holds nothing.
abbrev pub Holds : (faulted : Bool) → (contexts : List (List Name)) → List (List Entry) → Store → List Store → Type 0
Holds false contexts rows store callers = ShowStores contexts rows (store ∷ callers)
Holds true contexts rows store callers = (rows ≡ [] ∷ []) × (store ≡ nothing) × (callers ≡ [])
