-- What a caller may use of rows that show stores.
use Rattle.std.specs.Prelude.{◌≡◌, ℕ, ◌<◌, List, length}
use Rattle.depth_first_run.specs.Passed.Tree.{Name}
use Rattle.node_table.specs.Names.{name_at}
use Rattle.depth_first_run.specs.Stores.{Store, held_words}
use Rattle.slot_store.specs.Rows.{Entry, entry_at, row_words}
use Rattle.slot_store.specs.Agreement.{entry_of, ShowsStore}

-- a slot has just what the store has under its name: so it has a block exactly where the store holds one of this name
abbrev pub SlotsHaveWhatTheStoreHas : Type 0
SlotsHaveWhatTheStoreHas =
    (names : List Name) (row : List Entry) (store : Store) (s : ℕ) → ShowsStore names row store → s < length names
    → entry_at row s ≡ entry_of store (name_at names s)

-- a row shows each store that has the same under each name, in whatever order it holds its blocks
abbrev pub StoresThatAgreeAreShown : Type 0
StoresThatAgreeAreShown =
    (names : List Name) (row : List Entry) (store other : Store) → ShowsStore names row store
    → ((x : Name) → entry_of other x ≡ entry_of store x) → ShowsStore names row other

-- a row has a slot for each name
abbrev pub RowsAreAsLongAsNames : Type 0
RowsAreAsLongAsNames = (names : List Name) (row : List Entry) (store : Store) → ShowsStore names row store → length row ≡ length names

-- the words of the blocks in slots are those of the blocks that the store holds
abbrev pub WordsAreThoseOfTheStore : Type 0
WordsAreThoseOfTheStore =
    (names : List Name) (row : List Entry) (store : Store) → ShowsStore names row store → row_words row ≡ held_words store.blocks
