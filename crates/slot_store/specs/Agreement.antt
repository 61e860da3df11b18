-- When a row of slots is a store of the depth-first run: under the name of each slot the store has just what the slot has.
use Rattle.std.specs.Prelude.{◌≡◌, ℕ, ◌<◌, false, if◌then◌else◌, List, [], ◌∷◌, length, map, ℤ}
use Rattle.std.specs.Str.{bytes_eq}
use Rattle.depth_first_run.specs.Passed.Tree.{Name}
use Rattle.depth_first_run.specs.Passed.Names.{is_among}
use Rattle.node_table.specs.Names.{name_at}
use Rattle.depth_first_run.specs.Stores.{Store, Held}
use Rattle.slot_store.specs.Rows.{Entry}

-- the blocks that are held under a name
abbrev pub blocks_under : List Held → Name → List (List ℤ)
blocks_under [] x = []
blocks_under (h ∷ hs) x = if bytes_eq h.name x then h.items ∷ blocks_under hs x else blocks_under hs x

-- what a store has under a name, and under the names of slots
abbrev pub entry_of : Store → Name → Entry
entry_of store x = record { integer = store.integers x; blocks = blocks_under store.blocks x }

abbrev pub row_of : List Name → Store → List Entry
row_of names store = map (entry_of store) names

-- slots of different numbers have different names
abbrev pub AreDistinct : List Name → Type 0
AreDistinct names = (i j : ℕ) → i < length names → j < length names → name_at names i ≡ name_at names j → i ≡ j

-- A row whose slots have these names is the store: each slot has the integer of its name, and as its block the one block of its name,
-- or none. And each block of the store is that of a slot.
pub record ShowsStore (names : List Name) (row : List Entry) (store : Store) : Type 0 where
  pub distinct : AreDistinct names
  pub slots : row ≡ row_of names store
  pub known : (x : Name) → is_among x names ≡ false → blocks_under store.blocks x ≡ []
