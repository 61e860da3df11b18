-- The row that a value of the Rust type is.
use Rattle.std.specs.Prelude.{List, [], ◌∷◌, map, ℤ, Option, Some, None}
use denote.Bor.{Bor}
use Rattle.block_arena.specs.Content.{Content}
use Rattle.slot_store.specs.Rows.{Entry}
use Rattle.slot_store.specs.declared.slot.Slot.{Slot}
use Rattle.slot_store.specs.declared.slots.Slots.{Slots}

abbrev pub blocks_shown : Option Content → List (List ℤ)
blocks_shown None = []
blocks_shown (Some block) = block.items ∷ []

abbrev pub slot_shown : Slot → Entry
slot_shown s = record { integer = s.integer; blocks = blocks_shown s.block }

abbrev pub row_shown : List Slot → List Entry
row_shown slots = map slot_shown slots

abbrev pub slots_shown : Slots → List Entry
slots_shown s = row_shown s.slots.items

-- a block that is looked at, or none
abbrev pub blocks_seen : Option (Bor Content) → List (List ℤ)
blocks_seen None = []
blocks_seen (Some block) = block.now.items ∷ []
