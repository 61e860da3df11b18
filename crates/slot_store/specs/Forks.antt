-- What a forked child takes of a row, and what a Join brings back.
use Rattle.std.specs.Prelude.{◌≡◌, ℕ, ◌+◌, ◌≤◌, Bool, false, ◌||◌, if◌then◌else◌, nat_eq, List, [], ◌∷◌, ◌++◌, length, ℤ}
use Rattle.slot_store.specs.Rows.{Entry, entry_at, integer_at, blocks_at}

-- the slot is in the list
abbrev pub is_in : ℕ → List ℕ → Bool
is_in s [] = false
is_in s (t ∷ ts) = nat_eq t s || is_in s ts

-- a child has copies of the integers, and the blocks of these slots; its parent keeps the other blocks
abbrev pub child_entry : List Entry → List ℕ → ℕ → Entry
child_entry row slots s = record { integer = integer_at row s; blocks = if is_in s slots then blocks_at row s else [] }

abbrev pub kept_entry : List Entry → List ℕ → ℕ → Entry
kept_entry row slots s = record { integer = integer_at row s; blocks = if is_in s slots then [] else blocks_at row s }

-- of a row, the child has the one and the parent keeps the other
pub record Parts (slots : List ℕ) (row child kept : List Entry) : Type 0 where
  pub child_count : length child ≡ length row
  pub kept_count : length kept ≡ length row
  pub child_has : (s : ℕ) → entry_at child s ≡ child_entry row slots s
  pub parent_has : (s : ℕ) → entry_at kept s ≡ kept_entry row slots s

-- the child's integers of these slots, with the row's own blocks
abbrev pub with_integers_of : List Entry → List Entry → List ℕ → ℕ → Entry
with_integers_of own child slots s = record {
  integer = if is_in s slots then integer_at child s else integer_at own s;
  blocks = blocks_at own s;
}

-- the row's own integers, with all blocks of both
abbrev pub joined_blocks : List Entry → List Entry → ℕ → Entry
joined_blocks own child s = record { integer = integer_at own s; blocks = blocks_at own s ++ blocks_at child s }

-- no slot has a block in both rows
abbrev pub AreApart : (own child : List Entry) → Type 0
AreApart own child = (s : ℕ) → length (blocks_at own s) + length (blocks_at child s) ≤ 1

-- a block that comes to a slot, where there is one; else the slot keeps its own
abbrev pub or_own : List (List ℤ) → List (List ℤ) → List (List ℤ)
or_own [] own = own
or_own (items ∷ rest) own = items ∷ rest
