-- A row of slots as plain data, whatever memory holds it.
use Rattle.std.specs.Prelude.{◌≡◌, ℕ, ◌+◌, List, [], ◌∷◌, length, get_or, set, ℤ, pos}
use Rattle.depth_first_run.specs.Stores.{block_words}

-- What a slot has: an integer, and the numbers of its block. A slot has one block at most.
pub record Entry : Type 0 where
  pub integer : ℤ
  pub blocks : List (List ℤ)

-- a slot that nothing was put in
abbrev pub blank : Entry
blank = record { integer = pos 0; blocks = [] }

-- what the slot s has
abbrev pub entry_at : List Entry → ℕ → Entry
entry_at row s = get_or row s blank

abbrev pub integer_at : List Entry → ℕ → ℤ
integer_at row s = Entry.integer (entry_at row s)

abbrev pub blocks_at : List Entry → ℕ → List (List ℤ)
blocks_at row s = Entry.blocks (entry_at row s)

-- the numbers of the block; where there is none, of an empty one
abbrev pub first_of : List (List ℤ) → List ℤ
first_of [] = []
first_of (items ∷ rest) = items

abbrev pub items_at : List Entry → ℕ → List ℤ
items_at row s = first_of (blocks_at row s)

-- the slot s has another integer from now on; has another block, or none
abbrev pub with_integer_at : List Entry → ℕ → ℤ → List Entry
with_integer_at row s v = set row s (record (entry_at row s) { integer = v })

abbrev pub with_blocks_at : List Entry → ℕ → List (List ℤ) → List Entry
with_blocks_at row s blocks = set row s (record (entry_at row s) { blocks = blocks })

-- a slot with the same integer and no block
abbrev pub without_block : Entry → Entry
without_block e = record e { blocks = [] }

-- the slot has a block; has none
abbrev pub HasBlock : List Entry → ℕ → Type 0
HasBlock row s = length (blocks_at row s) ≡ 1

abbrev pub HasNone : List Entry → ℕ → Type 0
HasNone row s = blocks_at row s ≡ []

-- the words of the blocks of a slot, and of all slots
abbrev pub words_of : List (List ℤ) → ℕ
words_of [] = 0
words_of (items ∷ rest) = block_words (length items) + words_of rest

abbrev pub row_words : List Entry → ℕ
row_words [] = 0
row_words (e ∷ row) = words_of e.blocks + row_words row
