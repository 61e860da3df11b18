-- What a thread can reach: the integers and the blocks of a function's run.
use Rattle.std.specs.Prelude.{ℕ, ◌+◌, ◌*◌, Bool, if◌then◌else◌, List, [], ◌∷◌, ◌++◌, length, ℤ, pos}
use Rattle.std.specs.Int.{div_ceil}
use Rattle.std.specs.Str.{bytes_eq}
use Rattle.depth_first_list.specs.Passed.Constants.{PIECE_WORDS}
use Rattle.par_tree.specs.Tree.{Name}

-- a block that is held, under its name: its numbers
pub record Held : Type 0 where
  pub name : Name
  pub items : List ℤ

-- the integers by their names, and the blocks that are held
pub record Store : Type 0 where
  pub integers : Name → ℤ
  pub blocks : List Held

abbrev pub no_integers : Name → ℤ
no_integers x = pos 0

-- the store that has nothing
abbrev pub nothing : Store
nothing = record { integers = no_integers; blocks = [] }

-- the integer x is v from now on
abbrev pub updated : Name → ℤ → (Name → ℤ) → Name → ℤ
updated x v integers y = if bytes_eq x y then v else integers y

abbrev pub with_integer : Name → ℤ → Store → Store
with_integer x v s = record s { integers = updated x v s.integers }

-- the numbers of the block of a name; where none is held, of an empty one
abbrev pub block_of : List Held → Name → List ℤ
block_of [] b = []
block_of (h ∷ hs) b = if bytes_eq h.name b then h.items else block_of hs b

-- the other blocks
abbrev pub without : List Held → Name → List Held
without [] b = []
without (h ∷ hs) b = if bytes_eq h.name b then hs else h ∷ without hs b

-- these numbers are the block's from now on
abbrev pub replaced : List Held → Name → List ℤ → List Held
replaced [] b items = []
replaced (h ∷ hs) b items = if bytes_eq h.name b then record { name = h.name; items = items } ∷ hs else h ∷ replaced hs b items

-- one block more
abbrev pub with_block : List Held → Name → List ℤ → List Held
with_block hs b items = hs ++ record { name = b; items = items } ∷ []

-- a block is no longer held; is held from now on; has other numbers
abbrev pub drop_block : Name → Store → Store
drop_block b s = record s { blocks = without s.blocks b }

abbrev pub hold_block : Name → List ℤ → Store → Store
hold_block b items s = record s { blocks = with_block s.blocks b items }

abbrev pub write_block : Name → List ℤ → Store → Store
write_block b items s = record s { blocks = replaced s.blocks b items }

-- the blocks whose names pass, and the others
abbrev pub those_named : (Name → Bool) → List Held → List Held
those_named named [] = []
those_named named (h ∷ hs) = if named h.name then h ∷ those_named named hs else those_named named hs

abbrev pub those_not_named : (Name → Bool) → List Held → List Held
those_not_named named [] = []
those_not_named named (h ∷ hs) = if named h.name then those_not_named named hs else h ∷ those_not_named named hs

-- the words of a block of n numbers: whole pieces
unfoldable pub block_words : ℕ → ℕ
block_words n = PIECE_WORDS * div_ceil n PIECE_WORDS

-- the words of held blocks, and of the stores of open calls
abbrev pub held_words : List Held → ℕ
held_words [] = 0
held_words (h ∷ hs) = block_words (length h.items) + held_words hs

abbrev pub stored_words : List Store → ℕ
stored_words [] = 0
stored_words (s ∷ ss) = held_words s.blocks + stored_words ss
