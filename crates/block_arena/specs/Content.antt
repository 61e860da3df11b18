-- What contracts see of a `Block`, and how blocks are cut and joined.
use Rattle.std.specs.Prelude.{◌≡◌, ℕ, ◌+◌, ◌*◌, ◌%◌, ◌^◌, ◌<◌, ◌≤◌, List, ◌++◌, length, take, drop, replicate, ℤ, pos}
use Rattle.language_limits.specs.declared.TheConstants.{PIECE_WORDS}
use Rattle.block_arena.specs.declared.size.TheConstants.{MOST_PIECES}
use Rattle.block_arena.specs.Size.{pieces_for}

-- the numbers of a block, and for how many pieces its list has room
pub record Content : Type 0 where
  pub items : List ℤ
  pub room : ℕ

-- a new block of `words` words
abbrev pub zeros : ℕ → ℕ → Content
zeros words room = record { items = replicate words (pos 0); room = room }

-- the block before place `at`, which keeps the room of the whole
abbrev pub left_of : Content → ℕ → Content
left_of block at = record { items = take at block.items; room = block.room }

-- the block from place `at` on, in a list with room of its own
abbrev pub right_of : Content → ℕ → ℕ → Content
right_of block at room = record { items = drop at block.items; room = room }

-- one block after another, in the list of the first
abbrev pub joined : Content → Content → Content
joined left right = record { items = left.items ++ right.items; room = left.room }

-- a block can be cut at this place: between two pieces, or at its end
pub record IsCut (block : Content) (at : ℕ) : Type 0 where
  pub between : at % PIECE_WORDS ≡ 0
  pub within : at ≤ length block.items

-- The left block has no piece in part and room for the pieces of both, and both together are no more
-- than a block has.
pub record CanJoin (left right : Content) : Type 0 where
  pub whole : length left.items % PIECE_WORDS ≡ 0
  pub room : pieces_for (length left.items) + pieces_for (length right.items) ≤ left.room
  pub fits : pieces_for (length left.items) + pieces_for (length right.items) ≤ MOST_PIECES

-- What every block keeps: it has just the pieces that its length needs.
pub record HoldsPieces (pieces room len : ℕ) : Type 0 where
  pub exact : pieces ≡ pieces_for len
  pub greatest : pieces ≤ MOST_PIECES
  pub room_fits : room < 2 ^ 32
