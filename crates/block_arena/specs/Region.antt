-- What contracts see of a `Pool`, and how it changes.
use Rattle.std.specs.Prelude.{◌≡◌, ℕ, ◌+◌, ◌-◌, ◌*◌, ◌%◌, ◌<◌, ◌≤◌, max}
use Rattle.language_limits.specs.declared.TheConstants.{PIECE_WORDS}
use Rattle.block_arena.specs.declared.size.TheConstants.{MOST_COUNTED}

-- the words of a pool, those of them that are out in blocks, and the most that ever were out at once
pub record Region : Type 0 where
  pub capacity : ℕ
  pub live : ℕ
  pub high : ℕ

-- these numbers as a region
abbrev pub region_of : ℕ → ℕ → ℕ → Region
region_of capacity live high = record { capacity = capacity; live = live; high = high }

-- a pool can have this many words: whole pieces, at least one
pub record IsWhole (words : ℕ) : Type 0 where
  pub pieces : words % PIECE_WORDS ≡ 0
  pub some : 0 < words

-- a pool of `words` words that are all in it, as they ever were
abbrev pub fresh_region : ℕ → Region
fresh_region words = region_of words 0 0

-- `words` words go out into a block
abbrev pub with_taken : Region → ℕ → Region
with_taken region words =
    region_of region.capacity (region.live + words) (max region.high (region.live + words))

-- `words` words come back from a block
abbrev pub with_given : Region → ℕ → Region
with_given region words = region_of region.capacity (region.live - words) region.high

-- What holds of every pool: it has whole pieces and whole pieces are out, the mark is as high as what is out,
-- no more is out than the pool has, and it has no more than are counted.
pub record IsSound (region : Region) : Type 0 where
  pub whole : region.capacity % PIECE_WORDS ≡ 0
  pub whole_live : region.live % PIECE_WORDS ≡ 0
  pub raised : region.live ≤ region.high
  pub within : region.high ≤ region.capacity
  pub greatest : region.capacity ≤ MOST_COUNTED

-- What every pool keeps, of the `free` pieces that lie in it and the `room` of its list of them: each piece
-- that it was made with is free or out, and there is room for all of them.
pub record KeepsPieces (free room : ℕ) (region : Region) : Type 0 where
  pub each_piece : PIECE_WORDS * free + region.live ≡ region.capacity
  pub room_for_all : region.capacity ≤ PIECE_WORDS * room
  pub sound : IsSound region
