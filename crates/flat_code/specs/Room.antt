-- How many slots there can be.
use Rattle.std.specs.Prelude.{ℕ}

-- the numbers of slots, which have 16 bits
abbrev pub most_slots : ℕ
most_slots = 65536
