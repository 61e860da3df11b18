-- Counts of the faults of a stream.
use Rattle.std.specs.Prelude.{◌≡◌, ℕ, ◌+◌, min}

-- one more, of a count that goes no further than 2 ^ 64 - 1
abbrev pub raised : ℕ → ℕ
raised count = min (count + 1) 18446744073709551615

-- one fault was counted; a count that stands at 2 ^ 64 - 1 goes no further
abbrev pub Rose : ℕ → ℕ → Type 0
Rose before after = after ≡ raised before
