-- What a pool shows after words went out.
use Rattle.std.proofs.Common.{◌≡◌, ℕ, ◌+◌, max, refl}
use Rattle.block_arena.specs.Region.{Region, region_of, with_taken}

pub shown-taken : (region : Region) (capacity live high asked raised words : ℕ) → region_of capacity live high ≡ region →
    asked ≡ words → raised ≡ max high (live + asked) →
    region_of capacity (live + asked) raised ≡ with_taken region words
shown-taken region capacity live high asked raised words shown same greater =
    rw (← shown, greater, same) refl
