-- The slots of lanes come after those of the list and of the pool.
use Rattle.std.proofs.Common.{◌≡◌, ℕ, suc, ◌+◌, min, arith}

pub slot_is : (n : ℕ) → n + 2 ≡ suc (suc n)
slot_is n = omega arith

pub lane_kind : (n : ℕ) → 2 ≡ min (suc (suc n)) 2
lane_kind n = omega arith
