-- How many quotas the dummies before an allocation stand for.
use Rattle.std.specs.Prelude.{◌≡◌, ℕ, ◌+◌, ◌*◌, ◌<◌, ◌≤◌, Bool, true, false, nat_le, if◌then◌else◌, refl}
use Rattle.std.specs.Int.{div_ceil}
use Rattle.std.proofs.Common.{arith}
use Rattle.std.proofs.lemmas.Grind.{div_ceil_times}
use borrow.Author.Tests.{leb-true, leb-false}
use Rattle.depth_first_list.specs.Quotas.{dummies_of}

-- where the quota covers the words there are none
pub no_dummies : (words k : ℕ) → words ≤ k → dummies_of words k ≡ 0
no_dummies words k covered = go (nat_le words k) refl
  where
    go : (b : Bool) → nat_le words k ≡ b → (if b then 0 else div_ceil words k) ≡ 0
    go true is = refl
    go false is = let more : k < words = leb-false words k is in absurd (omega arith)

-- else they are the quotas that the words need, rounded up
pub rounded_up : (words k : ℕ) → k < words → dummies_of words k ≡ div_ceil words k
rounded_up words k large = go (nat_le words k) refl
  where
    go : (b : Bool) → nat_le words k ≡ b → (if b then 0 else div_ceil words k) ≡ div_ceil words k
    go true is = let few : words ≤ k = leb-true words k is in absurd (omega arith)
    go false is = refl

-- a large allocation has at most a quota of words for each of its dummies
pub dummies_cover : (words k : ℕ) → 0 < k → k < words → words ≤ k * dummies_of words k
dummies_cover words k some large =
    let times = div_ceil_times words k some in rw (rounded_up words k large) (omega (arith, times))

-- and one dummy less would not do
pub dummies_needed : (words k : ℕ) → 0 < k → k < words → k * dummies_of words k < words + k
dummies_needed words k some large =
    let times = div_ceil_times words k some in rw (rounded_up words k large) (omega (arith, times))
