-- Which numbers are quotas, and how many dummies they ask for.
use Rattle.std.specs.Prelude.{◌≡◌, ℕ, ◌≤◌, ◌%◌, nat_le, if◌then◌else◌}
use Rattle.std.specs.Int.{div_ceil}
use Rattle.language_limits.specs.declared.TheConstants.{LEAST_QUOTA, GREATEST_QUOTA}

-- a multiple of 16 from 16 to 1,048,576
abbrev pub IsQuota : ℕ → Type 0
IsQuota k = (k % LEAST_QUOTA ≡ 0) × (LEAST_QUOTA ≤ k) × (k ≤ GREATEST_QUOTA)

-- how many dummies are run before an allocation: none where the quota covers it, else words / k, rounded up
abbrev pub dummies_of : ℕ → ℕ → ℕ
dummies_of words k = if nat_le words k then 0 else div_ceil words k
