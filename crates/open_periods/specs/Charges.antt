-- What an allocation does to a period.
use Rattle.std.specs.Prelude.{ℕ, ◌+◌, ◌<◌, ◌≤◌}
use Rattle.open_periods.specs.declared.charge.Charge.{Charge}
use Rattle.open_periods.specs.declared.charge.Charge.TheVariants.{Fits, Ends, Large}

-- after `used` words an allocation of `words` words fits what is left of a quota of k words, or fits a whole
-- quota alone and ends the period, or is above the quota
abbrev pub IsCharge : ℕ → ℕ → ℕ → Charge → Type 0
IsCharge used words k Fits = (words ≤ k) × (used + words ≤ k)
IsCharge used words k Ends = (words ≤ k) × (k < used + words)
IsCharge used words k Large = k < words
