-- What a tally is before anything was done, and after a period began or an action was done.
use Rattle.std.specs.Prelude.{◌≡◌, ℕ, ◌+◌, ◌<◌, Bool, true, false, cond, set, replicate, ℤ, pos, ◌+ℤ◌}
use Rattle.std.specs.Int.{int_max}
use Rattle.language_limits.specs.declared.TheConstants.{GREATEST_COUNT}
use Rattle.trail_check.specs.declared.tally.Tally.{Tally}

-- nothing was done of a list of so many actions
pub record IsBlank (places : ℕ) (tally : Tally) : Type 0 where
  pub done : tally.done.items ≡ replicate places false
  pub actions : tally.actions ≡ 0
  pub live : tally.live ≡ pos 0
  pub periods : tally.numbers.periods ≡ 0
  pub ahead : tally.numbers.ahead ≡ 0
  pub high : tally.numbers.high ≡ 0

-- one action more may be done, and one period more begun
abbrev pub IsFew : Tally → Type 0
IsFew tally = (tally.actions < GREATEST_COUNT) × (tally.numbers.periods < GREATEST_COUNT) × (tally.numbers.ahead < GREATEST_COUNT)

-- one period more has begun, which is marked ahead or not
pub record HasBegun (ahead : Bool) (before after : Tally) : Type 0 where
  pub done : after.done.items ≡ before.done.items
  pub actions : after.actions ≡ before.actions
  pub live : after.live ≡ before.live
  pub periods : after.numbers.periods ≡ before.numbers.periods + 1
  pub marked : after.numbers.ahead ≡ before.numbers.ahead + cond ahead 1 0
  pub high : after.numbers.high ≡ before.numbers.high

-- the action at a place was done, which raised the words in use by so many
pub record HasActed (place : ℕ) (change : ℤ) (before after : Tally) : Type 0 where
  pub done : after.done.items ≡ set before.done.items place true
  pub actions : after.actions ≡ before.actions + 1
  pub live : after.live ≡ before.live +ℤ change
  pub periods : after.numbers.periods ≡ before.numbers.periods
  pub ahead : after.numbers.ahead ≡ before.numbers.ahead
  pub high : pos after.numbers.high ≡ int_max (pos before.numbers.high) after.live
