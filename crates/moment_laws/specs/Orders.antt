-- The order of the waiting threads and of the results is of no account.
use Rattle.std.specs.Prelude.{◌≡◌, ℕ, List}
use Rattle.std.specs.List.Sorted.{IsPermutation}
use Rattle.open_periods.specs.Passed.Actions.{Action}
use Rattle.open_periods.specs.Passed.Moments.{Moment}
use Rattle.moment_shown.specs.Parts.{Thread, Result, Parts}
use Rattle.moment_shown.specs.Standing.{Shows}

-- parts that keep them in another order show the same moment
abbrev pub OrderIsOfNoAccount : ℕ → List Action → Type 0
OrderIsOfNoAccount k l = (parts : Parts) (m : Moment) (waiting : List Thread) (results : List Result) → Shows k l parts m
    → IsPermutation parts.waiting waiting → IsPermutation parts.results results
    → Shows k l (record parts { waiting = waiting; results = results }) m

-- the same parts but for that order
pub record AreSame (before after : Parts) : Type 0 where
  pub deques : after.deques ≡ before.deques
  pub waiting : IsPermutation before.waiting after.waiting
  pub results : IsPermutation before.results after.results
  pub periods : after.periods ≡ before.periods
