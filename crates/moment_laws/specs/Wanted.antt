-- What the rules of play want, as it comes.
use Rattle.std.specs.Prelude.{ℕ, ◌+◌, ◌<◌}
use Rattle.open_periods.specs.Passed.Actions.{Deed}
use Rattle.open_periods.specs.Passed.Books.{charge_at}
use Rattle.open_periods.specs.Passed.Moments.{Moment}
use Rattle.open_periods.specs.Passed.Machine.{Setting, does, suspends, May}
use Rattle.open_periods.specs.Passed.LawfulOrder.{IsLawful}
use Rattle.open_periods.specs.Passed.Play.{IsForced, Wants}
use Rattle.moment_shown.specs.Parts.{Parts}
use Rattle.moment_shown.specs.Standing.{Shows}
use Rattle.moment_shown.specs.Events.{Works, IsNextOf}

-- an action that may come is what the rules want of the worker, whatever the word
abbrev pub ComingIsWanted : Setting → Type 0
ComingIsWanted s = (m after : Moment) (worker word place : ℕ) → IsLawful s m → May s m worker (does place) after
    → Wants s m worker word (does place)

-- so is a wait
abbrev pub WaitIsWanted : Setting → Type 0
WaitIsWanted s = (m after : Moment) (worker word : ℕ) → May s m worker suspends after → Wants s m worker word suspends

-- Where the next action of a worker's top thread takes more of the quota than its period has left, as the parts show it, the worker has to
-- give its deque up.
abbrev pub GiveUpIsForced : Setting → Type 0
GiveUpIsForced s = (m : Moment) (parts : Parts) (worker place : ℕ) (deed : Deed) → IsLawful s m → Shows s.quota s.list parts m
    → (o : Works parts worker) → IsNextOf s.list o.top place deed → s.quota < o.period.used + charge_at s.quota s.list place
    → IsForced s m worker
