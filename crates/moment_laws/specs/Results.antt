-- What is known at the End of a thread: who waits for its result, and how the root ends.
use Rattle.std.specs.Prelude.{◌≡◌, ℕ, false, List, [], ◌∷◌}
use Rattle.open_periods.specs.Passed.Births.{root}
use Rattle.open_periods.specs.Passed.LabelOrder.{fork_of}
use Rattle.open_periods.specs.Passed.Actions.{ends}
use Rattle.open_periods.specs.Passed.Lists.{Among, Each}
use Rattle.open_periods.specs.Passed.Moments.{Moment}
use Rattle.open_periods.specs.Passed.Machine.{Setting, Event, does, HasEnded, May}
use Rattle.open_periods.specs.Passed.LawfulOrder.{IsLawful}
use Rattle.open_periods.specs.Passed.DequeMachineRuns.{place_of}
use Rattle.moment_shown.specs.Parts.{Child, Thread, Parts, IsKept}
use Rattle.moment_shown.specs.Standing.{Shows}
use Rattle.moment_shown.specs.Events.{Does, Works, IsNextOf}

-- an action comes only where the root has not ended, since behind its End all is done
abbrev pub RootEndsOnce : Setting → Type 0
RootEndsOnce s = (m after : Moment) (worker place : ℕ) → IsLawful s m → May s m worker (does place) after → ¬ HasEnded s m []

-- so the action behind which it has ended is its End, with which its result is kept
abbrev pub RootLeavesItsResult : Setting → Type 0
RootLeavesItsResult s = (m after : Moment) (parts next : Parts) (worker place : ℕ) → IsLawful s m → Shows s.quota s.list parts m
    → Does s.quota s.list parts worker place next → May s m worker (does place) after → HasEnded s after [] → IsKept next.results root

-- with an event that is no action no thread ends
abbrev pub OthersEndNothing : Setting → Type 0
OthersEndNothing s = (m after : Moment) (worker : ℕ) (event : Event) (label : List ℕ) → May s m worker event after → place_of event ≡ []
    → HasEnded s after label → HasEnded s m label

-- The open child is the one of this thread: it has its id, its place among the Forks and its function, and its result was not handed over.
pub record IsChildOf (parent top : Thread) (child : Child) : Type 0 where
  pub waits : child.delivered ≡ false
  pub labelled : top.label ≡ fork_of parent.label child.ordinal
  pub func : top.func ≡ child.func

-- Where the top thread of a worker's deque is before its End, and another stands directly below, this has it as an open child, whose result
-- was not handed over.
abbrev pub ParentsAwait : Setting → Type 0
ParentsAwait s = (m : Moment) (parts : Parts) (worker place : ℕ) (o : Works parts worker) (parent : Thread) (below : List Thread) → IsLawful s m
    → Shows s.quota s.list parts m → IsNextOf s.list o.top place ends → o.under ≡ parent ∷ below
    → ((child : Child) × Among child parent.children × (child.id ≡ o.top.id))
    × Each (λ child. child.id ≡ o.top.id → IsChildOf parent o.top child) parent.children
