-- Which event an owner does, by what the looks of its call show.
use Rattle.std.specs.Prelude.{◌≡◌, ◌≢◌, ◌⊎◌, ℕ, ◌+◌, ◌<◌, ◌≤◌, true, false, List}
use Rattle.open_periods.specs.Passed.Actions.{Deed, joins}
use Rattle.deque_machine.specs.Lists.{Among, Each}
use Rattle.deque_machine.specs.Books.{charge_at}
use Rattle.deque_machine.specs.Machine.{Setting, Event, does, suspends, gives_up}
use Rattle.open_periods.specs.Periods.{Period}
use Rattle.moment_laws.specs.Passed.Parts.{Child, Thread, IsKept}
use Rattle.moment_laws.specs.Passed.MomentShownEvents.{IsNextOf}
use Rattle.hall_machine.specs.Values.{ListShown, of_list}
use Rattle.hall_machine.specs.Receipts.{Look, took}

-- the list that was seen is this one
abbrev pub SawList : List Look → ListShown → Type 0
SawList looks list = Among (took 0 (of_list list)) looks

-- the result of a child is there: it was handed over, or a list that was seen keeps it
abbrev pub HasResult : List Look → Child → Type 0
HasResult looks child = (child.delivered ≡ true) ⊎ ((list : ListShown) × SawList looks list × IsKept list.results child.id)

-- it is nowhere: it was not handed over, and a list that was seen does not keep it
abbrev pub HasNoResult : List Look → Child → Type 0
HasNoResult looks child =
    (child.delivered ≡ false) × (list : ListShown) × SawList looks list × Each (λ result. result.id ≢ child.id) list.results

-- `Decides s looks top period event`: by these looks this is the event of an owner in whose lane this thread is on top and this period
-- runs.
pub data Decides (s : Setting) (looks : List Look) (top : Thread) (period : Period) : Event → Type 0 where
  -- a give up, if the next action takes more of the quota than is left
  decides_give_up : (place : ℕ) (deed : Deed) → IsNextOf s.list top place deed → s.quota < period.used + charge_at s.quota s.list place
      → Decides s looks top period gives_up
  -- a wait, if it is the Join of a child whose result is nowhere
  decides_wait : (place : ℕ) (child : Child) → IsNextOf s.list top place (joins child.ordinal) → Among child top.children
      → HasNoResult looks child
      → Decides s looks top period suspends
  -- the Join, if the result is there
  decides_join : (place : ℕ) (child : Child) → IsNextOf s.list top place (joins child.ordinal) → Among child top.children
      → HasResult looks child
      → Decides s looks top period (does place)
  -- any other action that the quota covers
  decides_action : (place : ℕ) (deed : Deed) → IsNextOf s.list top place deed → ((child : ℕ) → deed ≢ joins child)
      → period.used + charge_at s.quota s.list place ≤ s.quota → Decides s looks top period (does place)
