-- Which slots an event of an owner needs besides its own lane.
use Rattle.std.specs.Prelude.{◌≡◌, ℕ, false, List, []}
use Rattle.open_periods.specs.Passed.Actions.{joins, dummy, ends, Action}
use Rattle.open_periods.specs.Passed.Facts.{deed_at}
use Rattle.deque_machine.specs.Lists.{Among}
use Rattle.deque_machine.specs.Machine.{Event, does, suspends, gives_up}
use Rattle.moment_laws.specs.Passed.Parts.{Child, Thread}

-- The list, of an owner in whose lane these threads are, the top one first: for a give up, a wait and a Dummy, for an End if the parent is
-- not in the same lane, and for the Join of a child whose result was not handed over.
pub data NeedsList (l : List Action) (top : Thread) (under : List Thread) : Event → Type 0 where
  for_give_up : NeedsList l top under gives_up
  for_wait : NeedsList l top under suspends
  for_dummy : (place : ℕ) → deed_at l place ≡ dummy → NeedsList l top under (does place)
  for_end : (place : ℕ) → deed_at l place ≡ ends → under ≡ [] → NeedsList l top under (does place)
  for_join : (place : ℕ) (child : Child) → deed_at l place ≡ joins child.ordinal → Among child top.children → child.delivered ≡ false
      → NeedsList l top under (does place)
