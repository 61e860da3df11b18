-- What it comes to that a worker gives its deque up.
use Rattle.std.specs.Prelude.{ℕ, Option, List, [], ◌∷◌, ◌++◌, Result, Ok, Err}
use Rattle.depth_first_run.specs.States.{Setting}
use Rattle.deque_list.specs.declared.deque_id.DequeId.{DequeId}
use Rattle.open_periods.specs.Passed.Moments.{Moment}
use Rattle.open_periods.specs.Passed.Machine.{May, gives_up}
use Rattle.open_periods.specs.Passed.DequeMachineRuns.{Pair}
use Rattle.open_periods.specs.Tables.{periods_of}
use Rattle.depth_first_run.specs.Run.{list_of}
use Rattle.scheduler_state.specs.declared.event.Event.TheVariants as events
use Rattle.scheduler_state.specs.Held.{Held}
use Rattle.open_periods.specs.Passed.Terms.{Terms, machine_of}
use Rattle.scheduler_state.specs.Outcomes.{Tells}
use Rattle.node_table.specs.Table.{Table}
use Rattle.play_rules.specs.declared.ends.RunEnd.{RunEnd}
use Rattle.scheduler_state.specs.Ends.{end_without_memory}
use Rattle.dfd_core.specs.Running.{IsAtMoment}

-- At the moment m of a run the worker gives up this deque, which the machine allows at any time, and now what is held stands at the moment
-- of the run with this event more. The end that is kept stays.
pub record GaveUp (t : Table) (k : ℕ) (terms : Terms) (after : Held) (end : Option RunEnd) (c : Setting) (worker : ℕ) (run : List Pair)
    (m : Moment) (id : DequeId) : Type 0 where
  pub next : Moment
  pub may : May (machine_of c terms) m worker gives_up next
  pub tells : Tells (list_of c) (periods_of after.table) m worker gives_up (events.GaveUp id)
  pub is_at : IsAtMoment t k terms after end c (run ++ record { worker = worker; event = gives_up } ∷ []) next

-- what a give up comes to that was begun at a moment of a run: the event, or where memory is wanting, all stands where it stood
abbrev pub GivesUp : {E : Type 0} → Table → (k : ℕ) → Terms → (after : Held) → (end : Option RunEnd) → Setting → (worker : ℕ) → List Pair
    → Moment → Result DequeId E → Type 0
GivesUp t k terms after end c worker run m (Ok id) = ∥ GaveUp t k terms after end c worker run m id ∥₁
GivesUp t k terms after end c worker run m (Err none) = IsAtMoment t k terms after end c run m

-- the end that is kept behind a give up
abbrev pub end_behind_give_up : {E : Type 0} → Result DequeId E → Option RunEnd → Option RunEnd
end_behind_give_up (Ok id) end = end
end_behind_give_up (Err none) end = end_without_memory end
