-- What a step comes to.
use Rattle.std.specs.Prelude.{ℕ, Option, None, Some, List, [], ◌∷◌, ◌++◌, pos, Result, Ok, Err}
use Rattle.depth_first_run.specs.States.{Setting}
use Rattle.open_periods.specs.Passed.Moments.{Moment}
use Rattle.open_periods.specs.Passed.Machine as machine
use Rattle.open_periods.specs.Passed.Machine.{May}
use Rattle.open_periods.specs.Passed.Play as play
use Rattle.open_periods.specs.Passed.Play.{Wants, Meets}
use Rattle.open_periods.specs.Passed.DequeMachineRuns.{Pair}
use Rattle.node_table.specs.Table.{Table}
use Rattle.open_periods.specs.Tables.{periods_of}
use Rattle.depth_first_run.specs.Run.{list_of}
use Rattle.scheduler_state.specs.declared.event.Event.{Event}
use Rattle.play_rules.specs.declared.stop.Stop.{Stop}
use Rattle.play_rules.specs.declared.stop.Stop.TheVariants.{ArenaFull, DequesFull, StepsSpent, OutOfMemory}
use Rattle.scheduler_state.specs.Held.{Held}
use Rattle.open_periods.specs.Passed.Terms.{Terms, machine_of}
use Rattle.scheduler_state.specs.Outcomes.{Tells, HasDequesLeft}
use Rattle.play_rules.specs.declared.ends.RunEnd.{RunEnd}
use Rattle.scheduler_state.specs.Ends.{KeepsEnd}
use Rattle.dfd_core.specs.Running.{IsAtMoment}

-- At the moment m of a run the rules of play want an event of the worker, with a word for the choice of its victim, and nothing stops it;
-- it is what the answer tells, and now what is held stands at the moment of the run with this event more. Where the root has ended with it
-- the finish is kept.
pub record GoesOn (t : Table) (k : ℕ) (terms : Terms) (after : Held) (end : Option RunEnd) (c : Setting) (worker word : ℕ)
    (run : List Pair) (m : Moment) (told : Event) : Type 0 where
  pub event : machine.Event
  pub next : Moment
  pub wants : Wants (machine_of c terms) m worker word event
  pub free : (stop : play.Stop) → ¬ Meets (machine_of c terms) terms.limits m event stop
  pub may : May (machine_of c terms) m worker event next
  pub tells : Tells (list_of c) (periods_of after.table) m worker event told
  pub is_at : IsAtMoment t k terms after end c (run ++ record { worker = worker; event = event } ∷ []) next
  pub keeps_end : KeepsEnd c terms end next

-- The event that they want meets this stop, and what is held stands where it stood.
pub record Stops (t : Table) (k : ℕ) (terms : Terms) (after : Held) (end : Option RunEnd) (c : Setting) (worker word : ℕ)
    (run : List Pair) (m : Moment) (stop : play.Stop) : Type 0 where
  pub event : machine.Event
  pub wants : Wants (machine_of c terms) m worker word event
  pub meets : Meets (machine_of c terms) terms.limits m event stop
  pub is_at : IsAtMoment t k terms after end c run m

-- where memory is wanting, all stands where it stood, and the limit of deques is not what stops the step
abbrev pub StopsBy : Table → (k : ℕ) → Terms → (after : Held) → (end : Option RunEnd) → Setting → (worker word : ℕ) → List Pair → Moment
    → Stop → Type 0
StopsBy t k terms after end c worker word run m (ArenaFull live asked) =
    ∥ Stops t k terms after end c worker word run m (play.arena_full (pos live) asked) ∥₁
StopsBy t k terms after end c worker word run m (DequesFull deques) =
    ∥ Stops t k terms after end c worker word run m (play.deques_full deques) ∥₁
StopsBy t k terms after end c worker word run m (StepsSpent limit) =
    ∥ Stops t k terms after end c worker word run m (play.steps_spent limit) ∥₁
StopsBy t k terms after end c worker word run m OutOfMemory =
    IsAtMoment t k terms after end c run m × HasDequesLeft c terms worker word m

-- what a step comes to that was begun at a moment of a run, while no end was kept: an event, nothing, or a stop
abbrev pub Comes : Table → (k : ℕ) → Terms → (after : Held) → (end : Option RunEnd) → Setting → (worker word : ℕ) → List Pair → Moment
    → Result (Option Event) Stop → Type 0
Comes t k terms after end c worker word run m (Ok None) = IsAtMoment t k terms after end c run m
Comes t k terms after end c worker word run m (Ok (Some told)) = ∥ GoesOn t k terms after end c worker word run m told ∥₁
Comes t k terms after end c worker word run m (Err stop) = StopsBy t k terms after end c worker word run m stop
