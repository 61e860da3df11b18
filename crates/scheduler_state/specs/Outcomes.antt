-- What a step of a worker comes to.
use Rattle.std.specs.Prelude.{◌≡◌, ℕ, suc, List, [], ◌∷◌, ◌++◌, length, pos, Result, Ok, Err}
use Rattle.dag_order.specs.declared.thread_id.ThreadId.{ThreadId}
use Rattle.dag_order.specs.declared.action_id.ActionId.{ActionId}
use Rattle.open_periods.specs.Passed.Actions.{Action}
use Rattle.thread_points.specs.Passed.States.{Setting}
use Rattle.deque_list.specs.declared.deque_id.DequeId.{DequeId}
use Rattle.open_periods.specs.Passed.Moments.{Moment}
use Rattle.open_periods.specs.Passed.Machine.{Owns, May}
use Rattle.open_periods.specs.Passed.Machine as machine
use Rattle.open_periods.specs.Passed.Play as play
use Rattle.open_periods.specs.Passed.Play.{Wants, Meets}
use Rattle.open_periods.specs.Passed.DequeMachineRuns.{Pair}
use Rattle.open_periods.specs.Periods.{Period}
use Rattle.open_periods.specs.Names.{HasLabel, IsNamed}
use Rattle.open_periods.specs.Tables.{periods_of}
use Rattle.thread_points.specs.Passed.Run.{list_of}
use Rattle.scheduler_state.specs.declared.event.Event.{Event}
use Rattle.scheduler_state.specs.declared.event.Event.TheVariants.{Stole, Acted, Suspended, GaveUp}
use Rattle.play_rules.specs.declared.stop.Stop.{Stop}
use Rattle.play_rules.specs.declared.stop.Stop.TheVariants.{ArenaFull, DequesFull, StepsSpent, OutOfMemory}
use Rattle.scheduler_state.specs.Held.{Held}
use Rattle.scheduler_state.specs.Moments.{HasRun}
use Rattle.open_periods.specs.Passed.Terms.{Terms, machine_of}

-- An answer tells an event of a worker at a moment: the deque and the number of the period of a theft, the name of an action by the births
-- of these periods, the id of the thread that waits, the deque that was given up.
pub data Tells (l : List Action) (periods : List Period) (m : Moment) (worker : ℕ) : machine.Event → Event → Type 0 where
  tells_theft : (place : ℕ) (id : DequeId) → Tells l periods m worker (machine.steals place id.0) (Stole id (suc (length m.books)))
  tells_action : (place : ℕ) (id : ActionId) → IsNamed l periods id place → Tells l periods m worker (machine.does place) (Acted id)
  tells_wait : (o : Owns m worker) (id : ThreadId) → HasLabel periods id o.top → Tells l periods m worker machine.suspends (Suspended id)
  tells_give_up : (o : Owns m worker) (id : DequeId) → o.id ≡ id.0 → Tells l periods m worker machine.gives_up (GaveUp id)

-- At the moment m of a run the rules of play want an event of the worker, with a word for the choice of its victim, and nothing stops it;
-- it is what the answer tells, and now all stands at the moment of the run with this event more.
pub record GoesOn (c : Setting) (terms : Terms) (after : Held) (worker word : ℕ) (run : List Pair) (m : Moment) (told : Event)
    : Type 0 where
  pub event : machine.Event
  pub next : Moment
  pub wants : Wants (machine_of c terms) m worker word event
  pub free : (stop : play.Stop) → ¬ Meets (machine_of c terms) terms.limits m event stop
  pub may : May (machine_of c terms) m worker event next
  pub stands : HasRun c terms after (run ++ record { worker = worker; event = event } ∷ []) next
  pub tells : Tells (list_of c) (periods_of after.table) m worker event told

-- At the moment m of a run the worker gives up this deque, which it may at any time, and now all stands at the moment of the run with
-- this event more.
pub record GivesDequeUp (c : Setting) (terms : Terms) (after : Held) (worker : ℕ) (run : List Pair) (m : Moment) (id : DequeId) : Type 0 where
  pub next : Moment
  pub may : May (machine_of c terms) m worker machine.gives_up next
  pub stands : HasRun c terms after (run ++ record { worker = worker; event = machine.gives_up } ∷ []) next
  pub tells : Tells (list_of c) (periods_of after.table) m worker machine.gives_up (GaveUp id)

-- The event that they want meets this stop, and all stands where it stood.
pub record Stops (c : Setting) (terms : Terms) (after : Held) (worker word : ℕ) (run : List Pair) (m : Moment) (stop : play.Stop)
    : Type 0 where
  pub event : machine.Event
  pub wants : Wants (machine_of c terms) m worker word event
  pub meets : Meets (machine_of c terms) terms.limits m event stop
  pub stands : HasRun c terms after run m

-- the limit of deques does not stop what the rules want of the worker
abbrev pub HasDequesLeft : Setting → Terms → (worker word : ℕ) → Moment → Type 0
HasDequesLeft c terms worker word m = (event : machine.Event) (deques : ℕ) → Wants (machine_of c terms) m worker word event
    → ¬ Meets (machine_of c terms) terms.limits m event (play.deques_full deques)

-- where memory is wanting, all stands where it stood, and the limit of deques is not what stops the step
abbrev pub StopsBy : Setting → Terms → Held → ℕ → ℕ → List Pair → Moment → Stop → Type 0
StopsBy c terms after worker word run m (ArenaFull live asked) =
    ∥ Stops c terms after worker word run m (play.arena_full (pos live) asked) ∥₁
StopsBy c terms after worker word run m (DequesFull deques) =
    ∥ Stops c terms after worker word run m (play.deques_full deques) ∥₁
StopsBy c terms after worker word run m (StepsSpent limit) =
    ∥ Stops c terms after worker word run m (play.steps_spent limit) ∥₁
StopsBy c terms after worker word run m OutOfMemory = HasRun c terms after run m × HasDequesLeft c terms worker word m

-- what a step comes to, at each moment of a run at which it may begin
abbrev pub StepsTo : Setting → Terms → Held → ℕ → ℕ → List Pair → Moment → Result Event Stop → Type 0
StepsTo c terms after worker word run m (Ok told) = ∥ GoesOn c terms after worker word run m told ∥₁
StepsTo c terms after worker word run m (Err stop) = StopsBy c terms after worker word run m stop
