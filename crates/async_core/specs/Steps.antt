-- What a step of a worker makes of a ready list.
use Rattle.std.specs.Prelude.{ℕ, Option, None, Some, List, [], ◌∷◌, ◌++◌, pos, Result, Ok, Err}
use Rattle.depth_first_run.specs.States.{Setting}
use Rattle.depth_first_run.specs.Run.{list_of}
use Rattle.deque_machine.specs.Moments.{Moment}
use Rattle.deque_machine.specs.Machine as machine
use Rattle.deque_machine.specs.Play as play
use Rattle.deque_machine.specs.Play.{Meets}
use Rattle.deque_machine.specs.Runs.{Pair}
use Rattle.deque_machine.specs.Terms.{Terms, machine_of}
use Rattle.node_table.specs.Table.{Table}
use Rattle.scheduler_state.specs.Passed.Tables.{periods_of}
use Rattle.play_rules.specs.declared.ends.RunEnd.{RunEnd}
use Rattle.play_rules.specs.declared.stop.Stop.{Stop}
use Rattle.play_rules.specs.declared.stop.Stop.TheVariants.{ArenaFull, DequesFull, StepsSpent, OutOfMemory}
use Rattle.scheduler_state.specs.declared.event.Event.{Event}
use Rattle.scheduler_state.specs.Held.{Held}
use Rattle.scheduler_state.specs.Moments.{HasRun}
use Rattle.scheduler_state.specs.Outcomes.{Tells}
use Rattle.scheduler_state.specs.Ends.{KeepsEnd}
use Rattle.scheduler_state.specs.Passed.Settings.{IsSettingOf}
use Rattle.ready_machine.specs.Entries.{IsReadyList}
use Rattle.ready_machine.specs.ReadyMachine.{MayReady}
use Rattle.ready_machine.specs.ReadyPlay.{WantsReady}
use Rattle.async_core.specs.Running.{IsAtMoment}

-- At a moment the rules of the ready list want an event of the worker, and nothing stops it; it is what the answer tells. With it the list
-- comes to the next moment, where what is held stands, with the event's move if it is one.
pub record Went (c : Setting) (terms : Terms) (after : Held) (worker : ℕ) (run : List Pair) (m : Moment) (told : Event) : Type 0 where
  pub event : machine.Event
  pub next : Moment
  pub wants : WantsReady (machine_of c terms) m worker event
  pub free : (stop : play.Stop) → ¬ Meets (machine_of c terms) terms.limits m event stop
  pub may : MayReady (machine_of c terms) m worker event next
  pub stands : HasRun c terms after (run ++ record { worker = worker; event = event } ∷ []) next
  pub tells : Tells (list_of c) (periods_of after.table) m worker event told

-- the same for a run: now what is held is at the moment of the run with this event more, and if the root has ended with it the finish is kept
pub record GoesOn (t : Table) (k : ℕ) (terms : Terms) (after : Held) (end : Option RunEnd) (c : Setting) (worker : ℕ)
    (run : List Pair) (m : Moment) (told : Event) : Type 0 where
  pub event : machine.Event
  pub next : Moment
  pub wants : WantsReady (machine_of c terms) m worker event
  pub free : (stop : play.Stop) → ¬ Meets (machine_of c terms) terms.limits m event stop
  pub may : MayReady (machine_of c terms) m worker event next
  pub tells : Tells (list_of c) (periods_of after.table) m worker event told
  pub is_at : IsAtMoment t k terms after end c (run ++ record { worker = worker; event = event } ∷ []) next
  pub keeps_end : KeepsEnd c terms end next

-- the event that they want meets this stop, and what is held is at the same moment
pub record HasMet (c : Setting) (terms : Terms) (after : Held) (worker : ℕ) (run : List Pair) (m : Moment) (stop : play.Stop) : Type 0 where
  pub event : machine.Event
  pub wants : WantsReady (machine_of c terms) m worker event
  pub meets : Meets (machine_of c terms) terms.limits m event stop
  pub stands : HasRun c terms after run m

-- what stops an event: its words do not fit, no further action is allowed, or memory is wanting; a place in the list is never wanting
abbrev pub MeetsBy : Setting → Terms → Held → (worker : ℕ) → List Pair → Moment → Stop → Type 0
MeetsBy c terms after worker run m (ArenaFull live asked) = ∥ HasMet c terms after worker run m (play.arena_full (pos live) asked) ∥₁
MeetsBy c terms after worker run m (DequesFull deques) = ⊥
MeetsBy c terms after worker run m (StepsSpent limit) = ∥ HasMet c terms after worker run m (play.steps_spent limit) ∥₁
MeetsBy c terms after worker run m OutOfMemory = HasRun c terms after run m

-- the same for a run
pub record Stops (t : Table) (k : ℕ) (terms : Terms) (after : Held) (end : Option RunEnd) (c : Setting) (worker : ℕ)
    (run : List Pair) (m : Moment) (stop : play.Stop) : Type 0 where
  pub event : machine.Event
  pub wants : WantsReady (machine_of c terms) m worker event
  pub meets : Meets (machine_of c terms) terms.limits m event stop
  pub is_at : IsAtMoment t k terms after end c run m

abbrev pub StopsBy : Table → (k : ℕ) → Terms → (after : Held) → (end : Option RunEnd) → Setting → (worker : ℕ) → List Pair → Moment → Stop
    → Type 0
StopsBy t k terms after end c worker run m (ArenaFull live asked) =
    ∥ Stops t k terms after end c worker run m (play.arena_full (pos live) asked) ∥₁
StopsBy t k terms after end c worker run m (DequesFull deques) = ⊥
StopsBy t k terms after end c worker run m (StepsSpent limit) = ∥ Stops t k terms after end c worker run m (play.steps_spent limit) ∥₁
StopsBy t k terms after end c worker run m OutOfMemory = IsAtMoment t k terms after end c run m

-- What the event of a worker comes to, at each moment at which it may begin: the event, or a stop, and then what is held is at the same
-- moment.
abbrev pub EventBy : Setting → Terms → Held → (worker : ℕ) → List Pair → Moment → Result Event Stop → Type 0
EventBy c terms after worker run m (Ok told) = ∥ Went c terms after worker run m told ∥₁
EventBy c terms after worker run m (Err stop) = MeetsBy c terms after worker run m stop

-- the same, or nothing
abbrev pub EventOrNone : Setting → Terms → Held → (worker : ℕ) → List Pair → Moment → Result (Option Event) Stop → Type 0
EventOrNone c terms after worker run m (Ok None) = HasRun c terms after run m
EventOrNone c terms after worker run m (Ok (Some told)) = EventBy c terms after worker run m (Ok told)
EventOrNone c terms after worker run m (Err stop) = EventBy c terms after worker run m (Err stop)

-- whichever program it is that the table is of, what is held is at some lawful ready list
abbrev pub StandsReady : Table → ℕ → Terms → Held → Type 0
StandsReady t k terms h = (c : Setting) → IsSettingOf t k c
    → ∥ ((run : List Pair) × (m : Moment) × HasRun c terms h run m × IsReadyList (machine_of c terms) m) ∥₁

-- what a step comes to that was begun at a moment of a run, while no end was kept
abbrev pub Comes : Table → (k : ℕ) → Terms → (after : Held) → (end : Option RunEnd) → Setting → (worker : ℕ) → List Pair → Moment
    → Result (Option Event) Stop → Type 0
Comes t k terms after end c worker run m (Ok None) = IsAtMoment t k terms after end c run m
Comes t k terms after end c worker run m (Ok (Some told)) = ∥ GoesOn t k terms after end c worker run m told ∥₁
Comes t k terms after end c worker run m (Err stop) = StopsBy t k terms after end c worker run m stop
