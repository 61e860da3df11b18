-- What a step of a worker needs, and what it comes to.
use Rattle.std.specs.Prelude.{◌<◌, ℕ, List, Result, Ok, Err}
use Rattle.language_limits.specs.declared.TheConstants.{GREATEST_COUNT}
use Rattle.deque_list.specs.declared.deque_id.DequeId.{DequeId}
use Rattle.depth_first_run.specs.States.{Setting}
use Rattle.open_periods.specs.Passed.Moments.{Moment}
use Rattle.open_periods.specs.Passed.DequeMachineRuns.{Pair}
use Rattle.node_table.specs.Table.{Table}
use Rattle.scheduler_state.specs.Passed.Settings.{IsSettingOf}
use Rattle.thread_frames.specs.Actions.{IsOfTheList, JoinsNewest}
use Rattle.thread_frames.specs.Views.{children_of}
use Rattle.thread_frames.specs.declared.next.Next.{Next}
use Rattle.thread_frames.specs.declared.thread.Thread.{Thread}
use Rattle.list_changes.specs.Shown.{Stands}
use Rattle.scheduler_state.specs.declared.event.Event.{Event}
use Rattle.play_rules.specs.declared.stop.Stop.{Stop}
use Rattle.scheduler_state.specs.declared.scheduler.Scheduler.{Scheduler}
use Rattle.scheduler_state.specs.Held.{Held, held, held_under}
use Rattle.scheduler_state.specs.Moments.{IsSound, CanGoOn, HasRun, terms_of}
use Rattle.open_periods.specs.Passed.Terms.{Terms}
use Rattle.scheduler_state.specs.Outcomes.{StepsTo, GivesDequeUp}
use Rattle.worker_step.specs.Keeping.{KeepsRoom}
use Rattle.worker_step.specs.Memory.{CanAct}

-- A thread that was taken from the top of a worker's deque is before its next action, and with it on top all is sound and can go on.
pub record IsBeforeAction (t : Table) (k limit : ℕ) (s : Scheduler) (worker : ℕ) (id : DequeId) (top : Thread) (next : Next) : Type 0 where
  pub can : CanAct s worker id top next
  pub limited : limit < GREATEST_COUNT
  pub sound : (items : List Thread) (stands : Stands s.list worker id items) → IsSound t k (terms_of s limit) (held_under s stands top)
  pub points : (items : List Thread) (stands : Stands s.list worker id items) → CanGoOn t k (held_under s stands top)
  pub of_the_list : (c : Setting) → IsSettingOf t k c → ∥ IsOfTheList c top next ∥₁
  pub newest : JoinsNewest next (children_of top)

-- Of what was held a step of the worker has made what is held after: it is sound and can go on; and whatever the program, at whatever
-- moment it began, with whatever word, it comes to this.
pub record Comes (t : Table) (k limit worker : ℕ) (before : Held) (earlier after : Scheduler) (result : Result Event Stop) : Type 0 where
  pub sound : IsSound t k (terms_of after limit) (held after)
  pub points : CanGoOn t k (held after)
  pub steps : (c : Setting) → IsSettingOf t k c → (run : List Pair) (m : Moment) (word : ℕ) → HasRun c (terms_of after limit) before run m
      → StepsTo c (terms_of after limit) (held after) worker word run m result
  pub keeps : KeepsRoom earlier after

-- the same where the top thread was taken out before
abbrev pub ComesUnder : Table → (k limit worker : ℕ) → DequeId → Thread → (before after : Scheduler) → Result Event Stop → Type 0
ComesUnder t k limit worker id top before after result =
    (items : List Thread) (stands : Stands before.list worker id items)
    → Comes t k limit worker (held_under before stands top) before after result

-- What it comes to that a worker gives its deque up, at each moment of a run at which it may begin; where memory is wanting, all stands
-- where it stood.
abbrev pub GivesUpOrStays : {E : Type 0} → Setting → Terms → (after : Held) → (worker : ℕ) → List Pair → Moment → Result DequeId E → Type 0
GivesUpOrStays c terms after worker run m (Ok id) = ∥ GivesDequeUp c terms after worker run m id ∥₁
GivesUpOrStays c terms after worker run m (Err none) = HasRun c terms after run m
