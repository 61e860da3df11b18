-- What a theft changes, and what the step of an idle worker comes to.
use Rattle.std.specs.Prelude.{◌≡◌, ◌≢◌, ◌⊎◌, ℕ, ◌+◌, ◌<◌, ◌≤◌, List, [], ◌∷◌, ◌++◌, length, slice_get, Option, Some, None, Result, Ok, Err}
use Rattle.deque_list.specs.declared.deque_id.DequeId.{DequeId}
use Rattle.deque_list.specs.Ids.{IsSmallestFree}
use Rattle.deque_list.specs.Deques.{Deque, deque_ids}
use Rattle.deque_list.specs.DequeLists.{ListView}
use Rattle.depth_first_run.specs.States.{Setting}
use Rattle.open_periods.specs.Passed.Moments.{Moment}
use Rattle.open_periods.specs.Passed.DequeMachineRuns.{Pair}
use Rattle.open_periods.specs.Passed.Lists.{Each}
use Rattle.thread_frames.specs.declared.thread.Thread.{Thread}
use Rattle.moment_shown.specs.Events.{Steals}
use Rattle.list_changes.specs.Shown.{deque_with}
use Rattle.list_changes.specs.Seats.{TakesSeat}
use Rattle.scheduler_state.specs.declared.event.Event.{Event}
use Rattle.scheduler_state.specs.declared.event.Event.TheVariants.{Stole, Acted, Suspended, GaveUp}
use Rattle.play_rules.specs.declared.stop.Stop.{Stop}
use Rattle.play_rules.specs.declared.stop.Stop.TheVariants.{ArenaFull, DequesFull, StepsSpent, OutOfMemory}
use Rattle.scheduler_state.specs.declared.scheduler.Scheduler.{Scheduler}
use Rattle.scheduler_state.specs.Held.{Held, held, parts_in}
use Rattle.scheduler_state.specs.Moments.{HasRun}
use Rattle.open_periods.specs.Passed.Terms.{Terms}
use Rattle.scheduler_state.specs.Outcomes.{StepsTo}

-- How a theft changes the deques, of which so many are allowed: a worker takes the bottom thread of the one at a place, and owns the one
-- with this id from then on.
pub data Theft (worker most : ℕ) (before after : List (Deque Thread)) : (place : ℕ) → DequeId → Type 0 where
  -- A deque that keeps other threads stays. To the right of it comes a new one, with the smallest id that no deque has.
  takes_bottom : (left right : List (Deque Thread)) (victim : DequeId) (owner : Option ℕ) (first : Thread) (others : List Thread)
      (bottom : Thread) (id : DequeId) → before ≡ left ++ deque_with victim owner (first ∷ (others ++ bottom ∷ [])) ∷ right
      → after ≡ left ++ deque_with victim owner (first ∷ others) ∷ deque_with id (Some worker) (bottom ∷ []) ∷ right
      → IsSmallestFree (deque_ids before) id → length before < most
      → Theft worker most before after (length left) id
  -- A deque without an owner that holds one thread gets an owner.
  takes_deque : (left right : List (Deque Thread)) (id : DequeId) (thread : Thread)
      → before ≡ left ++ deque_with id None (thread ∷ []) ∷ right → after ≡ left ++ deque_with id (Some worker) (thread ∷ []) ∷ right
      → Theft worker most before after (length left) id

-- what a theft leaves as it was
pub record KeepsRest (before after : Scheduler) : Type 0 where
  pub most : after.list.most ≡ before.list.most
  pub waiting : after.waiting ≡ before.waiting
  pub results : after.results ≡ before.results
  pub pool : after.pool ≡ before.pool
  pub moves : after.moves ≡ before.moves
  pub done : after.done ≡ before.done

-- An idle worker stole from the deque at a place: it owns the deque with this id from now on, in a new period of this number. On the parts
-- it is the machine's theft, where the place is in reach and the worker owned no deque.
pub record Robs (worker place : ℕ) (before after : Scheduler) (id : DequeId) (number : ℕ) : Type 0 where
  pub theft : Theft worker before.list.most before.list.deques after.list.deques place id
  pub steals : (workers : ℕ) → worker < workers → Each (λ deque. Deque.owner deque ≢ Some worker) before.list.deques → place < workers
      → Steals workers before.table.begun (parts_in (held before)) worker place id.0 (parts_in (held after))
  pub seats : TakesSeat worker id before.table after.table
  pub numbered : number ≡ before.table.begun + 1
  pub rest : KeepsRest before after

-- a theft leaves the deque at a place in the list: it has an owner, or at least two threads
abbrev pub StaysAt : List (Deque Thread) → ℕ → Type 0
StaysAt deques place =
    (deque : Deque Thread) × (slice_get deques place ≡ Some deque) × ((Deque.owner deque ≢ None) ⊎ (2 ≤ length (Deque.items deque)))

-- what stops a theft: there are as many deques as are allowed, and it would make one more; or memory is wanting, where a deque more is
-- allowed or none would come
abbrev pub StopsTheft : ListView Thread → (place : ℕ) → Stop → Type 0
StopsTheft list place (ArenaFull live asked) = ⊥
StopsTheft list place (DequesFull deques) = (deques ≡ list.most) × (length list.deques ≡ list.most) × StaysAt list.deques place
StopsTheft list place (StepsSpent limit) = ⊥
StopsTheft list place OutOfMemory = StaysAt list.deques place → length list.deques < list.most

-- nothing has changed but memory
pub record OnlyMemory (before after : Scheduler) : Type 0 where
  pub same : held after ≡ held before
  pub most : after.list.most ≡ before.list.most
  pub pool : after.pool ≡ before.pool

-- what a theft from the deque at a place comes to
abbrev pub Thieves : (worker place : ℕ) → (before after : Scheduler) → Result Event Stop → Type 0
Thieves worker place before after (Ok (Stole id number)) = Robs worker place before after id number
Thieves worker place before after (Ok (Acted id)) = ⊥
Thieves worker place before after (Ok (Suspended id)) = ⊥
Thieves worker place before after (Ok (GaveUp id)) = ⊥
Thieves worker place before after (Err stop) = OnlyMemory before after × StopsTheft before.list place stop

-- what the step of an idle worker comes to, at each moment of a run at which it may begin: where there is nothing to steal, all stands
-- where it stood
abbrev pub StepsBy : Setting → Terms → Held → (worker word : ℕ) → List Pair → Moment → Result (Option Event) Stop → Type 0
StepsBy c terms after worker word run m (Ok None) = HasRun c terms after run m
StepsBy c terms after worker word run m (Ok (Some event)) = StepsTo c terms after worker word run m (Ok event)
StepsBy c terms after worker word run m (Err stop) = StepsTo c terms after worker word run m (Err stop)
