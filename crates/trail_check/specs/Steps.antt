-- What a checker answers to an event.
use Rattle.std.specs.Prelude.{◌≡◌, ◌⊎◌, ℕ, ◌+◌, ◌<◌, ◌≤◌, Bool, true, false, Option, None, Some, List, [], ◌∷◌, ◌++◌, length, get_or, slice_get, ℤ}
use Rattle.dag_order.specs.LabelOrder.{fork_of}
use Rattle.depth_first_list.specs.Actions.{Deed, joins, kind_of, weight_of}
use Rattle.depth_first_list.specs.Facts.{label_at, deed_at, weight_at}
use Rattle.deque_machine.specs.Books.{charge, charge_at, charged}
use Rattle.containers.specs.BoundedList.{entries}
use Rattle.dag_order.specs.declared.kind.Kind.{Kind}
use Rattle.dag_order.specs.declared.kind.Kind.TheVariants.{Fork, Join, Alloc, Release, Dummy, End, Fault}
use Rattle.deque_list.specs.declared.deque_id.DequeId.{DequeId}
use Rattle.deque_machine.specs.Moments.{Moment, owned_by}
use Rattle.serial_journal.specs.declared.action.Action.{Action as ActionShown}
use Rattle.deque_machine.specs.Machine.{Setting, Event, does, HasEnded, May}
use Rattle.deque_machine.specs.Play.{Limits}
use Rattle.deque_machine.specs.Runs.{Pair}
use Rattle.trail_meaning.specs.declared.trail_event.TrailEvent.{TrailEvent}
use Rattle.trail_meaning.specs.declared.trail_kind.TrailKind.{TrailKind}
use Rattle.trail_check.specs.Following.{Tells, Leads, pair_of}
use Rattle.trail_check.specs.Verdicts.{LeadsNowhere}
use Rattle.trail_check.specs.Holds.{Holds}
use Rattle.trail_check.specs.Hands.{Hand}
use Rattle.trail_check.specs.Standing.{StandsFor}
use Rattle.trail_check.specs.declared.step.Step.{Step}
use Rattle.trail_check.specs.declared.checker.Checker.{Checker}

-- an event of a worker
abbrev pub told_of : ℕ → TrailKind → TrailEvent
told_of worker kind = record { worker = worker; kind = kind }

-- If the answer is yes, the event came, whatever the limits say, and the checker stands for the moment after it. If it is no, the event
-- leads nowhere.
abbrev pub Came : Setting → Limits → List Pair → Moment → TrailEvent → Bool → Checker → Type 0
Came s limits run m told true after = (event : Event) × (next : Moment) × Tells m told.kind event × May s m told.worker event next
    × StandsFor s limits (run ++ pair_of told.worker event ∷ []) next after
Came s limits run m told false after = LeadsNowhere s limits m told

-- If the answer is yes, the event leads to a moment for which the checker stands. If it is no, the event leads nowhere.
abbrev pub Followed : Setting → Limits → List Pair → Moment → TrailEvent → Bool → Checker → Type 0
Followed s limits run m told true after = (event : Event) × (next : Moment) × Leads s limits m told event next
    × StandsFor s limits (run ++ pair_of told.worker event ∷ []) next after
Followed s limits run m told false after = LeadsNowhere s limits m told

-- no action of the worker may come
abbrev pub NoAction : Setting → Moment → ℕ → Type 0
NoAction s m worker = (place : ℕ) (next : Moment) → ¬ May s m worker (does place) next

-- This step is the next action of the worker's top thread, and it may come: it fits the quota, and a child that it joins has ended.
pub record IsStep (s : Setting) (m : Moment) (c : Checker) (step : Step) : Type 0 where
  pub seated : step.worker < length c.seats.items
  pub hand : Hand m c.deques.deques step.worker step.seat.deque step.place
  pub kind : step.kind ≡ kind_of (deed_at s.list step.place)
  pub change : step.change ≡ weight_at s.list step.place
  pub used : step.seat.used ≡ charged s.quota s.list hand.book.ran + charge_at s.quota s.list step.place
  pub fits : step.seat.used ≤ s.quota
  pub ended : (child : ℕ) → deed_at s.list step.place ≡ joins child → HasEnded s m (fork_of (label_at s.list step.place) child)

-- actions after which the thread goes on in its deque
abbrev pub IsAlone : Kind → Type 0
IsAlone Fork = ⊥
IsAlone Join = Unit {0}
IsAlone Alloc = Unit {0}
IsAlone Release = Unit {0}
IsAlone Dummy = ⊥
IsAlone End = ⊥
IsAlone Fault = Unit {0}

-- An idle worker may steal from the deque at a place in reach, which has these items.
pub record CanSteal (s : Setting) (m : Moment) (c : Checker) (worker place : ℕ) (id : DequeId) : Type 0 where
  pub is_worker : worker < s.workers
  pub near : place < s.workers
  pub idle : owned_by worker m.deques ≡ 0
  pub owner : Option ℕ
  pub items : List ℕ
  pub holds : Holds c.deques.deques id owner items
  pub at : length holds.left ≡ place

-- whether the bits say that the child has ended that is joined at a place
abbrev pub done_by : Checker → Option ℕ → Bool
done_by c None = false
done_by c (Some end) = get_or c.tally.done.items end false

abbrev pub has_ended_by : Checker → ℕ → Bool
has_ended_by c join = done_by c (get_or c.partners.items join None)

-- whether there is a Join at a place, of a child that has not ended by the bits
abbrev pub Owes : Checker → ℕ → Bool → Type 0
Owes c place true = (action : ActionShown) × (slice_get (entries c.actions) place ≡ Some action) × (action.kind ≡ Join) × (has_ended_by c place ≡ false)
Owes c place false = (action : ActionShown) → slice_get (entries c.actions) place ≡ Some action → action.kind ≡ Join → has_ended_by c place ≡ true

-- what a period has used after an action, if it fits the quota, and a child that it joins has ended by the bits
abbrev pub UsedAfter : Checker → ℕ → ℕ → Kind → ℤ → Option ℕ → Type 0
UsedAfter c used place kind change None = (deed : Deed) (words : ℕ) → kind ≡ kind_of deed → change ≡ weight_of deed words
    → ((kind ≡ Join) × (has_ended_by c place ≡ false)) ⊎ (c.quota < used + charge c.quota deed words)
UsedAfter c used place kind change (Some after) = (deed : Deed) (words : ℕ) → kind ≡ kind_of deed → change ≡ weight_of deed words
    → (after ≡ used + charge c.quota deed words) × (after ≤ c.quota) × (kind ≡ Join → has_ended_by c place ≡ true)
