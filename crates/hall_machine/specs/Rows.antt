-- What the hall writes with each event, and that it stands afterwards at the moment after the event.
use Rattle.std.specs.Prelude.{◌≡◌, ◌≢◌, ℕ, suc, ◌+◌, ◌<◌, true, false, nat_lt, Option, None, Some, List, [], ◌∷◌, ◌++◌, length, slice_set}
use Rattle.std.specs.List.Sorted.{IsPermutation}
use Rattle.depth_first_list.specs.Passed.ActionId.{ActionId}
use Rattle.depth_first_list.specs.Passed.Birth.{Birth}
use Rattle.depth_first_list.specs.Passed.Births.{root}
use Rattle.depth_first_list.specs.Actions.{joins}
use Rattle.deque_list.specs.declared.deque_id.DequeId.{DequeId}
use Rattle.deque_list.specs.declared.place.Place.{Place}
use Rattle.deque_list.specs.Ids.{deque_id}
use Rattle.deque_machine.specs.Lists.{Each}
use Rattle.deque_machine.specs.Moments.{Moment, opening}
use Rattle.deque_machine.specs.Machine.{Setting, steals, does, suspends, gives_up}
use Rattle.moment_laws.specs.Passed.Periods.{Period}
use Rattle.moment_laws.specs.Passed.Tables.{noted, shut}
use Rattle.moment_laws.specs.Passed.Parts.{Child, Thread, Result}
use Rattle.moment_laws.specs.Passed.MomentShownEvents.{IsNextOf}
use Rattle.moment_laws.specs.Passed.ListChangesEvents.{DidDummy, DidJoin, DidEnd}
use Rattle.moment_laws.specs.Orders.{AreSame}
use Rattle.moment_laws.specs.Standing.{Keeps}
use Rattle.hall_machine.specs.Values.{ListShown, PoolShown, LaneShown, Hall, no_lane, lane_at, parts_of, showing_of}
use Rattle.hall_machine.specs.Steps.{Step, did, stole, waited, gave_up}
use Rattle.hall_machine.specs.Standing.{HasLane, HallStands, Went}
use Rattle.hall_machine.specs.Writing.{place_of, lane_with, IsAtWork, written, list_unowned, list_without, step_of, PoolTakes, ActsInLane, IsHanded, new_period}

-- A hall that begins: one deque without an owner, in whose lane the root is alone. Nobody waits, and nothing was done.
pub record IsFirst (h : Hall) (x : Thread) : Type 0 where
  pub places : h.list.places ≡ place_of (deque_id 0) None ∷ []
  pub inside : 0 < length h.lanes
  pub threads : LaneShown.threads (lane_at h.lanes (deque_id 0)) ≡ x ∷ []
  pub none_wait : h.list.waiting ≡ []
  pub no_results : h.list.results ≡ []
  pub none_closed : h.list.closed ≡ []
  pub none_begun : h.list.begun ≡ 0
  pub unused : h.pool.live ≡ 0
  pub no_moves : h.pool.moves ≡ []

-- it stands at the opening moment, by no step
abbrev pub FirstStands : Setting → Type 0
FirstStands s = (h : Hall) (x : Thread) → IsFirst h x → x.id ≡ root → x.label ≡ [] → x.done ≡ 0 → x.children ≡ [] → x.words ≡ 0
    → HallStands s h [] opening

-- A hall that shows the same, perhaps in another order, stands where it stood.
abbrev pub StillStands : Setting → Type 0
StillStands s = (h after : Hall) (steps : List Step) (m : Moment) → HallStands s h steps m → AreSame (parts_of h) (parts_of after)
    → Keeps (showing_of h) (showing_of after) 0 → Each (HasLane after.lanes) after.list.places → HallStands s after steps m

-- an action that the top thread does in its own lane; the list stays
abbrev pub LaneActionsStand : Setting → Type 0
LaneActionsStand s = (h : Hall) (steps : List Step) (m : Moment) (seat worker : ℕ) (w : IsAtWork h worker) (place : ℕ) (name : ActionId)
    (threads : List Thread) (words : ℕ) (births : List Birth) (pool : PoolShown) → HallStands s h steps m
    → ActsInLane s.quota s.list w place name threads words births → PoolTakes s.list place name h.pool pool
    → Went s (written w h.list pool (lane_with threads (Some (noted w.period name words births)))) steps m
    (step_of w seat (does place) (did name))

-- a Dummy: the period is closed, and the deque has no owner afterwards; the pool stays
abbrev pub DummiesStand : Setting → Type 0
DummiesStand s = (h : Hall) (steps : List Step) (m : Moment) (seat worker : ℕ) (w : IsAtWork h worker) (place : ℕ) (name : ActionId)
    (new : Thread) → HallStands s h steps m → DidDummy s.quota s.list w.top new name 0 place
    → Went s (written w (list_unowned w (shut (noted w.period name 0 []))) h.pool (lane_with (new ∷ w.under) None)) steps m
    (step_of w seat (does place) (did name))

-- the End of a thread above its parent, which is handed the result and runs next; the list stays
abbrev pub EndsAboveStand : Setting → Type 0
EndsAboveStand s = (h : Hall) (steps : List Step) (m : Moment) (seat worker : ℕ) (w : IsAtWork h worker) (place : ℕ) (name : ActionId)
    (parent handed : Thread) (below : List Thread) (result : Result) (pool : PoolShown) → HallStands s h steps m
    → w.under ≡ parent ∷ below → DidEnd s.list w.top name place result → IsHanded parent result handed
    → PoolTakes s.list place name h.pool pool
    → Went s (written w h.list pool (lane_with (handed ∷ below) (Some (noted w.period name 0 [])))) steps m
    (step_of w seat (does place) (did name))

-- the End of a thread, alone in its deque, whose parent waits for it: this is handed the result and takes its place
abbrev pub WakingEndsStand : Setting → Type 0
WakingEndsStand s = (h : Hall) (steps : List Step) (m : Moment) (seat worker : ℕ) (w : IsAtWork h worker) (place : ℕ) (name : ActionId)
    (before later waiting : List Thread) (parent handed : Thread) (newest : Child) (older : List Child) (result : Result)
    (pool : PoolShown) → HallStands s h steps m → w.under ≡ [] → h.list.waiting ≡ before ++ parent ∷ later
    → parent.children ≡ newest ∷ older → newest.id ≡ w.top.id → DidEnd s.list w.top name place result → IsHanded parent result handed
    → PoolTakes s.list place name h.pool pool → IsPermutation (before ++ later) waiting
    → Went s (written w (record h.list { waiting = waiting }) pool (lane_with (handed ∷ []) (Some (noted w.period name 0 [])))) steps m
    (step_of w seat (does place) (did name))

-- the End of a thread, alone in its deque, for which nobody waits: the deque is gone, the result is kept, and the period is closed
abbrev pub LeavingEndsStand : Setting → Type 0
LeavingEndsStand s = (h : Hall) (steps : List Step) (m : Moment) (seat worker : ℕ) (w : IsAtWork h worker) (place : ℕ) (name : ActionId)
    (result : Result) (results : List Result) (pool : PoolShown) → HallStands s h steps m → w.under ≡ []
    → Each (λ x. (newest : Child) (older : List Child) → x.children ≡ newest ∷ older → w.top.parent ≡ Some x.id → newest.id ≢ w.top.id)
    h.list.waiting
    → DidEnd s.list w.top name place result → PoolTakes s.list place name h.pool pool → IsPermutation (result ∷ h.list.results) results
    → Went s (written w (record (list_without w (shut (noted w.period name 0 []))) { results = results }) pool no_lane) steps m
    (step_of w seat (does place) (did name))

-- the Join of a child whose result is kept: it is handed over first
abbrev pub KeptJoinsStand : Setting → Type 0
KeptJoinsStand s = (h : Hall) (steps : List Step) (m : Moment) (seat worker : ℕ) (w : IsAtWork h worker) (place : ℕ) (name : ActionId)
    (before later results : List Result) (result : Result) (handed new : Thread) (words : ℕ) (pool : PoolShown) → HallStands s h steps m
    → h.list.results ≡ before ++ result ∷ later → IsHanded w.top result handed → DidJoin s.quota s.list handed new name words place
    → PoolTakes s.list place name h.pool pool → IsPermutation (before ++ later) results
    → Went s (written w (record h.list { results = results }) pool (lane_with (new ∷ w.under) (Some (noted w.period name words [])))) steps m
    (step_of w seat (does place) (did name))

-- a deque that is given up: its threads stay, it has no owner afterwards, and the period is closed
abbrev pub GivingUpStands : Setting → Type 0
GivingUpStands s = (h : Hall) (steps : List Step) (m : Moment) (seat worker : ℕ) (w : IsAtWork h worker) → HallStands s h steps m
    → Went s (written w (list_unowned w (shut w.period)) h.pool (lane_with (w.top ∷ w.under) None)) steps m
    (step_of w seat gives_up (gave_up w.id.0))

-- a thread, alone in its deque, that waits for its newest open child: the deque is gone, and the period is closed
abbrev pub SuspendingStands : Setting → Type 0
SuspendingStands s = (h : Hall) (steps : List Step) (m : Moment) (seat worker : ℕ) (w : IsAtWork h worker) (place : ℕ) (newest : Child)
    (older : List Child) (waiting : List Thread) → HallStands s h steps m → IsNextOf s.list w.top place (joins newest.ordinal)
    → w.top.children ≡ newest ∷ older → newest.delivered ≡ false → Each (λ result. result.id ≢ newest.id) h.list.results → w.under ≡ []
    → IsPermutation (w.top ∷ h.list.waiting) waiting
    → Went s (written w (record (list_without w (shut w.period)) { waiting = waiting }) h.pool no_lane) steps m
    (step_of w seat suspends (waited w.top.id))

-- a worker that may steal from the deque at a place
pub record MaySteal (workers : ℕ) (h : Hall) (worker : ℕ) (left : List Place) : Type 0 where
  pub is_worker : worker < workers
  pub owns_none : Each (λ place. place.owner ≢ Some worker) h.list.places
  pub in_reach : length left < workers

-- the list after a theft, which begins a period
abbrev pub list_stolen : ListShown → List Place → ListShown
list_stolen list places = record list { places = places; begun = list.begun + 1 }

-- a theft from a deque that keeps other threads, into a new one to the right of it, whose id is free and has a lane
abbrev pub TheftsBesideStand : Setting → Type 0
TheftsBesideStand s = (h : Hall) (steps : List Step) (m : Moment) (seat worker : ℕ) (left right : List Place) (victim : Place) (id : DequeId)
    (first bottom : Thread) (others : List Thread) (running : Option Period) → HallStands s h steps m → MaySteal s.workers h worker left
    → h.list.places ≡ left ++ victim ∷ right → lane_at h.lanes victim.id ≡ lane_with (first ∷ (others ++ bottom ∷ [])) running
    → Each (λ place. place.id.0 ≢ id.0) h.list.places → id.0 < length h.lanes
    → Went s (record {
      list = list_stolen h.list (left ++ victim ∷ place_of id (Some worker) ∷ right);
      pool = h.pool;
      lanes = slice_set (slice_set h.lanes victim.id.0 (lane_with (first ∷ others) running)) id.0
          (lane_with (bottom ∷ []) (Some (new_period worker true (suc h.list.begun))));
    }) steps m (record {
      seat = seat;
      worker = worker;
      period = suc h.list.begun;
      event = steals (length left) id.0;
      told = stole id.0 (suc h.list.begun);
    })

-- a deque without an owner that holds one thread is taken over
abbrev pub TakingOverStands : Setting → Type 0
TakingOverStands s = (h : Hall) (steps : List Step) (m : Moment) (seat worker : ℕ) (left right : List Place) (id : DequeId) (thread : Thread)
    → HallStands s h steps m → MaySteal s.workers h worker left → h.list.places ≡ left ++ place_of id None ∷ right
    → LaneShown.threads (lane_at h.lanes id) ≡ thread ∷ []
    → Went s (record {
      list = list_stolen h.list (left ++ place_of id (Some worker) ∷ right);
      pool = h.pool;
      lanes = slice_set h.lanes id.0 (lane_with (thread ∷ []) (Some (new_period worker (nat_lt 0 (length left)) (suc h.list.begun))));
    }) steps m (record {
      seat = seat;
      worker = worker;
      period = suc h.list.begun;
      event = steals (length left) id.0;
      told = stole id.0 (suc h.list.begun);
    })
