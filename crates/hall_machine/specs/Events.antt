-- Each event of a seat, from the running state before it to the running state after it.
use Rattle.std.specs.Prelude.{◌≡◌, ◌≢◌, ℕ, suc, ◌+◌, ◌<◌, true, false, nat_lt, Bool, Option, None, Some, List, [], ◌∷◌, ◌++◌, length, slice_set}
use Rattle.std.specs.List.Sorted.{IsPermutation}
use Rattle.depth_first_list.specs.Passed.ActionId.{ActionId}
use Rattle.depth_first_list.specs.Passed.Birth.{Birth}
use Rattle.depth_first_list.specs.Actions.{Deed, joins}
use Rattle.depth_first_list.specs.Facts.{words_at}
use Rattle.deque_list.specs.declared.deque_id.DequeId.{DequeId}
use Rattle.deque_list.specs.declared.place.Place.{Place}
use Rattle.deque_machine.specs.Lists.{Each}
use Rattle.deque_machine.specs.Books.{charge_at}
use Rattle.deque_machine.specs.Moments.{Moment}
use Rattle.deque_machine.specs.Machine.{Setting, steals, does, suspends, gives_up}
use Rattle.deque_machine.specs.Play.{Limits, IsForced}
use Rattle.moment_laws.specs.Passed.Periods.{Period}
use Rattle.moment_laws.specs.Passed.Tables.{noted, shut}
use Rattle.moment_laws.specs.Passed.Parts.{Child, Thread, Result}
use Rattle.moment_laws.specs.Passed.MomentShownEvents.{IsNextOf}
use Rattle.moment_laws.specs.Passed.ListChangesEvents.{DidDummy, DidJoin, DidEnd}
use Rattle.hall_machine.specs.Values.{PoolShown, LaneShown, Hall, finished, no_lane, lane_at}
use Rattle.hall_machine.specs.Steps.{Step, Leads, did, stole, waited, gave_up}
use Rattle.hall_machine.specs.Writing.{place_of, lane_with, IsAtWork, written, list_unowned, list_without, step_of, PoolTakes, ActsInLane, IsHanded, new_period}
use Rattle.hall_machine.specs.Rows.{list_stolen}
use Rattle.hall_machine.specs.Views.{View}
use Rattle.hall_machine.specs.Changes.{after_event}
use Rattle.hall_machine.specs.Seats.{with_crew}
use Rattle.hall_machine.specs.State.{RunningState, IsIn, GoesOn}

-- the note of a seat after an event of its own deque, which it keeps or has no more
abbrev pub still_owning : {h : Hall} {worker : ℕ} → View → IsAtWork h worker → ActionId → View
still_owning v w name = after_event v (Some w.id) (did name) v.yielded

abbrev pub idle_after : View → ActionId → View
idle_after v name = after_event v None (did name) v.yielded

-- an action that the top thread does in its own lane
abbrev pub LaneActionsGoOn : Setting → Type 0
LaneActionsGoOn s = (limits : Limits) (h : Hall) (steps : List Step) (m : Moment) (leads : Leads s steps m) (count : ℕ) (views : List View)
    (seat : ℕ) (v : View) (w : IsAtWork h v.worker) (place : ℕ) (name : ActionId) (threads : List Thread) (words : ℕ) (births : List Birth)
    (pool : PoolShown) → RunningState s limits h steps m leads count views → IsIn views seat v → v.counting ≡ true
    → ActsInLane s.quota s.list w place name threads words births → PoolTakes s.list place name h.pool pool
    → GoesOn s limits (written w h.list pool (lane_with threads (Some (noted w.period name words births)))) steps m leads
    (step_of w seat (does place) (did name)) count (slice_set views seat (still_owning v w name))

-- The Join of a child whose result was handed over, which releases no words: its own lane is all that is written.
abbrev pub OwnJoinsGoOn : Setting → Type 0
OwnJoinsGoOn s = (limits : Limits) (h : Hall) (steps : List Step) (m : Moment) (leads : Leads s steps m) (count : ℕ) (views : List View)
    (seat : ℕ) (v : View) (w : IsAtWork h v.worker) (place : ℕ) (name : ActionId) (new : Thread) (words : ℕ)
    → RunningState s limits h steps m leads count views → IsIn views seat v → v.counting ≡ true
    → DidJoin s.quota s.list w.top new name words place → words_at s.list place ≡ 0
    → GoesOn s limits (written w h.list h.pool (lane_with (new ∷ w.under) (Some (noted w.period name words [])))) steps m leads
    (step_of w seat (does place) (did name)) count (slice_set views seat (still_owning v w name))

-- a Dummy, after which its deque has no owner
abbrev pub DummiesGoOn : Setting → Type 0
DummiesGoOn s = (limits : Limits) (h : Hall) (steps : List Step) (m : Moment) (leads : Leads s steps m) (count : ℕ) (views : List View)
    (seat : ℕ) (v : View) (w : IsAtWork h v.worker) (place : ℕ) (name : ActionId) (new : Thread)
    → RunningState s limits h steps m leads count views → IsIn views seat v → v.counting ≡ true
    → DidDummy s.quota s.list w.top new name 0 place
    → GoesOn s limits (written w (list_unowned w (shut (noted w.period name 0 []))) h.pool (lane_with (new ∷ w.under) None)) steps m leads
    (step_of w seat (does place) (did name)) count (slice_set views seat (idle_after v name))

-- the End of a thread above its parent
abbrev pub EndsAboveGoOn : Setting → Type 0
EndsAboveGoOn s = (limits : Limits) (h : Hall) (steps : List Step) (m : Moment) (leads : Leads s steps m) (count : ℕ) (views : List View)
    (seat : ℕ) (v : View) (w : IsAtWork h v.worker) (place : ℕ) (name : ActionId) (parent handed : Thread) (below : List Thread)
    (result : Result) (pool : PoolShown) → RunningState s limits h steps m leads count views → IsIn views seat v → v.counting ≡ true
    → w.under ≡ parent ∷ below → DidEnd s.list w.top name place result → IsHanded parent result handed
    → PoolTakes s.list place name h.pool pool
    → GoesOn s limits (written w h.list pool (lane_with (handed ∷ below) (Some (noted w.period name 0 [])))) steps m leads
    (step_of w seat (does place) (did name)) count (slice_set views seat (still_owning v w name))

-- the End of a thread whose parent waits for it
abbrev pub WakingEndsGoOn : Setting → Type 0
WakingEndsGoOn s = (limits : Limits) (h : Hall) (steps : List Step) (m : Moment) (leads : Leads s steps m) (count : ℕ) (views : List View)
    (seat : ℕ) (v : View) (w : IsAtWork h v.worker) (place : ℕ) (name : ActionId) (before later waiting : List Thread) (parent handed : Thread)
    (newest : Child) (older : List Child) (result : Result) (pool : PoolShown) → RunningState s limits h steps m leads count views
    → IsIn views seat v → v.counting ≡ true → w.under ≡ [] → h.list.waiting ≡ before ++ parent ∷ later
    → parent.children ≡ newest ∷ older → newest.id ≡ w.top.id → DidEnd s.list w.top name place result → IsHanded parent result handed
    → PoolTakes s.list place name h.pool pool → IsPermutation (before ++ later) waiting
    → GoesOn s limits (written w (record h.list { waiting = waiting }) pool (lane_with (handed ∷ []) (Some (noted w.period name 0 []))))
    steps m leads (step_of w seat (does place) (did name)) count (slice_set views seat (still_owning v w name))

-- the End of a thread for which nobody waits: its deque is gone
abbrev pub LeavingEndsGoOn : Setting → Type 0
LeavingEndsGoOn s = (limits : Limits) (h : Hall) (steps : List Step) (m : Moment) (leads : Leads s steps m) (count : ℕ) (views : List View)
    (seat : ℕ) (v : View) (w : IsAtWork h v.worker) (place : ℕ) (name : ActionId) (result : Result) (results : List Result) (pool : PoolShown)
    → RunningState s limits h steps m leads count views → IsIn views seat v → v.counting ≡ true → w.under ≡ []
    → Each (λ x. (newest : Child) (older : List Child) → x.children ≡ newest ∷ older → w.top.parent ≡ Some x.id → newest.id ≢ w.top.id)
    h.list.waiting
    → DidEnd s.list w.top name place result → PoolTakes s.list place name h.pool pool → IsPermutation (result ∷ h.list.results) results
    → GoesOn s limits (written w (record (list_without w (shut (noted w.period name 0 []))) { results = results }) pool no_lane) steps m leads
    (step_of w seat (does place) (did name)) count (slice_set views seat (idle_after v name))

-- And the End of the root, where no end was kept: with it no deque is left, and the hall keeps that the run has finished.
abbrev pub RootEndsGoOn : Setting → Type 0
RootEndsGoOn s = (limits : Limits) (h : Hall) (steps : List Step) (m : Moment) (leads : Leads s steps m) (count : ℕ) (views : List View)
    (seat : ℕ) (v : View) (w : IsAtWork h v.worker) (place : ℕ) (name : ActionId) (result : Result) (results : List Result) (pool : PoolShown)
    → RunningState s limits h steps m leads count views → IsIn views seat v → v.counting ≡ true → w.under ≡ []
    → Each (λ x. (newest : Child) (older : List Child) → x.children ≡ newest ∷ older → w.top.parent ≡ Some x.id → newest.id ≢ w.top.id)
    h.list.waiting
    → DidEnd s.list w.top name place result → PoolTakes s.list place name h.pool pool → IsPermutation (result ∷ h.list.results) results
    → w.top.label ≡ [] → h.list.kept ≡ None
    → GoesOn s limits
    (with_crew (written w (record (list_without w (shut (noted w.period name 0 []))) { results = results }) pool no_lane) h.list.crew (Some finished))
    steps m leads (step_of w seat (does place) (did name)) count (slice_set views seat (idle_after v name))

-- the Join of a child whose result is kept
abbrev pub KeptJoinsGoOn : Setting → Type 0
KeptJoinsGoOn s = (limits : Limits) (h : Hall) (steps : List Step) (m : Moment) (leads : Leads s steps m) (count : ℕ) (views : List View)
    (seat : ℕ) (v : View) (w : IsAtWork h v.worker) (place : ℕ) (name : ActionId) (before later results : List Result) (result : Result)
    (handed new : Thread) (words : ℕ) (pool : PoolShown) → RunningState s limits h steps m leads count views → IsIn views seat v
    → v.counting ≡ true → h.list.results ≡ before ++ result ∷ later → IsHanded w.top result handed
    → DidJoin s.quota s.list handed new name words place → PoolTakes s.list place name h.pool pool → IsPermutation (before ++ later) results
    → GoesOn s limits (written w (record h.list { results = results }) pool (lane_with (new ∷ w.under) (Some (noted w.period name words []))))
    steps m leads (step_of w seat (does place) (did name)) count (slice_set views seat (still_owning v w name))

-- A deque that is given up. The seat has yielded afterwards, or the rules asked for it and it has as before.
abbrev pub GivingUpGoesOn : Setting → Type 0
GivingUpGoesOn s = (limits : Limits) (h : Hall) (steps : List Step) (m : Moment) (leads : Leads s steps m) (count : ℕ) (views : List View)
    (seat : ℕ) (v : View) (w : IsAtWork h v.worker) (yielded : Bool) → RunningState s limits h steps m leads count views → IsIn views seat v
    → v.counting ≡ false → (yielded ≡ false → v.yielded ≡ false) → (yielded ≡ false → IsForced s m v.worker)
    → GoesOn s limits (written w (list_unowned w (shut w.period)) h.pool (lane_with (w.top ∷ w.under) None)) steps m leads
    (step_of w seat gives_up (gave_up w.id.0)) count (slice_set views seat (after_event v None (gave_up w.id.0) yielded))

-- So is it if the next action of the top thread takes more of the quota than the period has left: the rules ask for the give up.
abbrev pub ForcedGiveUpsGoOn : Setting → Type 0
ForcedGiveUpsGoOn s = (limits : Limits) (h : Hall) (steps : List Step) (m : Moment) (leads : Leads s steps m) (count : ℕ) (views : List View)
    (seat : ℕ) (v : View) (w : IsAtWork h v.worker) (place : ℕ) (deed : Deed) → RunningState s limits h steps m leads count views
    → IsIn views seat v → v.counting ≡ false → IsNextOf s.list w.top place deed → s.quota < w.period.used + charge_at s.quota s.list place
    → GoesOn s limits (written w (list_unowned w (shut w.period)) h.pool (lane_with (w.top ∷ w.under) None)) steps m leads
    (step_of w seat gives_up (gave_up w.id.0)) count (slice_set views seat (after_event v None (gave_up w.id.0) v.yielded))

-- a thread that waits
abbrev pub SuspendingGoesOn : Setting → Type 0
SuspendingGoesOn s = (limits : Limits) (h : Hall) (steps : List Step) (m : Moment) (leads : Leads s steps m) (count : ℕ) (views : List View)
    (seat : ℕ) (v : View) (w : IsAtWork h v.worker) (place : ℕ) (newest : Child) (older : List Child) (waiting : List Thread)
    → RunningState s limits h steps m leads count views → IsIn views seat v → v.counting ≡ false
    → IsNextOf s.list w.top place (joins newest.ordinal) → w.top.children ≡ newest ∷ older → newest.delivered ≡ false
    → Each (λ result. result.id ≢ newest.id) h.list.results → w.under ≡ [] → IsPermutation (w.top ∷ h.list.waiting) waiting
    → GoesOn s limits (written w (record (list_without w (shut w.period)) { waiting = waiting }) h.pool no_lane) steps m leads
    (step_of w seat suspends (waited w.top.id)) count (slice_set views seat (after_event v None (waited w.top.id) v.yielded))

-- An idle seat steals from the deque at a place in reach. (Its worker is one of the hall's by the law of the seats.)
abbrev pub TheftsBesideGoOn : Setting → Type 0
TheftsBesideGoOn s = (limits : Limits) (h : Hall) (steps : List Step) (m : Moment) (leads : Leads s steps m) (count : ℕ) (views : List View)
    (seat : ℕ) (v : View) (left right : List Place) (victim : Place) (id : DequeId) (first bottom : Thread) (others : List Thread)
    (running : Option Period) → RunningState s limits h steps m leads count views → IsIn views seat v → v.deque ≡ None → length left < s.workers
    → h.list.places ≡ left ++ victim ∷ right → lane_at h.lanes victim.id ≡ lane_with (first ∷ (others ++ bottom ∷ [])) running
    → Each (λ place. place.id.0 ≢ id.0) h.list.places → id.0 < length h.lanes
    → GoesOn s limits (record {
      list = list_stolen h.list (left ++ victim ∷ place_of id (Some v.worker) ∷ right);
      pool = h.pool;
      lanes = slice_set (slice_set h.lanes victim.id.0 (lane_with (first ∷ others) running)) id.0
          (lane_with (bottom ∷ []) (Some (new_period v.worker true (suc h.list.begun))));
    }) steps m leads (record {
      seat = seat;
      worker = v.worker;
      period = suc h.list.begun;
      event = steals (length left) id.0;
      told = stole id.0 (suc h.list.begun);
    }) count (slice_set views seat (after_event v (Some id) (stole id.0 (suc h.list.begun)) v.yielded))

-- or takes one over that nobody owns
abbrev pub TakingOverGoesOn : Setting → Type 0
TakingOverGoesOn s = (limits : Limits) (h : Hall) (steps : List Step) (m : Moment) (leads : Leads s steps m) (count : ℕ) (views : List View)
    (seat : ℕ) (v : View) (left right : List Place) (id : DequeId) (thread : Thread) → RunningState s limits h steps m leads count views
    → IsIn views seat v → v.deque ≡ None → length left < s.workers → h.list.places ≡ left ++ place_of id None ∷ right
    → LaneShown.threads (lane_at h.lanes id) ≡ thread ∷ []
    → GoesOn s limits (record {
      list = list_stolen h.list (left ++ place_of id (Some v.worker) ∷ right);
      pool = h.pool;
      lanes = slice_set h.lanes id.0 (lane_with (thread ∷ []) (Some (new_period v.worker (nat_lt 0 (length left)) (suc h.list.begun))));
    }) steps m leads (record {
      seat = seat;
      worker = v.worker;
      period = suc h.list.begun;
      event = steals (length left) id.0;
      told = stole id.0 (suc h.list.begun);
    }) count (slice_set views seat (after_event v (Some id) (stole id.0 (suc h.list.begun)) v.yielded))
