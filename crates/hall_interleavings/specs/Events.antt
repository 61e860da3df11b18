-- The steps of a seat that are an event of the machine: what it needs, what it writes into the slots, and what the seat notes.
use Rattle.std.specs.Prelude.{◌≡◌, ◌≢◌, ℕ, suc, ◌+◌, ◌<◌, true, false, nat_lt, Option, None, Some, List, [], ◌∷◌, ◌++◌, length, slice_set}
use Rattle.std.specs.List.Sorted.{IsPermutation}
use Rattle.dag_order.specs.declared.action_id.ActionId.{ActionId}
use Rattle.dag_order.specs.declared.birth.Birth.{Birth}
use Rattle.open_periods.specs.Passed.Actions.{Deed, joins}
use Rattle.open_periods.specs.Passed.Facts.{words_at}
use Rattle.deque_list.specs.declared.deque_id.DequeId.{DequeId}
use Rattle.deque_list.specs.declared.place.Place.{Place}
use Rattle.deque_machine.specs.Lists.{Each}
use Rattle.deque_machine.specs.Books.{charge_at}
use Rattle.deque_machine.specs.Machine.{Setting, Event, steals, does, suspends, gives_up}
use Rattle.open_periods.specs.Periods.{Period}
use Rattle.open_periods.specs.Tables.{noted, shut}
use Rattle.moment_laws.specs.Passed.Parts.{Child, Thread, Result}
use Rattle.moment_laws.specs.Passed.MomentShownEvents.{IsNextOf}
use Rattle.moment_laws.specs.Passed.ListChangesEvents.{DidDummy, DidJoin, DidEnd}
use Rattle.hall_machine.specs.Values.{PoolShown, LaneShown, Hall, finished, no_lane, lane_at}
use Rattle.hall_machine.specs.Steps.{Step, Told, did, stole, waited, gave_up}
use Rattle.hall_machine.specs.Writing.{place_of, lane_with, IsAtWork, written, list_unowned, list_without, step_of, PoolTakes, ActsInLane, IsHanded, new_period}
use Rattle.hall_machine.specs.Rows.{list_stolen}
use Rattle.hall_machine.specs.Views.{View}
use Rattle.hall_machine.specs.Changes.{after_event}
use Rattle.hall_machine.specs.Seats.{with_crew, leaving}
use Rattle.hall_machine.specs.State.{IsIn}
use Rattle.hall_machine.specs.Quiet.{kept_with}

-- What a hall shows between two steps: what its slots hold, the count word, and what each seat notes.
pub record Snapshot : Type 0 where
  pub hall : Hall
  pub count : ℕ
  pub views : List View

abbrev pub seen : Hall → ℕ → List View → Snapshot
seen h count views = record { hall = h; count = count; views = views }

-- nobody waits for this thread as its newest open child
abbrev pub NobodyAwaits : Thread → List Thread → Type 0
NobodyAwaits top waiting =
    Each (λ x. (newest : Child) (older : List Child) → x.children ≡ newest ∷ older → top.parent ≡ Some x.id → newest.id ≢ top.id) waiting

-- `ActsOn s h w place name after deque`: the top thread of a worker at work does the action at a place, under this name. It writes this
-- hall, and then the worker owns this deque or none.
pub data ActsOn (s : Setting) (h : Hall) {worker : ℕ} (w : IsAtWork h worker) (place : ℕ) (name : ActionId) : Hall → Option DequeId
    → Type 0 where
  -- in its own lane: a Fork, an Alloc, a Release, a Fault, or the Join of a child whose result was handed over; the pool takes its words
  acts_in_lane : (threads : List Thread) (words : ℕ) (births : List Birth) (pool : PoolShown)
      → ActsInLane s.quota s.list w place name threads words births → PoolTakes s.list place name h.pool pool
      → ActsOn s h w place name (written w h.list pool (lane_with threads (Some (noted w.period name words births)))) (Some w.id)
  -- such a Join that releases no words leaves the pool as it is
  joins_in_lane : (new : Thread) (words : ℕ) → DidJoin s.quota s.list w.top new name words place → words_at s.list place ≡ 0
      → ActsOn s h w place name (written w h.list h.pool (lane_with (new ∷ w.under) (Some (noted w.period name words [])))) (Some w.id)
  -- a Dummy: the deque has no owner any more
  runs_dummy : (new : Thread) → DidDummy s.quota s.list w.top new name 0 place
      → ActsOn s h w place name (written w (list_unowned w (shut (noted w.period name 0 []))) h.pool (lane_with (new ∷ w.under) None)) None
  -- the End of a thread above its parent, which is handed the result
  ends_above : (parent handed : Thread) (below : List Thread) (result : Result) (pool : PoolShown) → w.under ≡ parent ∷ below
      → DidEnd s.list w.top name place result → IsHanded parent result handed → PoolTakes s.list place name h.pool pool
      → ActsOn s h w place name (written w h.list pool (lane_with (handed ∷ below) (Some (noted w.period name 0 [])))) (Some w.id)
  -- the End of a thread whose parent waits for it, and takes its place
  ends_and_wakes : (before later waiting : List Thread) (parent handed : Thread) (newest : Child) (older : List Child) (result : Result)
      (pool : PoolShown) → w.under ≡ [] → h.list.waiting ≡ before ++ parent ∷ later → parent.children ≡ newest ∷ older
      → newest.id ≡ w.top.id → DidEnd s.list w.top name place result → IsHanded parent result handed
      → PoolTakes s.list place name h.pool pool → IsPermutation (before ++ later) waiting
      → ActsOn s h w place name
      (written w (record h.list { waiting = waiting }) pool (lane_with (handed ∷ []) (Some (noted w.period name 0 [])))) (Some w.id)
  -- the End of a thread for which nobody waits: the deque is gone
  ends_and_leaves : (result : Result) (results : List Result) (pool : PoolShown) → w.under ≡ [] → NobodyAwaits w.top h.list.waiting
      → DidEnd s.list w.top name place result → PoolTakes s.list place name h.pool pool → IsPermutation (result ∷ h.list.results) results
      → ActsOn s h w place name
      (written w (record (list_without w (shut (noted w.period name 0 []))) { results = results }) pool no_lane) None
  -- the End of the root, where no end was kept: the hall keeps that the run has finished
  root_ends : (result : Result) (results : List Result) (pool : PoolShown) → w.under ≡ [] → NobodyAwaits w.top h.list.waiting
      → DidEnd s.list w.top name place result → PoolTakes s.list place name h.pool pool → IsPermutation (result ∷ h.list.results) results
      → w.top.label ≡ [] → h.list.kept ≡ None
      → ActsOn s h w place name
      (with_crew (written w (record (list_without w (shut (noted w.period name 0 []))) { results = results }) pool no_lane) h.list.crew
      (Some finished))
      None
  -- the Join of the newest open child, whose result is kept: it is handed over first
  joins_kept : (before later results : List Result) (result : Result) (handed new : Thread) (words : ℕ) (pool : PoolShown)
      → h.list.results ≡ before ++ result ∷ later → (is_handed : IsHanded w.top result handed) → IsHanded.front is_handed ≡ []
      → DidJoin s.quota s.list handed new name words place
      → PoolTakes s.list place name h.pool pool → IsPermutation (before ++ later) results
      → ActsOn s h w place name
      (written w (record h.list { results = results }) pool (lane_with (new ∷ w.under) (Some (noted w.period name words [])))) (Some w.id)

-- the hall after the deque of a worker at work was given up
abbrev pub given_up : {h : Hall} {worker : ℕ} → IsAtWork h worker → Hall
given_up {h} w = written w (list_unowned w (shut w.period)) h.pool (lane_with (w.top ∷ w.under) None)

-- `PausesOn s h w event told after`: a worker at work has to end its period without an action. It is told this and writes this hall.
pub data PausesOn (s : Setting) (h : Hall) {worker : ℕ} (w : IsAtWork h worker) : Event → Told → Hall → Type 0 where
  -- it gives its deque up: the next action of the top thread takes more of the quota than is left
  gives_up_forced : (place : ℕ) (deed : Deed) → IsNextOf s.list w.top place deed → s.quota < w.period.used + charge_at s.quota s.list place
      → PausesOn s h w gives_up (gave_up w.id.0) (given_up w)
  -- its top thread waits: at the Join of a child whose result is nowhere yet
  waits_for_child : (place : ℕ) (newest : Child) (older : List Child) (waiting : List Thread)
      → IsNextOf s.list w.top place (joins newest.ordinal)
      → w.top.children ≡ newest ∷ older → newest.delivered ≡ false → Each (λ result. result.id ≢ newest.id) h.list.results → w.under ≡ []
      → IsPermutation (w.top ∷ h.list.waiting) waiting
      → PausesOn s h w suspends (waited w.top.id) (written w (record (list_without w (shut w.period)) { waiting = waiting }) h.pool no_lane)

-- `StealsOn s h worker place id after`: an idle worker steals from the deque at a place, into the deque of this id. It writes this hall.
pub data StealsOn (s : Setting) (h : Hall) (worker : ℕ) : (place : ℕ) → DequeId → Hall → Type 0 where
  -- the victim keeps other threads; the new deque is to the right of it
  steals_beside : (left right : List Place) (victim : Place) (id : DequeId) (first bottom : Thread) (others : List Thread)
      (running : Option Period)
      → length left < s.workers → h.list.places ≡ left ++ victim ∷ right
      → lane_at h.lanes victim.id ≡ lane_with (first ∷ (others ++ bottom ∷ [])) running
      → Each (λ place. place.id.0 ≢ id.0) h.list.places → id.0 < length h.lanes
      → StealsOn s h worker (length left) id (record {
        list = list_stolen h.list (left ++ victim ∷ place_of id (Some worker) ∷ right);
        pool = h.pool;
        lanes = slice_set (slice_set h.lanes victim.id.0 (lane_with (first ∷ others) running)) id.0
            (lane_with (bottom ∷ []) (Some (new_period worker true (suc h.list.begun))));
      })
  -- a deque without an owner that holds one thread is taken over
  takes_over : (left right : List Place) (id : DequeId) (thread : Thread) → length left < s.workers
      → h.list.places ≡ left ++ place_of id None ∷ right → LaneShown.threads (lane_at h.lanes id) ≡ thread ∷ []
      → StealsOn s h worker (length left) id (record {
        list = list_stolen h.list (left ++ place_of id (Some worker) ∷ right);
        pool = h.pool;
        lanes = slice_set h.lanes id.0 (lane_with (thread ∷ []) (Some (new_period worker (nat_lt 0 (length left)) (suc h.list.begun))));
      })

-- `IsEvent s b step after`: with this step of one of its seats, an event of the machine, the hall shows `after`.
pub data IsEvent (s : Setting) (b : Snapshot) : Step → Snapshot → Type 0 where
  -- an action, for which the seat holds a count
  does_an_action : (seat : ℕ) (v : View) (w : IsAtWork b.hall v.worker) (place : ℕ) (name : ActionId) (after : Hall)
      (deque : Option DequeId)
      → IsIn b.views seat v → v.counting ≡ true → ActsOn s b.hall w place name after deque
      → IsEvent s b (step_of w seat (does place) (did name))
      (seen after b.count (slice_set b.views seat (after_event v deque (did name) v.yielded)))
  -- a wait or a give up that the rules ask for, after which the seat is idle
  has_to_pause : (seat : ℕ) (v : View) (w : IsAtWork b.hall v.worker) (event : Event) (told : Told) (after : Hall) → IsIn b.views seat v
      → v.counting ≡ false → PausesOn s b.hall w event told after
      → IsEvent s b (step_of w seat event told) (seen after b.count (slice_set b.views seat (after_event v None told v.yielded)))
  -- a give up as the seat likes, by which it yields
  gives_up_freely : (seat : ℕ) (v : View) (w : IsAtWork b.hall v.worker) → IsIn b.views seat v → v.counting ≡ false
      → IsEvent s b (step_of w seat gives_up (gave_up w.id.0))
      (seen (given_up w) b.count (slice_set b.views seat (after_event v None (gave_up w.id.0) true)))
  -- a theft, of an idle seat
  steals_a_thread : (seat : ℕ) (v : View) (place : ℕ) (id : DequeId) (after : Hall) → IsIn b.views seat v → v.deque ≡ None
      → StealsOn s b.hall v.worker place id after
      → IsEvent s b (record {
        seat = seat;
        worker = v.worker;
        period = suc b.hall.list.begun;
        event = steals place id.0;
        told = stole id.0 (suc b.hall.list.begun);
      }) (seen after b.count (slice_set b.views seat (after_event v (Some id) (stole id.0 (suc b.hall.list.begun)) v.yielded)))
  -- a seat that owns a deque leaves: the deque is given up, and the list names its worker no more
  leaves_as_owner : (seat : ℕ) (v : View) (w : IsAtWork b.hall v.worker) (before later : List ℕ) → IsIn b.views seat v → v.counting ≡ false
      → v.enters ≡ None → b.hall.list.crew ≡ before ++ v.worker ∷ later
      → IsEvent s b (step_of w seat gives_up (gave_up w.id.0))
      (seen (with_crew (given_up w) (before ++ later) (kept_with v.found b.hall.list.kept)) b.count
      (slice_set b.views seat (leaving (after_event v None (gave_up w.id.0) true))))
