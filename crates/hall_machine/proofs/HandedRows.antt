-- Events with which a result is handed to its parent at once: an End above its parent, one that wakes it, and the Join of a kept result.
use Rattle.std.proofs.Common.{◌≡◌, ℕ, ◌+◌, ◌<◌, List, [], ◌∷◌, ◌++◌, refl, sym, ap, subst, ◌∙◌, arith}
use Rattle.std.specs.Prelude.{Some}
use Rattle.std.specs.List.Sorted.{IsPermutation}
use Rattle.std.proofs.lemmas.List.Sorted.{IsPermutation-refl}
use Rattle.depth_first_list.specs.Passed.ActionId.{ActionId}
use Rattle.depth_first_list.specs.Actions.{ends}
use Rattle.depth_first_list.specs.Runs.{IsDepthFirst}
use Rattle.deque_machine.specs.Lists.{Each}
use Rattle.deque_machine.proofs.Lists.{among_here}
use Rattle.deque_machine.specs.Moments.{Moment}
use Rattle.deque_machine.specs.Machine.{Setting, does}
use Rattle.deque_machine.specs.Runs.{moves}
use Rattle.moment_laws.specs.Passed.Periods.{Period}
use Rattle.moment_laws.specs.Passed.Numbers.{NumbersDiffer}
use Rattle.moment_laws.specs.Passed.Tables.{noted}
use Rattle.moment_laws.specs.Passed.Parts.{Child, Thread, Result, Parts}
use Rattle.moment_laws.specs.Passed.MomentShownEvents.{Works, ends_above, ends_and_wakes, HandsOver, hands_over}
use Rattle.moment_laws.specs.Passed.ListChangesEvents.{DidEnd, DidJoin}
use Rattle.moment_laws.specs.Orders.{AreSame}
use Rattle.moment_laws.specs.Standing.{handed_on}
use Rattle.moment_laws.proofs.Standing.{handings_stand}
use Rattle.hall_machine.specs.Values.{PoolShown, Hall, parts_of, showing_of, open_for}
use Rattle.hall_machine.specs.Steps.{Step, did, run_of}
use Rattle.hall_machine.specs.Standing.{HallStands, RanBy, Went}
use Rattle.hall_machine.specs.Writing.{IsAtWork, lane_with, step_of, PoolTakes, joins_handed, IsHanded}
use Rattle.hall_machine.specs.Rows.{EndsAboveStand, WakingEndsStand, KeptJoinsStand}
use Rattle.hall_machine.proofs.Own as own
use Rattle.hall_machine.proofs.Own.{deque_with, works, with_open}
use Rattle.hall_machine.proofs.Lanes.{lane_written, written_twice}
use Rattle.hall_machine.proofs.LaneRows.{acted_open, notes, parts_open, hall_open, open_same, open_lanes, lane_actions_stand}
use Rattle.hall_machine.proofs.ListRows.{no_charge}

-- a result among those that are kept is handed to the top thread of the worker
handed_over : (parts : Parts) (worker : ℕ) (o : Works parts worker) (before later : List Result) (result : Result) (new : Thread)
    → parts.results ≡ before ++ result ∷ later → IsHanded o.top result new
    → HandsOver parts worker (record parts { deques = o.left ++ record { id = o.id; owner = Some worker; threads = new ∷ o.under } ∷ o.right; results = before ++ later })
handed_over parts worker o before later result new are is =
    hands_over o before later result is.front is.back is.child new are is.children_were is.child_is is.same_id is.same_parent is.same_label is.same_func is.same_done is.children is.words

module _ (s : Setting) (some : 0 < s.quota) (list : IsDepthFirst s.quota s.list) (h : Hall) (steps : List Step) (m : Moment) (at : HallStands s h steps m) {worker : ℕ} (w : IsAtWork h worker) where
  -- the worker has these threads, the first of which is the parent, and a result is kept more
  abbrev works_on : (parent : Thread) (below waiting : List Thread) (p : Period) (result : Result) (threads : List Thread) → threads ≡ parent ∷ below
      → Works (parts_open s some list h steps m at w threads p waiting (result ∷ h.list.results)) worker
  works_on parent below waiting p result threads are = record {
    left = own.lefts s h steps m at w;
    id = w.id.0;
    top = parent;
    under = below;
    right = own.rights s h steps m at w;
    period = open_for worker p;
    deques_are = ap (λ ts. own.lefts s h steps m at w ++ deque_with w.id.0 (Some worker) ts ∷ own.rights s h steps m at w) are;
    period_there = among_here (open_for worker p) (h.list.closed ++ Rattle.hall_machine.specs.Values.running h.lanes w.left) (Rattle.hall_machine.specs.Values.running h.lanes w.right);
    open_for_it = refl;
  }

  hands_on : (parent : Thread) (below waiting : List Thread) (p : Period) (result : Result) (threads : List Thread) (handed : Thread) → threads ≡ parent ∷ below
      → IsHanded parent result handed
      → HandsOver (parts_open s some list h steps m at w threads p waiting (result ∷ h.list.results)) worker (parts_open s some list h steps m at w (handed ∷ below) p waiting h.list.results)
  hands_on parent below waiting p result threads handed are is =
      handed_over (parts_open s some list h steps m at w threads p waiting (result ∷ h.list.results)) worker (works_on parent below waiting p result threads are)
      [] h.list.results result handed refl is

  pub end_above_went : (seat place : ℕ) (name : ActionId) (parent handed : Thread) (below : List Thread) (result : Result) (pool : PoolShown)
      → w.under ≡ parent ∷ below → DidEnd s.list w.top name place result → IsHanded parent result handed → PoolTakes s.list place name h.pool pool
      → Went s (hall_open s some list h steps m at w (handed ∷ below) (noted w.period name 0 []) h.list.waiting h.list.results pool) steps m (step_of w seat (does place) (did name))
  end_above_went seat place name parent handed below result pool under d is takes =
      let p : Period = noted w.period name 0 [] in
      acted_open s some list h steps m at w seat place ends name (handed ∷ below) 0 [] h.list.waiting h.list.results pool
      (parts_open s some list h steps m at w w.under p h.list.waiting (result ∷ h.list.results)) d.next d.named
      (ends_above (works s h steps m at w) parent below result (with_open s h steps m at w (open_for worker p)) d.next under d.left_by
      (notes s some list h steps m at w place 0 [] name d.named (no_charge s.quota s.list w.top place d.next)))
      (handed_on (parts_open s some list h steps m at w (handed ∷ below) p h.list.waiting h.list.results) (hands_on parent below h.list.waiting p result w.under handed under is)
      (open_same s some list h steps m at w (handed ∷ below) p h.list.waiting h.list.waiting h.list.results h.list.results pool (IsPermutation-refl h.list.waiting) (IsPermutation-refl h.list.results)))
      takes

  pub end_wakes_went : (seat place : ℕ) (name : ActionId) (before later waiting : List Thread) (parent handed : Thread) (newest : Child) (older : List Child) (result : Result)
      (pool : PoolShown) → w.under ≡ [] → h.list.waiting ≡ before ++ parent ∷ later → parent.children ≡ newest ∷ older → newest.id ≡ w.top.id
      → DidEnd s.list w.top name place result → IsHanded parent result handed → PoolTakes s.list place name h.pool pool → IsPermutation (before ++ later) waiting
      → Went s (hall_open s some list h steps m at w (handed ∷ []) (noted w.period name 0 []) waiting h.list.results pool) steps m (step_of w seat (does place) (did name))
  end_wakes_went seat place name before later waiting parent handed newest older result pool under were children newest_is d is takes moved =
      let p : Period = noted w.period name 0 [] in
      acted_open s some list h steps m at w seat place ends name (handed ∷ []) 0 [] waiting h.list.results pool
      (parts_open s some list h steps m at w (parent ∷ []) p (before ++ later) (result ∷ h.list.results)) d.next d.named
      (ends_and_wakes (works s h steps m at w) before later parent newest older result (with_open s h steps m at w (open_for worker p)) d.next under were children newest_is d.left_by
      (notes s some list h steps m at w place 0 [] name d.named (no_charge s.quota s.list w.top place d.next)))
      (handed_on (parts_open s some list h steps m at w (handed ∷ []) p (before ++ later) h.list.results) (hands_on parent [] (before ++ later) p result (parent ∷ []) handed refl is)
      (open_same s some list h steps m at w (handed ∷ []) p (before ++ later) waiting h.list.results h.list.results pool moved (IsPermutation-refl h.list.results)))
      takes

  -- the hall in which a kept result was handed over, which nobody sees
  abbrev hall_between : Thread → List Result → Hall
  hall_between handed results = hall_open s some list h steps m at w (handed ∷ w.under) w.period h.list.waiting results h.pool

  handed_stands : (before later results : List Result) (result : Result) (handed : Thread) → h.list.results ≡ before ++ result ∷ later → IsHanded w.top result handed
      → IsPermutation (before ++ later) results → HallStands s (hall_between handed results) steps m
  handed_stands before later results result handed were is moved = record {
    standing = handings_stand s some list (showing_of h) (showing_of (hall_between handed results)) (moves s.list (run_of steps)) m worker
        (record (parts_of h) { deques = own.lefts s h steps m at w ++ deque_with w.id.0 (Some worker) (handed ∷ w.under) ∷ own.rights s h steps m at w; results = before ++ later })
        at.standing (handed_over (parts_of h) worker (works s h steps m at w) before later result handed were is)
        (record { deques = same.deques; waiting = same.waiting; results = same.results; periods = same.periods ∙ sym (own.periods_were s h steps m at w) })
        (record { live = refl; begun = none_more h.list.begun; moves = refl });
    shape = record {
      lanes = open_lanes s some list h steps m at w (handed ∷ w.under) w.period;
      numbers = subst NumbersDiffer (sym periods) at.shape.numbers;
    };
    ran = subst (Each (RanBy steps)) (sym periods) at.ran;
    tagged = at.tagged;
  }
    where
      same : AreSame (parts_open s some list h steps m at w (handed ∷ w.under) w.period h.list.waiting (before ++ later)) (parts_of (hall_between handed results))
      same = open_same s some list h steps m at w (handed ∷ w.under) w.period h.list.waiting h.list.waiting (before ++ later) results h.pool (IsPermutation-refl h.list.waiting) moved

      periods : Parts.periods (parts_of (hall_between handed results)) ≡ Parts.periods (parts_of h)
      periods = same.periods ∙ sym (own.periods_were s h steps m at w)

      none_more : (n : ℕ) → n ≡ n + 0
      none_more n = omega arith

  -- there the worker is at work, with the thread that was handed the result on top
  abbrev at_work_between : (handed : Thread) (results : List Result) → IsAtWork (hall_between handed results) worker
  at_work_between handed results = record {
    left = w.left;
    id = w.id;
    right = w.right;
    top = handed;
    under = w.under;
    period = w.period;
    places_are = w.places_are;
    lane_is = lane_written h.lanes w.id (lane_with (handed ∷ w.under) (Some w.period)) (own.inside s h steps m at w);
  }

  pub join_kept_went : (seat place : ℕ) (name : ActionId) (before later results : List Result) (result : Result) (handed new : Thread) (words : ℕ) (pool : PoolShown)
      → h.list.results ≡ before ++ result ∷ later → IsHanded w.top result handed → DidJoin s.quota s.list handed new name words place
      → PoolTakes s.list place name h.pool pool → IsPermutation (before ++ later) results
      → Went s (hall_open s some list h steps m at w (new ∷ w.under) (noted w.period name words []) h.list.waiting results pool) steps m (step_of w seat (does place) (did name))
  join_kept_went seat place name before later results result handed new words pool were is d takes moved =
      subst (λ lanes. Went s (record { list = record h.list { results = results }; pool = pool; lanes = lanes }) steps m (step_of w seat (does place) (did name)))
      (written_twice h.lanes w.id.0 (lane_with (handed ∷ w.under) (Some w.period)) (lane_with (new ∷ w.under) (Some (noted w.period name words []))))
      (lane_actions_stand s some list (hall_between handed results) steps m seat worker (at_work_between handed results) place name (new ∷ w.under) words [] pool
      (handed_stands before later results result handed were is moved) (joins_handed new words d) takes)

pub ends_above_stand : (s : Setting) → 0 < s.quota → IsDepthFirst s.quota s.list → EndsAboveStand s
ends_above_stand s some list h steps m seat worker w place name parent handed below result pool at under d is takes =
    end_above_went s some list h steps m at w seat place name parent handed below result pool under d is takes

pub waking_ends_stand : (s : Setting) → 0 < s.quota → IsDepthFirst s.quota s.list → WakingEndsStand s
waking_ends_stand s some list h steps m seat worker w place name before later waiting parent handed newest older result pool at under were children newest_is d is takes moved =
    end_wakes_went s some list h steps m at w seat place name before later waiting parent handed newest older result pool under were children newest_is d is takes moved

pub kept_joins_stand : (s : Setting) → 0 < s.quota → IsDepthFirst s.quota s.list → KeptJoinsStand s
kept_joins_stand s some list h steps m seat worker w place name before later results result handed new words pool at were is d takes moved =
    join_kept_went s some list h steps m at w seat place name before later results result handed new words pool were is d takes moved
