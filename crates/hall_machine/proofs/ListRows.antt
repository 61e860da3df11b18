-- Events after which the worker's deque has no owner or is gone: its period is among the closed ones.
use Rattle.std.proofs.Common.{◌≡◌, ◌≢◌, ℕ, ◌+◌, ◌<◌, ◌≤◌, List, [], ◌∷◌, ◌++◌, refl, sym, ap, subst, ◌∙◌, arith, append-nil}
use Rattle.std.proofs.lemmas.Int.{ints}
use Rattle.std.specs.Prelude.{false, None, Some, ℤ, pos, ◌+ℤ◌}
use Rattle.std.proofs.lemmas.Option.{none-some}
use Rattle.std.specs.List.Sorted.{IsPermutation}
use Rattle.std.proofs.lemmas.List.Sorted.{IsPermutation-refl}
use Rattle.depth_first_list.specs.Passed.ActionId.{ActionId}
use Rattle.depth_first_list.specs.Actions.{Action, dummy, ends, joins, weight_of}
use Rattle.depth_first_list.specs.Facts.{label_at, words_at, weight_at}
use Rattle.depth_first_list.specs.Runs.{IsDepthFirst}
use Rattle.deque_machine.specs.Lists.{Each}
use Rattle.deque_machine.specs.Books.{charge, charge_at}
use Rattle.deque_machine.specs.Moments.{Moment}
use Rattle.deque_machine.specs.Machine.{Setting, does, suspends, gives_up}
use Rattle.deque_machine.specs.Runs.{moves, moves_words}
use Rattle.moment_laws.specs.Passed.Periods.{Period}
use Rattle.moment_laws.specs.Passed.Numbers.{NumbersDiffer}
use Rattle.moment_laws.specs.Passed.Tables.{noted, shut}
use Rattle.moment_laws.specs.Passed.Parts.{Child, Thread, Result, Parts}
use Rattle.moment_laws.specs.Passed.MomentShownEvents.{Does, runs_dummy, ends_and_leaves, Notes, Shuts, gives_up_deque, suspends_top, IsNextOf, name_of}
use Rattle.moment_laws.specs.Passed.ListChangesEvents.{DidDummy, DidEnd}
use Rattle.moment_laws.specs.Moves.{noted_if}
use Rattle.moment_laws.specs.Orders.{AreSame}
use Rattle.moment_laws.specs.Standing.{StandsAfter, Keeps, as_they_are}
use Rattle.moment_laws.proofs.Standing.{actions_stand, give_ups_stand, waits_stand}
use Rattle.hall_machine.specs.Values.{PoolShown, Hall, no_lane, parts_of, showing_of}
use Rattle.hall_machine.specs.Steps.{Step, did, gave_up, waited, run_of, name_told}
use Rattle.hall_machine.specs.Standing.{HallStands, IsInShape, RanBy, Went}
use Rattle.hall_machine.specs.Writing.{IsAtWork, written, list_unowned, list_without, lane_with, step_of, PoolTakes}
use Rattle.hall_machine.specs.Rows.{DummiesStand, GivingUpStands, SuspendingStands, LeavingEndsStand}
use Rattle.hall_machine.proofs.Own as own
use Rattle.hall_machine.proofs.Own.{deque_with, works, with_closed}
use Rattle.hall_machine.proofs.Going.{ran_on, went, number_within}
use Rattle.hall_machine.proofs.LaneRows.{counted, is_named, tells_it}

-- an End takes nothing of the quota
pub no_charge : (k : ℕ) (l : List Action) (x : Thread) (place : ℕ) → IsNextOf l x place ends → 0 ≡ charge_at k l place
no_charge k l x place next = sym (ap (λ d. charge k d (words_at l place)) next.does)

-- a Dummy leaves the pool as it was
dummy_takes : (l : List Action) (x : Thread) (place : ℕ) (name : ActionId) (pool : PoolShown) → IsNextOf l x place dummy → PoolTakes l place name pool pool
dummy_takes l x place name pool next = record {
  live = same_sum (pos pool.live) (weight_at l place) (ap (λ d. weight_of d (words_at l place)) next.does);
  move = record { by = name; change = weight_at l place };
  by = refl;
  change = refl;
  moves = sym (ap (λ b. pool.moves ++ noted_if b (record { by = name; change = weight_at l place }))
      (ap (λ d. moves_words d (label_at l place) (words_at l place)) next.does) ∙ append-nil pool.moves);
}
  where
    same_sum : (x w : ℤ) → w ≡ pos 0 → x ≡ x +ℤ w
    same_sum x w none = omega (arith, ints, none)

module _ (s : Setting) (some : 0 < s.quota) (list : IsDepthFirst s.quota s.list) (h : Hall) (steps : List Step) (m : Moment) (at : HallStands s h steps m) {worker : ℕ} (w : IsAtWork h worker) where
  -- the period with one action more, closed
  pub notes_closed : (place : ℕ) (name : ActionId) → name ≡ name_of w.top
      → Notes s.quota s.list (works s h steps m at w) place [] None (with_closed s h steps m at w (shut (noted w.period name 0 [])))
  notes_closed place name named = record {
    after = shut (noted w.period name 0 []);
    replaces = own.replaced_closed s h steps m at w (shut (noted w.period name 0 [])) refl;
    same_ahead = refl;
    owner_is = refl;
    ran = ap (λ n. w.period.ran ++ n ∷ []) named;
    born = refl;
    used = λ v owner. absurd (none-some v owner);
  }

  -- and closed as it was
  shuts : Shuts (works s h steps m at w) (with_closed s h steps m at w (shut w.period))
  shuts = record {
    after = shut w.period;
    replaces = own.replaced_closed s h steps m at w (shut w.period) refl;
    closes = record { same_ahead = refl; same_ran = refl; same_born = refl; is_closed = refl };
  }

  -- the hall in which the deque has no owner
  abbrev hall_unowned : Thread → Period → Hall
  hall_unowned top p = written w (list_unowned w p) h.pool (lane_with (top ∷ w.under) None)

  unowned_same : (top : Thread) (p : Period)
      → AreSame (record {
        deques = own.lefts s h steps m at w ++ deque_with w.id.0 None (top ∷ w.under) ∷ own.rights s h steps m at w;
        waiting = h.list.waiting;
        results = h.list.results;
        periods = with_closed s h steps m at w p;
      }) (parts_of (hall_unowned top p))
  unowned_same top p = record {
    deques = own.deques_with_it s h steps m at w (lane_with (top ∷ w.under) None) None;
    waiting = IsPermutation-refl h.list.waiting;
    results = IsPermutation-refl h.list.results;
    periods = own.periods_unowned s h steps m at w (top ∷ w.under) p;
  }

  unowned_shape : (top : Thread) (p : Period) → p.number ≡ w.period.number → IsInShape (hall_unowned top p)
  unowned_shape top p same = record {
    lanes = own.lanes_with_it s h steps m at w (lane_with (top ∷ w.under) None) None (λ v is. absurd (none-some v is));
    numbers = subst NumbersDiffer (sym (own.periods_unowned s h steps m at w (top ∷ w.under) p)) (own.closed_differ s h steps m at w p same);
  }

  -- the hall from which the deque is gone
  abbrev hall_without : Period → List Thread → List Result → PoolShown → Hall
  hall_without p ws rs pool = written w (record (list_without w p) { waiting = ws; results = rs }) pool no_lane

  without_same : (p : Period) (waiting ws : List Thread) (results rs : List Result) (pool : PoolShown) → IsPermutation waiting ws → IsPermutation results rs
      → AreSame (record {
        deques = own.lefts s h steps m at w ++ own.rights s h steps m at w;
        waiting = waiting;
        results = results;
        periods = with_closed s h steps m at w p;
      }) (parts_of (hall_without p ws rs pool))
  without_same p waiting ws results rs pool moved_waiting moved_results = record {
    deques = own.deques_without_it s h steps m at w no_lane;
    waiting = moved_waiting;
    results = moved_results;
    periods = own.periods_without s h steps m at w no_lane p;
  }

  without_shape : (p : Period) (ws : List Thread) (rs : List Result) (pool : PoolShown) → p.number ≡ w.period.number → IsInShape (hall_without p ws rs pool)
  without_shape p ws rs pool same = record {
    lanes = own.lanes_without_it s h steps m at w no_lane;
    numbers = subst NumbersDiffer (sym (own.periods_without s h steps m at w no_lane p)) (own.closed_differ s h steps m at w p same);
  }

  -- what each period ran, where this one is closed
  ran_closed : (step : Step) (p : Period) (now : List Period) → step.period ≡ w.period.number → p.number ≡ w.period.number → p.ran ≡ w.period.ran ++ name_told step.told
      → now ≡ with_closed s h steps m at w p → Each (RanBy (step ∷ steps)) now
  ran_closed step p now is same ran are = subst (Each (RanBy (step ∷ steps))) (sym are)
      (ran_on s h steps m at step (own.period_before s h steps m at w) p (with_closed s h steps m at w p) (own.replaced_closed s h steps m at w p same) is ran)

  within : w.period.number ≤ h.list.begun
  within = number_within s h steps m at (own.period_before s h steps m at w) (own.period_there s h steps m at w)

  same_begun : h.list.begun ≤ h.list.begun
  same_begun = omega arith

  none_more : (n : ℕ) → n ≡ n + 0
  none_more n = omega arith

  kept : (after : Hall) → after.pool ≡ h.pool → after.list.begun ≡ h.list.begun → Keeps (showing_of h) (showing_of after) 0
  kept after pool begun = record { live = ap (λ p. PoolShown.live p) pool; begun = begun ∙ none_more h.list.begun; moves = ap (λ p. PoolShown.moves p) pool }

  -- ---- Dummy

  pub dummy_went : (seat place : ℕ) (name : ActionId) (new : Thread) → DidDummy s.quota s.list w.top new name 0 place
      → Went s (hall_unowned new (shut (noted w.period name 0 []))) steps m (step_of w seat (does place) (did name))
  dummy_went seat place name new d =
      let p : Period = shut (noted w.period name 0 []) in
      let after : Hall = hall_unowned new p in
      let acts : Does s.quota s.list (parts_of h) worker place (record (parts_of h) { deques = own.lefts s h steps m at w ++ deque_with w.id.0 None (new ∷ w.under) ∷ own.rights s h steps m at w; periods = with_closed s h steps m at w p }) =
      runs_dummy (works s h steps m at w) new (with_closed s h steps m at w p) d.next d.acted d.children d.same_words (notes_closed place name d.named) in
      let stands : StandsAfter s (showing_of after) (moves s.list (run_of steps)) m worker (does place) =
      actions_stand s some list (showing_of h) (showing_of after) (moves s.list (run_of steps)) m worker place
      (record (parts_of h) { deques = own.lefts s h steps m at w ++ deque_with w.id.0 None (new ∷ w.under) ∷ own.rights s h steps m at w; periods = with_closed s h steps m at w p })
      name at.standing acts (as_they_are (unowned_same new p))
      (is_named s some list h steps m at w place dummy name d.next d.named) (counted s h after place name (dummy_takes s.list w.top place name h.pool d.next) refl) in
      went s h steps m at after (step_of w seat (does place) (did name)) stands (tells_it s some list h steps m at w place dummy name d.next d.named) (unowned_shape new p refl)
      (ran_closed (step_of w seat (does place) (did name)) p (Parts.periods (parts_of after)) refl refl refl (own.periods_unowned s h steps m at w (new ∷ w.under) p)) within same_begun

  -- ---- GiveUp

  pub gave_up_went : (seat : ℕ) → Went s (hall_unowned w.top (shut w.period)) steps m (step_of w seat gives_up (gave_up w.id.0))
  gave_up_went seat =
      let p : Period = shut w.period in
      let after : Hall = hall_unowned w.top p in
      let stands : StandsAfter s (showing_of after) (moves s.list (run_of steps)) m worker gives_up =
      give_ups_stand s some list (showing_of h) (showing_of after) (moves s.list (run_of steps)) m worker
      (record (parts_of h) { deques = own.lefts s h steps m at w ++ deque_with w.id.0 None (w.top ∷ w.under) ∷ own.rights s h steps m at w; periods = with_closed s h steps m at w p })
      at.standing (gives_up_deque (works s h steps m at w) (with_closed s h steps m at w p) shuts) (unowned_same w.top p) (kept after refl refl) in
      went s h steps m at after (step_of w seat gives_up (gave_up w.id.0)) stands (w.id.0, refl) (unowned_shape w.top p refl)
      (ran_closed (step_of w seat gives_up (gave_up w.id.0)) p (Parts.periods (parts_of after)) refl refl (sym (append-nil w.period.ran)) (own.periods_unowned s h steps m at w (w.top ∷ w.under) p)) within same_begun

  -- ---- Suspend

  pub suspended_went : (seat place : ℕ) (newest : Child) (older : List Child) (ws : List Thread) → IsNextOf s.list w.top place (joins newest.ordinal)
      → w.top.children ≡ newest ∷ older → newest.delivered ≡ false → Each (λ result. result.id ≢ newest.id) h.list.results → w.under ≡ []
      → IsPermutation (w.top ∷ h.list.waiting) ws
      → Went s (hall_without (shut w.period) ws h.list.results h.pool) steps m (step_of w seat suspends (waited w.top.id))
  suspended_went seat place newest older ws next children missing unkept under moved =
      let p : Period = shut w.period in
      let after : Hall = hall_without p ws h.list.results h.pool in
      let stands : StandsAfter s (showing_of after) (moves s.list (run_of steps)) m worker suspends =
      waits_stand s some list (showing_of h) (showing_of after) (moves s.list (run_of steps)) m worker
      (record (parts_of h) { deques = own.lefts s h steps m at w ++ own.rights s h steps m at w; waiting = w.top ∷ h.list.waiting; periods = with_closed s h steps m at w p })
      at.standing (suspends_top (works s h steps m at w) place newest older (with_closed s h steps m at w p) next children missing unkept under shuts)
      (without_same p (w.top ∷ h.list.waiting) ws h.list.results h.list.results h.pool moved (IsPermutation-refl h.list.results)) (kept after refl refl) in
      went s h steps m at after (step_of w seat suspends (waited w.top.id)) stands (w.top.id, refl) (without_shape p ws h.list.results h.pool refl)
      (ran_closed (step_of w seat suspends (waited w.top.id)) p (Parts.periods (parts_of after)) refl refl (sym (append-nil w.period.ran)) (own.periods_without s h steps m at w no_lane p)) within same_begun

  -- ---- an End for which nobody waits

  pub end_leaves_went : (seat place : ℕ) (name : ActionId) (result : Result) (rs : List Result) (pool : PoolShown) → w.under ≡ []
      → Each (λ x. (newest : Child) (older : List Child) → x.children ≡ newest ∷ older → w.top.parent ≡ Some x.id → newest.id ≢ w.top.id) h.list.waiting
      → DidEnd s.list w.top name place result → PoolTakes s.list place name h.pool pool → IsPermutation (result ∷ h.list.results) rs
      → Went s (hall_without (shut (noted w.period name 0 [])) h.list.waiting rs pool) steps m (step_of w seat (does place) (did name))
  end_leaves_went seat place name result rs pool under unwaited d takes moved =
      let p : Period = shut (noted w.period name 0 []) in
      let after : Hall = hall_without p h.list.waiting rs pool in
      let stands : StandsAfter s (showing_of after) (moves s.list (run_of steps)) m worker (does place) =
      actions_stand s some list (showing_of h) (showing_of after) (moves s.list (run_of steps)) m worker place
      (record (parts_of h) { deques = own.lefts s h steps m at w ++ own.rights s h steps m at w; results = result ∷ h.list.results; periods = with_closed s h steps m at w p })
      name at.standing (ends_and_leaves (works s h steps m at w) result (with_closed s h steps m at w p) d.next under unwaited d.left_by (notes_closed place name d.named))
      (as_they_are (without_same p h.list.waiting h.list.waiting (result ∷ h.list.results) rs pool (IsPermutation-refl h.list.waiting) moved))
      (is_named s some list h steps m at w place ends name d.next d.named) (counted s h after place name takes refl) in
      went s h steps m at after (step_of w seat (does place) (did name)) stands (tells_it s some list h steps m at w place ends name d.next d.named) (without_shape p h.list.waiting rs pool refl)
      (ran_closed (step_of w seat (does place) (did name)) p (Parts.periods (parts_of after)) refl refl refl (own.periods_without s h steps m at w no_lane p)) within same_begun

pub dummies_stand : (s : Setting) → 0 < s.quota → IsDepthFirst s.quota s.list → DummiesStand s
dummies_stand s some list h steps m seat worker w place name new at d = dummy_went s some list h steps m at w seat place name new d

pub giving_up_stands : (s : Setting) → 0 < s.quota → IsDepthFirst s.quota s.list → GivingUpStands s
giving_up_stands s some list h steps m seat worker w at = gave_up_went s some list h steps m at w seat

pub suspending_stands : (s : Setting) → 0 < s.quota → IsDepthFirst s.quota s.list → SuspendingStands s
suspending_stands s some list h steps m seat worker w place newest older waiting at next children missing unkept under moved =
    suspended_went s some list h steps m at w seat place newest older waiting next children missing unkept under moved

pub leaving_ends_stand : (s : Setting) → 0 < s.quota → IsDepthFirst s.quota s.list → LeavingEndsStand s
leaving_ends_stand s some list h steps m seat worker w place name result results pool at under unwaited d takes moved =
    end_leaves_went s some list h steps m at w seat place name result results pool under unwaited d takes moved
