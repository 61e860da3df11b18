-- What the top thread does in its own lane, while the list stays.
use Rattle.std.proofs.Common.{◌≡◌, ℕ, ◌+◌, ◌<◌, ◌≤◌, List, [], ◌∷◌, ◌++◌, map, refl, sym, ap, subst, ◌∙◌, arith}
use Rattle.std.specs.Prelude.{Some}
use Rattle.std.specs.List.Sorted.{IsPermutation}
use Rattle.std.proofs.lemmas.List.Sorted.{IsPermutation-refl}
use Rattle.depth_first_list.specs.Passed.ActionId.{ActionId}
use Rattle.depth_first_list.specs.Passed.Birth.{Birth}
use Rattle.depth_first_list.specs.Actions.{Deed}
use Rattle.depth_first_list.specs.Runs.{IsDepthFirst}
use Rattle.deque_machine.specs.Books.{charge_at}
use Rattle.deque_machine.specs.Lists.{Each}
use Rattle.deque_machine.specs.Moments.{Moment}
use Rattle.deque_machine.specs.Machine.{Setting, does}
use Rattle.deque_machine.specs.Runs.{moves}
use Rattle.moment_laws.specs.Passed.Periods.{Period}
use Rattle.moment_laws.specs.Passed.Names.{IsNamed}
use Rattle.moment_laws.specs.Passed.Numbers.{NumbersDiffer}
use Rattle.moment_laws.specs.Passed.Tables.{noted}
use Rattle.moment_laws.specs.Passed.Parts.{Thread, Result, Parts}
use Rattle.moment_laws.specs.Passed.MomentShownEvents.{Does, does_alone, joins_newest, forks_child, Notes, IsNextOf, name_of}
use Rattle.moment_laws.proofs.Passed.Placing as placing
use Rattle.moment_laws.specs.Orders.{AreSame}
use Rattle.moment_laws.specs.Standing.{StandsAfter, Counts, Settles, as_they_are}
use Rattle.moment_laws.proofs.Standing.{actions_stand}
use Rattle.hall_machine.specs.Values.{PoolShown, Hall, parts_of, showing_of, open_for}
use Rattle.hall_machine.specs.Steps.{Step, Tells, did, run_of}
use Rattle.hall_machine.specs.Standing.{HallStands, HasLane, Went}
use Rattle.hall_machine.specs.Writing.{IsAtWork, written, lane_with, step_of, PoolTakes, ActsInLane, acts_alone, joins_handed}
use Rattle.hall_machine.specs.Writing as writing
use Rattle.hall_machine.specs.Rows.{LaneActionsStand}
use Rattle.hall_machine.proofs.Own as own
use Rattle.hall_machine.proofs.Own.{deque_with, works, with_open}
use Rattle.hall_machine.proofs.Going.{ran_on, went, number_within}

-- the pool and the count of periods after an action
pub counted : (s : Setting) (before after : Hall) (place : ℕ) (name : ActionId) → PoolTakes s.list place name before.pool after.pool → after.list.begun ≡ before.list.begun
    → Counts s.list place name (showing_of before) (showing_of after)
counted s before after place name takes begun =
    record { live = takes.live; begun = begun; move = takes.move; by = takes.by; change = takes.change; moves = takes.moves }

module _ (s : Setting) (some : 0 < s.quota) (list : IsDepthFirst s.quota s.list) (h : Hall) (steps : List Step) (m : Moment) (at : HallStands s h steps m) {worker : ℕ} (w : IsAtWork h worker) where
  -- the action is that of its name
  pub is_named : (place : ℕ) (deed : Deed) (name : ActionId) → IsNextOf s.list w.top place deed → name ≡ name_of w.top → IsNamed s.list (Parts.periods (parts_of h)) name place
  is_named place deed name next named = subst (λ n. IsNamed s.list (Parts.periods (parts_of h)) n place) (sym named)
      (placing.named s list m at.standing.lawful (parts_of h) at.standing.shows worker (works s h steps m at w) place deed next)

  -- what is told is the action
  pub tells_it : (place : ℕ) (deed : Deed) (name : ActionId) → IsNextOf s.list w.top place deed → name ≡ name_of w.top → Tells s.list m (does place) w.period.number (did name)
  tells_it place deed name next named = (name, refl, next.index ∙ ap (λ n. ActionId.index n) (sym named))

  -- the period with one action more
  pub notes : (place words : ℕ) (births : List Birth) (name : ActionId) → name ≡ name_of w.top → words ≡ charge_at s.quota s.list place
      → Notes s.quota s.list (works s h steps m at w) place births (Some worker) (with_open s h steps m at w (open_for worker (noted w.period name words births)))
  notes place words births name named charged = record {
    after = open_for worker (noted w.period name words births);
    replaces = own.replaced_open s h steps m at w (open_for worker (noted w.period name words births)) refl;
    same_ahead = refl;
    owner_is = refl;
    ran = ap (λ n. w.period.ran ++ n ∷ []) named;
    born = refl;
    used = λ v owner. ap (λ n. w.period.used + n) charged;
  }

  -- the hall in which the lane has these threads, and its period is this one
  abbrev pub hall_open : List Thread → Period → List Thread → List Result → PoolShown → Hall
  hall_open threads p waiting results pool = written w (record h.list { waiting = waiting; results = results }) pool (lane_with threads (Some p))

  -- its parts
  abbrev pub parts_open : List Thread → Period → List Thread → List Result → Parts
  parts_open threads p waiting results = record {
    deques = own.lefts s h steps m at w ++ deque_with w.id.0 (Some worker) threads ∷ own.rights s h steps m at w;
    waiting = waiting;
    results = results;
    periods = with_open s h steps m at w (open_for worker p);
  }

  pub open_same : (threads : List Thread) (p : Period) (waiting ws : List Thread) (results rs : List Result) (pool : PoolShown) → IsPermutation waiting ws → IsPermutation results rs
      → AreSame (parts_open threads p waiting results) (parts_of (hall_open threads p ws rs pool))
  open_same threads p waiting ws results rs pool moved_waiting moved_results = record {
    deques = ap (map (Rattle.hall_machine.specs.Values.deque_at (own.lanes_now s h steps m at w (lane_with threads (Some p))))) w.places_are
        ∙ own.deques_with_it s h steps m at w (lane_with threads (Some p)) (Some worker);
    waiting = moved_waiting;
    results = moved_results;
    periods = own.periods_open s h steps m at w threads p;
  }

  -- the worker's deque still has its lane, in which a period runs
  pub open_lanes : (threads : List Thread) (p : Period) → Each (HasLane (own.lanes_now s h steps m at w (lane_with threads (Some p)))) h.list.places
  open_lanes threads p = subst (Each (HasLane (own.lanes_now s h steps m at w (lane_with threads (Some p))))) (sym w.places_are)
      (own.lanes_with_it s h steps m at w (lane_with threads (Some p)) (Some worker) (λ v is. (p, refl)))

  -- an action after which the period runs on
  pub acted_open : (seat place : ℕ) (deed : Deed) (name : ActionId) (threads : List Thread) (words : ℕ) (births : List Birth) (ws : List Thread) (rs : List Result) (pool : PoolShown) (next : Parts)
      → IsNextOf s.list w.top place deed → name ≡ name_of w.top → Does s.quota s.list (parts_of h) worker place next
      → Settles worker next (parts_of (hall_open threads (noted w.period name words births) ws rs pool)) → PoolTakes s.list place name h.pool pool
      → Went s (hall_open threads (noted w.period name words births) ws rs pool) steps m (step_of w seat (does place) (did name))
  acted_open seat place deed name threads words births ws rs pool next is_next named acts settles takes =
      let p : Period = noted w.period name words births in
      let after : Hall = hall_open threads p ws rs pool in
      let stands : StandsAfter s (showing_of after) (moves s.list (run_of steps)) m worker (does place) =
      actions_stand s some list (showing_of h) (showing_of after) (moves s.list (run_of steps)) m worker place next name at.standing acts settles
      (is_named place deed name is_next named) (counted s h after place name takes refl) in
      went s h steps m at after (step_of w seat (does place) (did name)) stands (tells_it place deed name is_next named)
      (record {
        lanes = open_lanes threads p;
        numbers = subst NumbersDiffer (sym (own.periods_open s h steps m at w threads p)) (own.open_differ s h steps m at w (open_for worker p) refl);
      })
      (subst (Each (Rattle.hall_machine.specs.Standing.RanBy (step_of w seat (does place) (did name) ∷ steps))) (sym (own.periods_open s h steps m at w threads p))
      (ran_on s h steps m at (step_of w seat (does place) (did name)) (own.period_before s h steps m at w) (open_for worker p) (with_open s h steps m at w (open_for worker p))
      (own.replaced_open s h steps m at w (open_for worker p) refl) refl refl))
      (number_within s h steps m at (own.period_before s h steps m at w) (own.period_there s h steps m at w))
      (same_begun h.list.begun)
    where
      same_begun : (n : ℕ) → n ≤ n
      same_begun n = omega arith

  pub alike : (threads : List Thread) (p : Period) (pool : PoolShown) → AreSame (parts_open threads p h.list.waiting h.list.results) (parts_of (hall_open threads p h.list.waiting h.list.results pool))
  alike threads p pool = open_same threads p h.list.waiting h.list.waiting h.list.results h.list.results pool (IsPermutation-refl h.list.waiting) (IsPermutation-refl h.list.results)

  lane_acted : (seat place : ℕ) (name : ActionId) (threads : List Thread) (words : ℕ) (births : List Birth) (pool : PoolShown)
      → ActsInLane s.quota s.list w place name threads words births → PoolTakes s.list place name h.pool pool
      → Went s (hall_open threads (noted w.period name words births) h.list.waiting h.list.results pool) steps m (step_of w seat (does place) (did name))
  lane_acted seat place name threads words births pool (acts_alone new taken d) takes =
      acted_open seat place d.deed name threads words births h.list.waiting h.list.results pool (parts_open threads (noted w.period name words births) h.list.waiting h.list.results)
      d.next d.named (does_alone (works s h steps m at w) d.deed new (with_open s h steps m at w (open_for worker (noted w.period name words births)))
      d.next d.may d.acted d.children d.weighs (notes place words births name d.named d.charged)) (as_they_are (alike threads (noted w.period name words births) pool)) takes
  lane_acted seat place name threads words births pool (joins_handed new taken d) takes =
      acted_open seat place (Rattle.depth_first_list.specs.Actions.joins d.newest.ordinal) name threads words births h.list.waiting h.list.results pool (parts_open threads (noted w.period name words births) h.list.waiting h.list.results)
      d.next d.named (joins_newest (works s h steps m at w) d.newest d.older new (with_open s h steps m at w (open_for worker (noted w.period name words births)))
      d.children_were d.given d.next d.acted d.children d.weighs (notes place words births name d.named d.charged)) (as_they_are (alike threads (noted w.period name words births) pool)) takes
  lane_acted seat place name threads words births pool (writing.forks_child new child taken ordinal d) takes =
      acted_open seat place (Rattle.depth_first_list.specs.Actions.forks ordinal) name threads words births h.list.waiting h.list.results pool (parts_open threads (noted w.period name words births) h.list.waiting h.list.results)
      d.next d.named (forks_child (works s h steps m at w) ordinal child.func new child (with_open s h steps m at w (open_for worker (noted w.period name words births)))
      d.next d.fits d.acted d.child_id d.child_parent d.child_label d.child_done refl d.child_children d.children d.sum (notes place words births name d.named d.charged)) (as_they_are (alike threads (noted w.period name words births) pool)) takes

pub lane_actions_stand : (s : Setting) → 0 < s.quota → IsDepthFirst s.quota s.list → LaneActionsStand s
lane_actions_stand s some list h steps m seat worker w place name threads words births pool at acts takes =
    lane_acted s some list h steps m at w seat place name threads words births pool acts takes
