-- The worker's own deque in the middle: the deques and the periods before and after its lane is written.
use Rattle.std.proofs.Common.{◌≡◌, ℕ, ◌<◌, List, [], ◌∷◌, ◌++◌, map, length, refl, sym, ap, subst, ◌∙◌, append_assoc, arith, length-set}
use Rattle.std.specs.Prelude.{Option, None, Some, slice_set}
use Rattle.std.proofs.lemmas.List.{map-append}
use Rattle.deque_list.specs.declared.place.Place.{Place}
use Rattle.deque_machine.specs.Lists.{Among, Each}
use Rattle.deque_machine.proofs.Lists.{each_left, each_right, each_join, each_at, among_here}
use Rattle.deque_machine.specs.Moments.{Moment}
use Rattle.deque_machine.specs.Machine.{Setting}
use Rattle.moment_laws.specs.Passed.Periods.{Period, Replaces}
use Rattle.moment_laws.specs.Passed.Numbers.{NumbersDiffer}
use Rattle.moment_laws.proofs.Passed.Lists.{changed, changed_differ, moved, moved_differ}
use Rattle.moment_laws.specs.Passed.Parts.{Thread, Deque, Parts}
use Rattle.moment_laws.specs.Passed.MomentShownEvents.{Works}
use Rattle.hall_machine.specs.Values.{LaneShown, Hall, lane_at, deque_at, open_for, run_by, running, parts_of}
use Rattle.hall_machine.specs.Steps.{Step}
use Rattle.hall_machine.specs.Standing.{HasLane, HallStands}
use Rattle.hall_machine.specs.Writing.{place_of, lane_with, IsAtWork}
use Rattle.hall_machine.proofs.Lanes.{IsElsewhere, apart, lane_written, deques_beside, running_beside, lanes_beside, running_append}

abbrev pub deque_with : ℕ → Option ℕ → List Thread → Deque
deque_with id owner threads = record { id = id; owner = owner; threads = threads }

module _ (s : Setting) (h : Hall) (steps : List Step) (m : Moment) (at : HallStands s h steps m) {worker : ℕ} (w : IsAtWork h worker) where
  abbrev pub here : Place
  here = place_of w.id (Some worker)

  pub beside : Each (IsElsewhere w.id.0) (w.left ++ w.right)
  beside = apart s h m at.standing.lawful at.standing.shows w.left here w.right w.places_are

  left_beside : Each (IsElsewhere w.id.0) w.left
  left_beside = each_left (IsElsewhere w.id.0) w.left w.right beside

  right_beside : Each (IsElsewhere w.id.0) w.right
  right_beside = each_right (IsElsewhere w.id.0) w.left w.right beside

  have_lanes : Each (HasLane h.lanes) (w.left ++ here ∷ w.right)
  have_lanes = subst (Each (HasLane h.lanes)) w.places_are at.shape.lanes

  pub inside : w.id.0 < length h.lanes
  inside = (each_at (HasLane h.lanes) w.left here w.right have_lanes).inside

  abbrev pub lefts : List Deque
  lefts = map (deque_at h.lanes) w.left

  abbrev pub rights : List Deque
  rights = map (deque_at h.lanes) w.right

  -- ---- before

  abbrev pub period_before : Period
  period_before = open_for worker w.period

  pub deques_were : map (deque_at h.lanes) h.list.places ≡ lefts ++ deque_with w.id.0 (Some worker) (w.top ∷ w.under) ∷ rights
  deques_were = ap (map (deque_at h.lanes)) w.places_are ∙ map-append (deque_at h.lanes) w.left (here ∷ w.right)
      ∙ ap (λ lane. lefts ++ deque_with w.id.0 (Some worker) (LaneShown.threads lane) ∷ rights) w.lane_is

  -- the periods with this one in the middle
  abbrev pub with_open : Period → List Period
  with_open p = (h.list.closed ++ running h.lanes w.left) ++ p ∷ running h.lanes w.right

  pub periods_were : h.list.closed ++ running h.lanes h.list.places ≡ with_open period_before
  periods_were = ap (λ ps. h.list.closed ++ running h.lanes ps) w.places_are
      ∙ ap (λ t. h.list.closed ++ t) (running_append h.lanes w.left (here ∷ w.right)
      ∙ ap (λ lane. running h.lanes w.left ++ (run_by (Some worker) (LaneShown.period lane) ++ running h.lanes w.right)) w.lane_is)
      ∙ sym (append_assoc h.list.closed (running h.lanes w.left) (period_before ∷ running h.lanes w.right))

  pub numbers_were : NumbersDiffer (with_open period_before)
  numbers_were = subst NumbersDiffer periods_were at.shape.numbers

  pub period_there : Among period_before (Parts.periods (parts_of h))
  period_there = subst (Among period_before) (sym periods_were) (among_here period_before (h.list.closed ++ running h.lanes w.left) (running h.lanes w.right))

  abbrev pub works : Works (parts_of h) worker
  works = record {
    left = lefts;
    id = w.id.0;
    top = w.top;
    under = w.under;
    right = rights;
    period = period_before;
    deques_are = deques_were;
    period_there = period_there;
    open_for_it = refl;
  }

  -- ---- the lane is written

  module _ (lane : LaneShown) where
    abbrev pub lanes_now : List LaneShown
    lanes_now = slice_set h.lanes w.id.0 lane

    lane_now : lane_at lanes_now w.id ≡ lane
    lane_now = lane_written h.lanes w.id lane inside

    -- the place stays, with an owner or none
    pub deques_with_it : (owner : Option ℕ) → map (deque_at lanes_now) (w.left ++ place_of w.id owner ∷ w.right) ≡ lefts ++ deque_with w.id.0 owner lane.threads ∷ rights
    deques_with_it owner = map-append (deque_at lanes_now) w.left (place_of w.id owner ∷ w.right)
        ∙ (λ i. deques_beside h.lanes w.id lane w.left left_beside i
        ++ deque_with w.id.0 owner (LaneShown.threads (lane_now i)) ∷ deques_beside h.lanes w.id lane w.right right_beside i)

    pub running_with_it : (owner : Option ℕ) → running lanes_now (w.left ++ place_of w.id owner ∷ w.right)
        ≡ running h.lanes w.left ++ (run_by owner lane.period ++ running h.lanes w.right)
    running_with_it owner = running_append lanes_now w.left (place_of w.id owner ∷ w.right)
        ∙ (λ i. running_beside h.lanes w.id lane w.left left_beside i
        ++ (run_by owner (LaneShown.period (lane_now i)) ++ running_beside h.lanes w.id lane w.right right_beside i))

    pub lanes_with_it : (owner : Option ℕ) → ((v : ℕ) → owner ≡ Some v → (p : Period) × (lane.period ≡ Some p))
        → Each (HasLane lanes_now) (w.left ++ place_of w.id owner ∷ w.right)
    lanes_with_it owner runs = each_join (HasLane lanes_now) w.left (place_of w.id owner ∷ w.right)
        (lanes_beside h.lanes w.id lane w.left left_beside (each_left (HasLane h.lanes) w.left (here ∷ w.right) have_lanes)) (
          record {
            inside = let was = inside in let long = length-set h.lanes w.id.0 lane in omega (arith, was, long);
            runs = λ v is. let run = runs v is in (run.0, ap (λ t. LaneShown.period t) lane_now ∙ run.1);
          },
          lanes_beside h.lanes w.id lane w.right right_beside (each_right (HasLane h.lanes) w.left (here ∷ w.right) have_lanes).1,
        )

    -- the place goes
    pub deques_without_it : map (deque_at lanes_now) (w.left ++ w.right) ≡ lefts ++ rights
    deques_without_it = deques_beside h.lanes w.id lane (w.left ++ w.right) beside ∙ map-append (deque_at h.lanes) w.left w.right

    pub running_without_it : running lanes_now (w.left ++ w.right) ≡ running h.lanes w.left ++ running h.lanes w.right
    running_without_it = running_beside h.lanes w.id lane (w.left ++ w.right) beside ∙ running_append h.lanes w.left w.right

    pub lanes_without_it : Each (HasLane lanes_now) (w.left ++ w.right)
    lanes_without_it = lanes_beside h.lanes w.id lane (w.left ++ w.right) beside
        (each_join (HasLane h.lanes) w.left w.right (each_left (HasLane h.lanes) w.left (here ∷ w.right) have_lanes)
        (each_right (HasLane h.lanes) w.left (here ∷ w.right) have_lanes).1)

  -- ---- the period changes where it runs, or is closed

  pub replaced_open : (p : Period) → p.number ≡ w.period.number → Replaces (Parts.periods (parts_of h)) period_before p (with_open p)
  replaced_open p same = subst (λ ps. Replaces ps period_before p (with_open p)) (sym periods_were)
      (changed (h.list.closed ++ running h.lanes w.left) period_before p (running h.lanes w.right) same numbers_were)

  pub open_differ : (p : Period) → p.number ≡ w.period.number → NumbersDiffer (with_open p)
  open_differ p same = changed_differ (h.list.closed ++ running h.lanes w.left) period_before p (running h.lanes w.right) same numbers_were

  abbrev pub with_closed : Period → List Period
  with_closed p = h.list.closed ++ p ∷ (running h.lanes w.left ++ running h.lanes w.right)

  pub replaced_closed : (p : Period) → p.number ≡ w.period.number → Replaces (Parts.periods (parts_of h)) period_before p (with_closed p)
  replaced_closed p same = subst (λ ps. Replaces ps period_before p (with_closed p)) (sym periods_were)
      (moved h.list.closed (running h.lanes w.left) period_before p (running h.lanes w.right) same numbers_were)

  pub closed_differ : (p : Period) → p.number ≡ w.period.number → NumbersDiffer (with_closed p)
  closed_differ p same = moved_differ h.list.closed (running h.lanes w.left) period_before p (running h.lanes w.right) same numbers_were

  -- so the periods afterwards
  pub periods_open : (threads : List Thread) (p : Period) → h.list.closed ++ running (lanes_now (lane_with threads (Some p))) h.list.places ≡ with_open (open_for worker p)
  periods_open threads p = ap (λ ps. h.list.closed ++ running (lanes_now (lane_with threads (Some p))) ps) w.places_are
      ∙ ap (λ t. h.list.closed ++ t) (running_with_it (lane_with threads (Some p)) (Some worker))
      ∙ sym (append_assoc h.list.closed (running h.lanes w.left) (open_for worker p ∷ running h.lanes w.right))

  pub periods_unowned : (threads : List Thread) (p : Period)
      → (h.list.closed ++ p ∷ []) ++ running (lanes_now (lane_with threads None)) (w.left ++ place_of w.id None ∷ w.right) ≡ with_closed p
  periods_unowned threads p = ap (λ t. (h.list.closed ++ p ∷ []) ++ t) (running_with_it (lane_with threads None) None)
      ∙ append_assoc h.list.closed (p ∷ []) (running h.lanes w.left ++ running h.lanes w.right)

  pub periods_without : (lane : LaneShown) (p : Period) → (h.list.closed ++ p ∷ []) ++ running (lanes_now lane) (w.left ++ w.right) ≡ with_closed p
  periods_without lane p = ap (λ t. (h.list.closed ++ p ∷ []) ++ t) (running_without_it lane)
      ∙ append_assoc h.list.closed (p ∷ []) (running h.lanes w.left ++ running h.lanes w.right)
