-- What is known of a hall that stands: its run, its deques, and its books where nobody owns a deque.
use Rattle.std.proofs.Common.{◌≡◌, ◌≢◌, ℕ, List, [], ◌∷◌, ◌++◌, map, refl, sym, ap, subst, ◌∙◌, append-nil}
use Rattle.std.specs.Prelude.{None, Some}
use Rattle.deque_list.specs.declared.place.Place.{Place}
use Rattle.deque_machine.specs.Lists.{Each}
use Rattle.deque_machine.proofs.Lists.{each_at}
use Rattle.deque_machine.specs.Moments as machine
use Rattle.deque_machine.specs.Moments.{Moment, opening}
use Rattle.deque_machine.specs.Machine.{Setting, Event, gives_up, May}
use Rattle.deque_machine.specs.Play.{IsForced}
use Rattle.deque_machine.specs.Play as play
use Rattle.deque_machine.specs.Runs.{Pair, Reaches, moves}
use Rattle.moment_laws.specs.Passed.Periods.{Period}
use Rattle.moment_laws.specs.Passed.Telling.{Tell}
use Rattle.moment_laws.specs.Passed.Parts as parts
use Rattle.moment_laws.specs.Passed.Parts.{Thread}
use Rattle.moment_laws.specs.Passed.Shown.{deque_shown}
use Rattle.moment_laws.specs.Moves.{AreMovesOf}
use Rattle.hall_machine.specs.Values.{LaneShown, lane_at, deque_at, deque_of, the_thread, run_by, running}
use Rattle.hall_machine.specs.Steps.{run_of}
use Rattle.hall_machine.specs.Standing.{HasLane, NoneOfTheRunIsFree, DequesAreShown, ClosedIsARun}
use Rattle.hall_machine.specs.Writing.{place_of, lane_with, OwnersAreAtWork}
use Rattle.hall_machine.proofs.Going.{steps_are_a_run}

-- a run without a free give up goes on by an event that is none
free_on : (s : Setting) (run : List Pair) (first m after : Moment) (worker : ℕ) (event : Event) (reaches : Reaches s first run m) → May s m worker event after
    → play.NoneFree s first run m reaches → (event ≡ gives_up → IsForced s m worker)
    → (r : Reaches s first (run ++ record { worker = worker; event = event } ∷ []) after)
    × play.NoneFree s first (run ++ record { worker = worker; event = event } ∷ []) after r
free_on s [] first m after worker event reaches may free forced =
    ((after, subst (λ t. May s t worker event after) (sym reaches) may, refl), (λ is. subst (λ t. IsForced s t worker) (sym reaches) (forced is), tt))
free_on s (pair ∷ run) first m after worker event reaches may free forced =
    let on = free_on s run reaches.0 m after worker event reaches.2 may free.1 forced in ((reaches.0, reaches.1, on.0), (free.0, on.1))

pub none_of_the_run_is_free : (s : Setting) → NoneOfTheRunIsFree s
none_of_the_run_is_free s [] m leads free = (sym leads, tt)
none_of_the_run_is_free s (step ∷ earlier) m leads free =
    let before = none_of_the_run_is_free s earlier leads.0 leads.1 free.1 in
    free_on s (run_of earlier) opening leads.0 m step.worker step.event before.0 leads.2 before.1 free.0

the_same : (xs : List Thread) → map the_thread xs ≡ xs
the_same [] = refl
the_same (x ∷ xs) = ap (λ t. x ∷ t) (the_same xs)

-- a deque shows the same, whichever way it is held
deques_same : (lanes : List LaneShown) (places : List Place)
    → map parts.deque_shown (map (deque_at lanes) places) ≡ map parts.deque_shown (map (deque_shown the_thread) (map (deque_of lanes) places))
deques_same lanes [] = refl
deques_same lanes (place ∷ right) = λ i.
    parts.deque_shown (record { id = place.id.0; owner = place.owner; threads = sym (the_same (LaneShown.threads (lane_at lanes place.id))) i }) ∷ deques_same lanes right i

pub deques_are_shown : (s : Setting) → DequesAreShown s
deques_are_shown s h steps m at = at.standing.shows.deques ∙ deques_same h.lanes h.list.places

-- nothing runs where nobody owns a deque
nothing_runs : (lanes : List LaneShown) (places : List Place) → Each (λ place. place.owner ≡ None) places → running lanes places ≡ []
nothing_runs lanes [] none = refl
nothing_runs lanes (place ∷ right) none = λ i. run_by (none.0 i) (LaneShown.period (lane_at lanes place.id)) ++ nothing_runs lanes right none.1 i

pub closed_is_a_run : (s : Setting) → ClosedIsARun s
closed_is_a_run s h steps m leads at none =
    let are : h.list.closed ++ running h.lanes h.list.places ≡ h.list.closed =
    ap (λ t. h.list.closed ++ t) (nothing_runs h.lanes h.list.places none) ∙ append-nil h.list.closed in (
      steps_are_a_run s steps m leads,
      subst (λ ps. Tell s.quota s.list ps m.books) are at.standing.shows.books,
      subst (λ ps. AreMovesOf ps h.pool.moves (moves s.list (run_of steps))) are at.standing.moves,
    )

-- ---- who owns a deque is at work

none_empty : (lanes : List LaneShown) (places : List Place) → Each (λ deque. machine.Deque.threads deque ≢ []) (map parts.deque_shown (map (deque_at lanes) places))
    → Each (λ place. LaneShown.threads (lane_at lanes place.id) ≢ []) places
none_empty lanes [] all = tt
none_empty lanes (place ∷ right) all = ((λ none. all.0 (ap (map parts.label_of) none)), none_empty lanes right all.1)

-- a lane with a thread on top, in which a period runs
cut_lane : (lane : LaneShown) (threads : List Thread) (p : Period) → lane.threads ≡ threads → lane.period ≡ Some p → lane.threads ≢ []
    → (top : Thread) × (under : List Thread) × (lane ≡ lane_with (top ∷ under) (Some p))
cut_lane lane [] p are runs some = absurd (some are)
cut_lane lane (top ∷ under) p are runs some = (top, under, λ i. record { threads = are i; period = runs i })

pub owners_are_at_work : (s : Setting) → OwnersAreAtWork s
owners_are_at_work s h steps m at left right id worker are =
    let here : Place = place_of id (Some worker) in
    let has : HasLane h.lanes here = each_at (HasLane h.lanes) left here right (subst (Each (HasLane h.lanes)) are at.shape.lanes) in
    let run = has.runs worker refl in
    let filled = none_empty h.lanes h.list.places (subst (Each (λ deque. machine.Deque.threads deque ≢ [])) at.standing.shows.deques at.standing.lawful.order.none_empty) in
    let some : LaneShown.threads (lane_at h.lanes id) ≢ [] =
    each_at (λ place. LaneShown.threads (lane_at h.lanes place.id) ≢ []) left here right (subst (Each (λ place. LaneShown.threads (lane_at h.lanes place.id) ≢ [])) are filled) in
    let cut = cut_lane (lane_at h.lanes id) (LaneShown.threads (lane_at h.lanes id)) run.0 refl run.1 some in (
      record { left = left; id = id; right = right; top = cut.0; under = cut.1; period = run.0; places_are = are; lane_is = cut.2 },
      refl,
    )
