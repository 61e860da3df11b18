-- A deque without an owner that holds one thread is taken over.
use Rattle.std.proofs.Common.{◌≡◌, ℕ, suc, ◌<◌, Bool, List, [], ◌∷◌, ◌++◌, map, length, refl, sym, ap, subst, ◌∙◌, arith, append_assoc, length-set}
use Rattle.std.specs.Prelude.{nat_lt, None, Some, slice_set}
use Rattle.std.proofs.lemmas.List.{map-append, length-map}
use Rattle.std.proofs.lemmas.List.Sorted.{IsPermutation-refl}
use Rattle.deque_list.specs.declared.deque_id.DequeId.{DequeId}
use Rattle.deque_list.specs.declared.place.Place.{Place}
use Rattle.depth_first_list.specs.Runs.{IsDepthFirst}
use Rattle.deque_machine.specs.Lists.{Each}
use Rattle.deque_machine.proofs.Lists.{each_left, each_right, each_join, each_at}
use Rattle.deque_machine.specs.Moments.{Moment}
use Rattle.deque_machine.specs.Machine.{Setting, steals}
use Rattle.deque_machine.specs.Runs.{moves}
use Rattle.moment_laws.specs.Passed.Periods.{Period}
use Rattle.moment_laws.specs.Passed.Parts.{Thread, Parts}
use Rattle.moment_laws.specs.Passed.MomentShownEvents.{Steals, takes_over}
use Rattle.moment_laws.proofs.Standing.{thefts_stand}
use Rattle.hall_machine.specs.Values.{LaneShown, Hall, lane_at, deque_at, run_by, running, parts_of, showing_of}
use Rattle.hall_machine.specs.Steps.{Step, stole, run_of}
use Rattle.hall_machine.specs.Standing.{HallStands, HasLane, Went}
use Rattle.hall_machine.specs.Writing.{place_of, lane_with, new_period}
use Rattle.hall_machine.specs.Rows.{MaySteal, list_stolen, TakingOverStands}
use Rattle.hall_machine.proofs.Own.{deque_with}
use Rattle.hall_machine.proofs.Lanes.{IsElsewhere, apart, lane_written, deques_beside, running_beside, lanes_beside, running_append}
use Rattle.hall_machine.proofs.Stealing.{unowned, begins, theft_went, theft_keeps}

module _ (s : Setting) (some : 0 < s.quota) (list : IsDepthFirst s.quota s.list) (h : Hall) (steps : List Step) (m : Moment) (at : HallStands s h steps m) (worker : ℕ)
    (left right : List Place) (id : DequeId) (thread : Thread) (may : MaySteal s.workers h worker left) (are : h.list.places ≡ left ++ place_of id None ∷ right)
    (holds : LaneShown.threads (lane_at h.lanes id) ≡ thread ∷ []) where
  beside_it : Each (IsElsewhere id.0) (left ++ right)
  beside_it = apart s h m at.standing.lawful at.standing.shows left (place_of id None) right are

  had_lanes : Each (HasLane h.lanes) (left ++ place_of id None ∷ right)
  had_lanes = subst (Each (HasLane h.lanes)) are at.shape.lanes

  was_inside : id.0 < length h.lanes
  was_inside = (each_at (HasLane h.lanes) left (place_of id None) right had_lanes).inside

  abbrev ahead : Bool
  ahead = nat_lt 0 (length left)

  abbrev lane : LaneShown
  lane = lane_with (thread ∷ []) (Some (new_period worker ahead (suc h.list.begun)))

  abbrev after : Hall
  after = record { list = list_stolen h.list (left ++ place_of id (Some worker) ∷ right); pool = h.pool; lanes = slice_set h.lanes id.0 lane }

  lane_now : lane_at after.lanes id ≡ lane
  lane_now = lane_written h.lanes id lane was_inside

  left_beside : Each (IsElsewhere id.0) left
  left_beside = each_left (IsElsewhere id.0) left right beside_it

  right_beside : Each (IsElsewhere id.0) right
  right_beside = each_right (IsElsewhere id.0) left right beside_it

  abbrev front : List Period
  front = h.list.closed ++ running h.lanes left

  were : h.list.closed ++ running h.lanes h.list.places ≡ front ++ running h.lanes right
  were = ap (λ ps. h.list.closed ++ running h.lanes ps) are ∙ ap (λ t. h.list.closed ++ t) (running_append h.lanes left (place_of id None ∷ right))
      ∙ sym (append_assoc h.list.closed (running h.lanes left) (running h.lanes right))

  periods_now : Parts.periods (parts_of after) ≡ front ++ new_period worker ahead (suc h.list.begun) ∷ running h.lanes right
  periods_now = ap (λ t. h.list.closed ++ t) (running_append after.lanes left (place_of id (Some worker) ∷ right)
      ∙ (λ i. running_beside h.lanes id lane left left_beside i
      ++ (run_by (Some worker) (LaneShown.period (lane_now i)) ++ running_beside h.lanes id lane right right_beside i)))
      ∙ sym (append_assoc h.list.closed (running h.lanes left) (new_period worker ahead (suc h.list.begun) ∷ running h.lanes right))

  deques_were : map (deque_at h.lanes) h.list.places ≡ map (deque_at h.lanes) left ++ deque_with id.0 None (thread ∷ []) ∷ map (deque_at h.lanes) right
  deques_were = ap (map (deque_at h.lanes)) are ∙ map-append (deque_at h.lanes) left (place_of id None ∷ right)
      ∙ (λ i. map (deque_at h.lanes) left ++ deque_with id.0 None (holds i) ∷ map (deque_at h.lanes) right)

  deques_now : map (deque_at after.lanes) (left ++ place_of id (Some worker) ∷ right)
      ≡ map (deque_at h.lanes) left ++ deque_with id.0 (Some worker) (thread ∷ []) ∷ map (deque_at h.lanes) right
  deques_now = map-append (deque_at after.lanes) left (place_of id (Some worker) ∷ right)
      ∙ (λ i. deques_beside h.lanes id lane left left_beside i ++ deque_with id.0 (Some worker) (LaneShown.threads (lane_now i)) ∷ deques_beside h.lanes id lane right right_beside i)

  lanes_now : Each (HasLane after.lanes) (left ++ place_of id (Some worker) ∷ right)
  lanes_now = each_join (HasLane after.lanes) left (place_of id (Some worker) ∷ right)
      (lanes_beside h.lanes id lane left left_beside (each_left (HasLane h.lanes) left (place_of id None ∷ right) had_lanes)) (
        record {
          inside = let was = was_inside in let long = length-set h.lanes id.0 lane in omega (arith, was, long);
          runs = λ v is. (new_period worker ahead (suc h.list.begun), ap (λ t. LaneShown.period t) lane_now);
        },
        lanes_beside h.lanes id lane right right_beside (each_right (HasLane h.lanes) left (place_of id None ∷ right) had_lanes).1,
      )

  same_places : length (map (deque_at h.lanes) left) ≡ length left
  same_places = length-map left (deque_at h.lanes)

  abbrev stolen : ℕ → Parts
  stolen n = record (parts_of h) {
    deques = map (deque_at h.lanes) left ++ deque_with id.0 (Some worker) (thread ∷ []) ∷ map (deque_at h.lanes) right;
    periods = front ++ new_period worker (nat_lt 0 n) (suc h.list.begun) ∷ running h.lanes right;
  }

  theft : Steals s.workers h.list.begun (parts_of h) worker (length left) id.0 (stolen (length left))
  theft = subst (λ n. Steals s.workers h.list.begun (parts_of h) worker n id.0 (stolen n)) same_places
      (takes_over (map (deque_at h.lanes) left) (map (deque_at h.lanes) right) thread id.0 (stolen (length (map (deque_at h.lanes) left))).periods may.is_worker
      (unowned h.lanes worker h.list.places may.owns_none) (let reach = may.in_reach in let long = same_places in omega (arith, reach, long)) deques_were
      (begins s some list h steps m at worker (nat_lt 0 (length (map (deque_at h.lanes) left))) front (running h.lanes right) were))

  pub took_over : (seat : ℕ) → Went s after steps m (record { seat = seat; worker = worker; period = suc h.list.begun; event = steals (length left) id.0; told = stole id.0 (suc h.list.begun) })
  took_over seat = theft_went s some list h steps m at worker seat id.0 left ahead front (running h.lanes right) after were periods_now refl lanes_now
      (thefts_stand s some list (showing_of h) (showing_of after) (moves s.list (run_of steps)) m worker (length left) id.0 (stolen (length left)) at.standing theft
      (record { deques = deques_now; waiting = IsPermutation-refl h.list.waiting; results = IsPermutation-refl h.list.results; periods = periods_now })
      (theft_keeps s some list h steps m at worker after refl refl))

pub taking_over_stands : (s : Setting) → 0 < s.quota → IsDepthFirst s.quota s.list → TakingOverStands s
taking_over_stands s some list h steps m seat worker left right id thread at may are holds = took_over s some list h steps m at worker left right id thread may are holds seat
