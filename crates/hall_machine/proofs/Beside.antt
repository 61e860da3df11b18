-- A theft from a deque that keeps other threads, into a new deque to the right of it.
use Rattle.std.proofs.Common.{◌≡◌, ◌≢◌, ℕ, suc, ◌<◌, true, List, [], ◌∷◌, ◌++◌, map, length, refl, sym, ap, subst, ◌∙◌, arith, append_assoc, length-set}
use Rattle.std.specs.Prelude.{Option, Some, slice_set}
use Rattle.std.proofs.lemmas.List.{map-append, length-map}
use Rattle.std.proofs.lemmas.List.Sorted.{IsPermutation-refl}
use Rattle.deque_list.specs.declared.deque_id.DequeId.{DequeId}
use Rattle.deque_list.specs.declared.place.Place.{Place}
use Rattle.depth_first_list.specs.Runs.{IsDepthFirst}
use Rattle.deque_machine.specs.Lists.{Each}
use Rattle.deque_machine.proofs.Lists.{each_left, each_right, each_join, each_at}
use Rattle.deque_machine.specs.Moments.{Moment}
use Rattle.deque_machine.specs.Machine.{Setting, steals}
use Rattle.deque_machine.specs.Runs.{moves}
use Rattle.moment_laws.specs.Passed.Periods.{Period}
use Rattle.moment_laws.specs.Passed.Parts.{Thread, Parts}
use Rattle.moment_laws.specs.Passed.MomentShownEvents.{Steals, steals_beside}
use Rattle.moment_laws.proofs.Standing.{thefts_stand}
use Rattle.hall_machine.specs.Values.{LaneShown, Hall, lane_at, deque_at, run_by, running, parts_of, showing_of}
use Rattle.hall_machine.specs.Steps.{Step, stole, run_of}
use Rattle.hall_machine.specs.Standing.{HallStands, HasLane, Went}
use Rattle.hall_machine.specs.Writing.{place_of, lane_with, new_period}
use Rattle.hall_machine.specs.Rows.{MaySteal, list_stolen, TheftsBesideStand}
use Rattle.hall_machine.proofs.Own.{deque_with}
use Rattle.hall_machine.proofs.Lanes.{IsElsewhere, apart, lane_written, lane_beside, deques_beside, running_beside, lanes_beside, running_append}
use Rattle.hall_machine.proofs.Stealing.{unowned, free_among, begins, theft_went, theft_keeps}

module _ (s : Setting) (some : 0 < s.quota) (list : IsDepthFirst s.quota s.list) (h : Hall) (steps : List Step) (m : Moment) (at : HallStands s h steps m) (worker : ℕ)
    (left right : List Place) (victim : Place) (id : DequeId) (first bottom : Thread) (others : List Thread) (runs_there : Option Period) (may : MaySteal s.workers h worker left)
    (are : h.list.places ≡ left ++ victim ∷ right) (lane_is : lane_at h.lanes victim.id ≡ lane_with (first ∷ (others ++ bottom ∷ [])) runs_there)
    (free : Each (IsElsewhere id.0) h.list.places) (room : id.0 < length h.lanes) where
  beside_victim : Each (IsElsewhere victim.id.0) (left ++ right)
  beside_victim = apart s h m at.standing.lawful at.standing.shows left victim right are

  free_there : Each (IsElsewhere id.0) (left ++ victim ∷ right)
  free_there = subst (Each (IsElsewhere id.0)) are free

  had_lanes : Each (HasLane h.lanes) (left ++ victim ∷ right)
  had_lanes = subst (Each (HasLane h.lanes)) are at.shape.lanes

  victim_apart : victim.id.0 ≢ id.0
  victim_apart = each_at (IsElsewhere id.0) left victim right free_there

  abbrev kept_lane : LaneShown
  kept_lane = lane_with (first ∷ others) runs_there

  abbrev new_lane : LaneShown
  new_lane = lane_with (bottom ∷ []) (Some (new_period worker true (suc h.list.begun)))

  abbrev between : List LaneShown
  between = slice_set h.lanes victim.id.0 kept_lane

  abbrev after : Hall
  after = record {
    list = list_stolen h.list (left ++ victim ∷ place_of id (Some worker) ∷ right);
    pool = h.pool;
    lanes = slice_set between id.0 new_lane;
  }

  was_inside : victim.id.0 < length h.lanes
  was_inside = (each_at (HasLane h.lanes) left victim right had_lanes).inside

  room_between : id.0 < length between
  room_between = let had = room in let long = length-set h.lanes victim.id.0 kept_lane in omega (arith, had, long)

  victim_now : lane_at after.lanes victim.id ≡ kept_lane
  victim_now = lane_beside between id victim.id new_lane victim_apart ∙ lane_written h.lanes victim.id kept_lane was_inside

  new_now : lane_at after.lanes id ≡ new_lane
  new_now = lane_written between id new_lane room_between

  -- what is beside both
  module _ (places : List Place) (off_victim : Each (IsElsewhere victim.id.0) places) (off_new : Each (IsElsewhere id.0) places) where
    deques_stay : map (deque_at after.lanes) places ≡ map (deque_at h.lanes) places
    deques_stay = deques_beside between id new_lane places off_new ∙ deques_beside h.lanes victim.id kept_lane places off_victim

    running_stays : running after.lanes places ≡ running h.lanes places
    running_stays = running_beside between id new_lane places off_new ∙ running_beside h.lanes victim.id kept_lane places off_victim

    lanes_stay : Each (HasLane h.lanes) places → Each (HasLane after.lanes) places
    lanes_stay have = lanes_beside between id new_lane places off_new (lanes_beside h.lanes victim.id kept_lane places off_victim have)

  left_off : Each (IsElsewhere victim.id.0) left
  left_off = each_left (IsElsewhere victim.id.0) left right beside_victim

  right_off : Each (IsElsewhere victim.id.0) right
  right_off = each_right (IsElsewhere victim.id.0) left right beside_victim

  left_free : Each (IsElsewhere id.0) left
  left_free = each_left (IsElsewhere id.0) left (victim ∷ right) free_there

  right_free : Each (IsElsewhere id.0) right
  right_free = (each_right (IsElsewhere id.0) left (victim ∷ right) free_there).1

  abbrev front : List Period
  front = (h.list.closed ++ running h.lanes left) ++ run_by victim.owner runs_there

  -- what runs in the middle, beside closed periods and what runs left and right
  in_front : (right_of : List Period) → h.list.closed ++ (running h.lanes left ++ (run_by victim.owner runs_there ++ right_of)) ≡ front ++ right_of
  in_front right_of = sym (append_assoc h.list.closed (running h.lanes left) (run_by victim.owner runs_there ++ right_of))
      ∙ sym (append_assoc (h.list.closed ++ running h.lanes left) (run_by victim.owner runs_there) right_of)

  were : h.list.closed ++ running h.lanes h.list.places ≡ front ++ running h.lanes right
  were = ap (λ ps. h.list.closed ++ running h.lanes ps) are
      ∙ ap (λ t. h.list.closed ++ t) (running_append h.lanes left (victim ∷ right)
      ∙ ap (λ lane. running h.lanes left ++ (run_by victim.owner (LaneShown.period lane) ++ running h.lanes right)) lane_is)
      ∙ in_front (running h.lanes right)

  periods_now : Parts.periods (parts_of after) ≡ front ++ new_period worker true (suc h.list.begun) ∷ running h.lanes right
  periods_now = ap (λ t. h.list.closed ++ t) (running_append after.lanes left (victim ∷ place_of id (Some worker) ∷ right)
      ∙ (λ i. running_stays left left_off left_free i
      ++ (run_by victim.owner (LaneShown.period (victim_now i))
      ++ (run_by (Some worker) (LaneShown.period (new_now i)) ++ running_stays right right_off right_free i))))
      ∙ in_front (new_period worker true (suc h.list.begun) ∷ running h.lanes right)

  deques_were : map (deque_at h.lanes) h.list.places ≡ map (deque_at h.lanes) left ++ deque_at h.lanes victim ∷ map (deque_at h.lanes) right
  deques_were = ap (map (deque_at h.lanes)) are ∙ map-append (deque_at h.lanes) left (victim ∷ right)

  deques_now : map (deque_at after.lanes) (left ++ victim ∷ place_of id (Some worker) ∷ right)
      ≡ map (deque_at h.lanes) left ++ deque_with victim.id.0 victim.owner (first ∷ others) ∷ deque_with id.0 (Some worker) (bottom ∷ []) ∷ map (deque_at h.lanes) right
  deques_now = map-append (deque_at after.lanes) left (victim ∷ place_of id (Some worker) ∷ right)
      ∙ (λ i. deques_stay left left_off left_free i ++ deque_with victim.id.0 victim.owner (LaneShown.threads (victim_now i))
      ∷ deque_with id.0 (Some worker) (LaneShown.threads (new_now i)) ∷ deques_stay right right_off right_free i)

  lanes_now : Each (HasLane after.lanes) (left ++ victim ∷ place_of id (Some worker) ∷ right)
  lanes_now = each_join (HasLane after.lanes) left (victim ∷ place_of id (Some worker) ∷ right)
      (lanes_stay left left_off left_free (each_left (HasLane h.lanes) left (victim ∷ right) had_lanes)) (
        record {
          inside = let was = was_inside in let one = length-set h.lanes victim.id.0 kept_lane in let two = length-set between id.0 new_lane in omega (arith, was, one, two);
          runs = λ v is. let run = (each_at (HasLane h.lanes) left victim right had_lanes).runs v is in
              (run.0, ap (λ t. LaneShown.period t) victim_now ∙ ap (λ t. LaneShown.period t) (sym lane_is) ∙ run.1);
        },
        (
          record {
            inside = let had = room_between in let two = length-set between id.0 new_lane in omega (arith, had, two);
            runs = λ v is. (new_period worker true (suc h.list.begun), ap (λ t. LaneShown.period t) new_now);
          },
          lanes_stay right right_off right_free (each_right (HasLane h.lanes) left (victim ∷ right) had_lanes).1,
        ),
      )

  same_places : length (map (deque_at h.lanes) left) ≡ length left
  same_places = length-map left (deque_at h.lanes)

  abbrev stolen : Parts
  stolen = record (parts_of h) {
    deques = map (deque_at h.lanes) left ++ deque_with victim.id.0 victim.owner (first ∷ others) ∷ deque_with id.0 (Some worker) (bottom ∷ []) ∷ map (deque_at h.lanes) right;
    periods = front ++ new_period worker true (suc h.list.begun) ∷ running h.lanes right;
  }

  theft : Steals s.workers h.list.begun (parts_of h) worker (length left) id.0 stolen
  theft = subst (λ n. Steals s.workers h.list.begun (parts_of h) worker n id.0 stolen) same_places
      (steals_beside (map (deque_at h.lanes) left) (map (deque_at h.lanes) right) (deque_at h.lanes victim) first others bottom id.0 stolen.periods may.is_worker
      (unowned h.lanes worker h.list.places may.owns_none) (let reach = may.in_reach in let long = same_places in omega (arith, reach, long)) deques_were
      (ap (λ t. LaneShown.threads t) lane_is) (free_among h.lanes id.0 h.list.places free)
      (begins s some list h steps m at worker true front (running h.lanes right) were))

  pub stole_beside : (seat : ℕ) → Went s after steps m (record { seat = seat; worker = worker; period = suc h.list.begun; event = steals (length left) id.0; told = stole id.0 (suc h.list.begun) })
  stole_beside seat = theft_went s some list h steps m at worker seat id.0 left true front (running h.lanes right) after were periods_now refl lanes_now
      (thefts_stand s some list (showing_of h) (showing_of after) (moves s.list (run_of steps)) m worker (length left) id.0 stolen at.standing theft
      (record { deques = deques_now; waiting = IsPermutation-refl h.list.waiting; results = IsPermutation-refl h.list.results; periods = periods_now })
      (theft_keeps s some list h steps m at worker after refl refl))

pub thefts_beside_stand : (s : Setting) → 0 < s.quota → IsDepthFirst s.quota s.list → TheftsBesideStand s
thefts_beside_stand s some list h steps m seat worker left right victim id first bottom others runs_there at may are lane_is free room =
    stole_beside s some list h steps m at worker left right victim id first bottom others runs_there may are lane_is free room seat
