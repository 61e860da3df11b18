-- The worked run goes on to its end: the second worker leaves and is joined, the first ends the child, takes the root over, joins and ends
-- it, and the hall is closed.
use Rattle.std.proofs.Common.{◌≡◌, ℕ, suc, ◌<◌, false, true, List, [], ◌∷◌, refl, arith, neg_ℤ, pos}
use Rattle.std.specs.Prelude.{None, Some, slice_set}
use Rattle.std.proofs.lemmas.List.Sorted.{IsPermutation-refl}
use Rattle.depth_first_list.specs.Passed.ActionId.{ActionId}
use Rattle.depth_first_list.specs.Passed.Births.{root}
use Rattle.deque_list.specs.declared.deque_id.DequeId.{DequeId}
use Rattle.deque_list.specs.Ids.{deque_id}
use Rattle.deque_machine.specs.Moments.{Moment, opening, done_at}
use Rattle.deque_machine.specs.Machine.{steals, does, gives_up}
use Rattle.space_ledger.specs.declared.moved.Moved.{Moved}
use Rattle.moment_laws.specs.Passed.Tables.{noted, shut}
use Rattle.moment_laws.specs.Passed.Parts.{Thread, Result}
use Rattle.hall_machine.specs.Values.{PoolShown, Hall, finished, no_lane}
use Rattle.hall_machine.specs.Steps.{Step, Leads, stole, did, gave_up}
use Rattle.hall_machine.specs.Writing.{place_of, lane_with, IsAtWork, written, list_unowned, list_without, step_of, new_period}
use Rattle.hall_machine.specs.Rows.{list_stolen}
use Rattle.hall_machine.proofs.Examples.{one_fork, one_fork_is_depth_first, theft, child_id, child_thread, forked_root, first_name, fork_moved, fork, stolen, second_theft}
use Rattle.hall_machine.specs.Views.{View, joined}
use Rattle.hall_machine.specs.Changes.{after_event}
use Rattle.hall_machine.specs.Seats.{with_crew, leaving, with_places_of}
use Rattle.hall_machine.specs.State.{RunningState, IsIn, GoesOn}
use Rattle.hall_machine.specs.Events.{still_owning, idle_after}
use Rattle.hall_machine.specs.Closing.{GivesOneRun}
use Rattle.hall_machine.proofs.Owners.{leaving_ends_go_on, kept_joins_go_on}
use Rattle.hall_machine.proofs.Thieves.{taking_over_goes_on}
use Rattle.hall_machine.proofs.Roots.{root_ends_go_on}
use Rattle.hall_machine.proofs.Quiet.{counts_go_on, leaving_owners_go_on, joining_goes_on}
use Rattle.hall_machine.proofs.Closed.{closed_give_one_run}
use Rattle.hall_machine.proofs.WorkedStates.{some_limits, forking, stealing, it_takes_over, it_forks, it_steals}

-- where the hall is, with the run that led there
pub record At (h : Hall) (count : ℕ) (views : List View) : Type 0 where
  pub steps : List Step
  pub moment : Moment
  pub leads : Leads one_fork steps moment
  pub state : RunningState one_fork some_limits h steps moment leads count views

-- it goes on with an event, or with a count
abbrev goes : {h : Hall} {count : ℕ} {views : List View} (a : At h count views) (after : Hall) (step : Step) (views_now : List View)
    → GoesOn one_fork some_limits after a.steps a.moment a.leads step count views_now → At after count views_now
goes a after step views_now went = record { steps = step ∷ a.steps; moment = went.0; leads = (a.moment, a.leads, went.1, went.2); state = went.3 }

abbrev counts : {h : Hall} {count : ℕ} {views : List View} (a : At h count views) (seat : ℕ) (v : View) (id : DequeId) → IsIn views seat v → v.counting ≡ false
    → v.found ≡ None → v.deque ≡ Some id → count < 10 → At h (suc count) (slice_set views seat (record v { counting = true }))
counts {h} {count} {views} a seat v id here free none owns few = record {
  steps = a.steps;
  moment = a.moment;
  leads = a.leads;
  state = counts_go_on one_fork some_limits h a.steps a.moment a.leads count views seat v id a.state here free none owns few;
}

abbrev at_steal : At stolen 1 (forking ∷ stealing ∷ [])
at_steal = record {
  steps = second_theft ∷ fork ∷ theft ∷ [];
  moment = it_steals.0;
  leads = (it_forks.0, (it_takes_over.0, (opening, refl, it_takes_over.1, it_takes_over.2), it_forks.1, it_forks.2), it_steals.1, it_steals.2);
  state = it_steals.3;
}

-- ---- seat 1 leaves as an owner: its deque is given up

abbrev stealing_work : IsAtWork stolen 1
stealing_work = record {
  left = place_of (deque_id 0) (Some 0) ∷ [];
  id = deque_id 1;
  right = [];
  top = forked_root;
  under = [];
  period = new_period 1 true 2;
  places_are = refl;
  lane_is = refl;
}

abbrev given_up : Hall
given_up = with_crew (written stealing_work (list_unowned stealing_work (shut stealing_work.period)) stolen.pool (lane_with (forked_root ∷ []) None)) (0 ∷ []) None

abbrev gone : View
gone = leaving (after_event stealing None (gave_up 1) true)

abbrev at_leave : At given_up 1 (forking ∷ gone ∷ [])
at_leave = goes at_steal given_up (step_of stealing_work 1 gives_up (gave_up 1)) (forking ∷ gone ∷ [])
    (leaving_owners_go_on one_fork (omega arith) one_fork_is_depth_first some_limits stolen at_steal.steps at_steal.moment at_steal.leads 1 (forking ∷ stealing ∷ []) 1 stealing stealing_work (0 ∷ []) []
    at_steal.state (record { noted = refl; placed = omega arith; stays = refl }) refl refl refl)

-- ---- it is joined into seat 0, which has both places then

abbrev both : View
both = with_places_of forking gone

abbrev at_join : At given_up 1 (both ∷ joined ∷ [])
at_join = record {
  steps = at_leave.steps;
  moment = at_leave.moment;
  leads = at_leave.leads;
  state = joining_goes_on one_fork some_limits given_up at_leave.steps at_leave.moment at_leave.leads 1 (forking ∷ gone ∷ []) 0 1 forking gone at_leave.state
      (λ same. absurd (omega (arith, same))) refl refl (omega arith) (omega arith) refl refl;
}

-- ---- seat 0 ends the child, whose deque is gone then

abbrev child_work : IsAtWork given_up 0
child_work = record {
  left = [];
  id = deque_id 0;
  right = place_of (deque_id 1) None ∷ [];
  top = child_thread;
  under = [];
  period = noted (new_period 0 false 1) first_name 16 (record { parent = root; ordinal = 1 } ∷ []);
  places_are = refl;
  lane_is = refl;
}

abbrev child_name : ActionId
child_name = record { by = child_id; index = 0 }

abbrev child_result : Result
child_result = record { id = child_id; label = 1 ∷ []; func = None; words = 0 }

abbrev child_moved : Moved
child_moved = record { by = child_name; change = neg_ℤ (pos 16) }

abbrev pool_after : PoolShown
pool_after = record { live = 0; moves = fork_moved ∷ child_moved ∷ [] }

abbrev ended : Hall
ended = written child_work (record (list_without child_work (shut (noted child_work.period child_name 0 []))) { results = child_result ∷ [] }) pool_after no_lane

abbrev counting_one : View
counting_one = record both { counting = true }

abbrev idle : View
idle = idle_after counting_one child_name

abbrev at_end : At ended 2 (idle ∷ joined ∷ [])
at_end =
    let before : At given_up 2 (counting_one ∷ joined ∷ []) = counts at_join 0 both (deque_id 0) (record { noted = refl; placed = omega arith; stays = refl }) refl refl refl (omega arith) in
    goes before ended (step_of child_work 0 (does 1) (did child_name)) (idle ∷ joined ∷ [])
    (leaving_ends_go_on one_fork (omega arith) one_fork_is_depth_first some_limits given_up before.steps before.moment before.leads 2 (counting_one ∷ joined ∷ []) 0 counting_one child_work 1 child_name
    child_result (child_result ∷ []) pool_after before.state (record { noted = refl; placed = omega arith; stays = refl }) refl refl tt
    (record {
      next = record { inside = omega arith; by = refl; index = refl; does = refl };
      left_by = record { same_id = refl; same_label = refl; same_func = refl; words = refl };
      named = refl;
    })
    (record { live = refl; move = child_moved; by = refl; change = refl; moves = refl }) (IsPermutation-refl (child_result ∷ [])))

-- ---- it takes the root over again

abbrev again : Hall
again = record {
  list = list_stolen ended.list (place_of (deque_id 1) (Some 0) ∷ []);
  pool = ended.pool;
  lanes = slice_set ended.lanes 1 (lane_with (forked_root ∷ []) (Some (new_period 0 false 3)));
}

abbrev owning_again : View
owning_again = after_event idle (Some (deque_id 1)) (stole 1 3) true

abbrev at_again : At again 2 (owning_again ∷ joined ∷ [])
at_again = goes at_end again (record { seat = 0; worker = 0; period = 3; event = steals 0 1; told = stole 1 3 }) (owning_again ∷ joined ∷ [])
    (taking_over_goes_on one_fork (omega arith) one_fork_is_depth_first some_limits ended at_end.steps at_end.moment at_end.leads 2 (idle ∷ joined ∷ []) 0 idle [] [] (deque_id 1) forked_root at_end.state
    (record { noted = refl; placed = omega arith; stays = refl }) refl (omega arith) refl refl)

-- ---- the root joins the child, whose result is kept

abbrev join_work : IsAtWork again 0
join_work = record { left = []; id = deque_id 1; right = []; top = forked_root; under = []; period = new_period 0 false 3; places_are = refl; lane_is = refl }

abbrev join_name : ActionId
join_name = record { by = root; index = 1 }

abbrev handed_root : Thread
handed_root = record forked_root { children = record { id = child_id; ordinal = 1; func = None; delivered = true } ∷ [] }

abbrev joined_root : Thread
joined_root = record forked_root { done = 2; children = [] }

abbrev after_join : Hall
after_join = written join_work (record again.list { results = [] }) pool_after (lane_with (joined_root ∷ []) (Some (noted join_work.period join_name 0 [])))

abbrev counting_two : View
counting_two = record owning_again { counting = true }

abbrev joining : View
joining = still_owning counting_two join_work join_name

abbrev at_joined : At after_join 3 (joining ∷ joined ∷ [])
at_joined =
    let before : At again 3 (counting_two ∷ joined ∷ []) = counts at_again 0 owning_again (deque_id 1) (record { noted = refl; placed = omega arith; stays = refl }) refl refl refl (omega arith) in
    goes before after_join (step_of join_work 0 (does 2) (did join_name)) (joining ∷ joined ∷ [])
    (kept_joins_go_on one_fork (omega arith) one_fork_is_depth_first some_limits again before.steps before.moment before.leads 3 (counting_two ∷ joined ∷ []) 0 counting_two join_work 2 join_name [] [] []
    child_result handed_root joined_root 0 pool_after before.state (record { noted = refl; placed = omega arith; stays = refl }) refl refl
    (record {
      front = [];
      child = record { id = child_id; ordinal = 1; func = None; delivered = false };
      back = [];
      children_were = refl;
      child_is = refl;
      same_id = refl;
      same_parent = refl;
      same_label = refl;
      same_func = refl;
      same_done = refl;
      children = refl;
      words = refl;
    })
    (record {
      newest = record { id = child_id; ordinal = 1; func = None; delivered = true };
      older = [];
      children_were = refl;
      given = refl;
      next = record { inside = omega arith; by = refl; index = refl; does = refl };
      acted = record { same_id = refl; same_parent = refl; same_label = refl; same_func = refl; one_more = refl };
      children = refl;
      weighs = refl;
      named = refl;
      charged = refl;
    })
    (record { live = refl; move = record { by = join_name; change = neg_ℤ (pos 0) }; by = refl; change = refl; moves = refl }) (IsPermutation-refl []))

-- ---- the root ends, and the hall has finished

abbrev root_work : IsAtWork after_join 0
root_work = record { left = []; id = deque_id 1; right = []; top = joined_root; under = []; period = noted (new_period 0 false 3) join_name 0 []; places_are = refl; lane_is = refl }

abbrev root_name : ActionId
root_name = record { by = root; index = 2 }

abbrev root_result : Result
root_result = record { id = root; label = []; func = None; words = 0 }

abbrev done_hall : Hall
done_hall = with_crew (written root_work (record (list_without root_work (shut (noted root_work.period root_name 0 []))) { results = root_result ∷ [] }) pool_after no_lane) (0 ∷ []) (Some finished)

abbrev counting_three : View
counting_three = record joining { counting = true }

abbrev done_view : View
done_view = idle_after counting_three root_name

abbrev at_finish : At done_hall 4 (done_view ∷ joined ∷ [])
at_finish =
    let before : At after_join 4 (counting_three ∷ joined ∷ []) = counts at_joined 0 joining (deque_id 1) (record { noted = refl; placed = omega arith; stays = refl }) refl refl refl (omega arith) in
    goes before done_hall (step_of root_work 0 (does 3) (did root_name)) (done_view ∷ joined ∷ [])
    (root_ends_go_on one_fork (omega arith) one_fork_is_depth_first some_limits after_join before.steps before.moment before.leads 4 (counting_three ∷ joined ∷ []) 0 counting_three root_work 3 root_name
    root_result (root_result ∷ []) pool_after before.state (record { noted = refl; placed = omega arith; stays = refl }) refl refl tt
    (record {
      next = record { inside = omega arith; by = refl; index = refl; does = refl };
      left_by = record { same_id = refl; same_label = refl; same_func = refl; words = refl };
      named = refl;
    })
    (record { live = refl; move = record { by = root_name; change = neg_ℤ (pos 0) }; by = refl; change = refl; moves = refl }) (IsPermutation-refl (root_result ∷ [])) refl refl)

-- ---- it is closed

pub it_gives_one_run : GivesOneRun one_fork some_limits done_hall at_finish.steps at_finish.moment at_finish.leads (done_view ∷ joined ∷ []) finished
it_gives_one_run = closed_give_one_run one_fork (omega arith) one_fork_is_depth_first some_limits done_hall at_finish.steps at_finish.moment at_finish.leads 4 (done_view ∷ joined ∷ []) finished
    at_finish.state tt refl

-- each of the four actions was done once
pub all_are_done : (place : ℕ) → place < 4 → done_at at_finish.moment place ≡ 1
all_are_done place inside = it_gives_one_run.all_done refl place inside

-- seat 0 was told of two periods
pub told_in_all : done_view.mine ≡ stole 0 1 ∷ did first_name ∷ did child_name ∷ stole 1 3 ∷ did join_name ∷ did root_name ∷ []
told_in_all = refl

-- it has yielded, since the seat that was joined into it had
pub it_has_yielded : done_view.yielded ≡ true
it_has_yielded = refl
