-- A worked sequence of two seats, from a hall that begins to one that can be closed: a second worker enters, the first takes the root over and
-- forks, the second steals the root, the child ends, the root joins it and ends, and the second seat leaves and is joined into the first.
use Rattle.std.proofs.Common.{◌≡◌, false, true, List, [], ◌∷◌, refl, arith}
use Rattle.std.specs.Prelude.{None, Some, pos, neg_ℤ}
use Rattle.dag_order.specs.declared.action_id.ActionId.{ActionId}
use Rattle.dag_order.specs.Births.{root}
use Rattle.deque_list.specs.Ids.{deque_id}
use Rattle.deque_machine.specs.Machine.{steals, does}
use Rattle.open_periods.specs.Periods.{Period}
use Rattle.open_periods.specs.Tables.{noted, shut}
use Rattle.moment_laws.specs.Passed.Parts.{Thread, Result}
use Rattle.hall_machine.specs.Values.{PoolShown, Hall, no_lane}
use Rattle.hall_machine.specs.Steps.{Step, stole, did, run_of}
use Rattle.hall_machine.specs.Writing.{place_of, lane_with, IsAtWork, new_period}
use Rattle.hall_machine.proofs.Examples.{one_fork, root_thread, first_list, empty_pool, first, taken, theft, child_id, child_thread, forked_root, first_name, fork_moved, forked, fork, stolen, second_theft}
use Rattle.hall_machine.specs.Views.{View, fresh}
use Rattle.hall_machine.specs.Changes.{after_event}
use Rattle.hall_machine.specs.Seats.{entering}
use Rattle.hall_machine.proofs.WorkedStates.{some_limits}
use Rattle.hall_interleavings.specs.Events.{Snapshot, seen, takes_over, steals_a_thread}
use Rattle.hall_interleavings.specs.Others.{enters_by, splits_off}
use Rattle.hall_interleavings.specs.Sequences.{IsBeginning, Sequence, begins, then_event, then_other}

-- ---- it begins with one seat, which has both places; worker 1 enters by it, and gets a seat

abbrev pub begun : Hall
begun = record { list = record first_list { crew = 0 ∷ [] }; pool = empty_pool; lanes = first.lanes }

abbrev pub at_first : Snapshot
at_first = seen begun 0 (fresh 0 2 ∷ [])

abbrev entered : Snapshot
entered = seen first 0 (entering (fresh 0 2) 1 ∷ [])

abbrev with_two : Snapshot
with_two = seen first 0 (fresh 0 1 ∷ fresh 1 1 ∷ [])

two_seats : Sequence one_fork some_limits at_first [] with_two
two_seats = then_other [] entered with_two
    (then_other [] at_first entered begins (enters_by 0 (fresh 0 2) 1 (0 ∷ []) [] refl (omega arith) refl refl refl (omega arith) refl))
    (splits_off 0 (entering (fresh 0 2) 1) 1 refl refl)

-- ---- seat 0 takes the root over, draws a count and forks

abbrev pub owning : View
owning = after_event (fresh 0 1) (Some (deque_id 0)) (stole 0 1) false

abbrev counting : View
counting = record owning { counting = true }

abbrev forking : View
forking = after_event counting (Some (deque_id 0)) (did first_name) false

abbrev pub has_stolen : Snapshot
has_stolen = seen taken 0 (owning ∷ fresh 1 1 ∷ [])

abbrev has_counted : Snapshot
has_counted = seen taken 1 (counting ∷ fresh 1 1 ∷ [])

abbrev has_forked : Snapshot
has_forked = seen forked 1 (forking ∷ fresh 1 1 ∷ [])

pub it_steals_the_root : Sequence one_fork some_limits at_first (theft ∷ []) has_stolen
it_steals_the_root = then_event [] with_two has_stolen theft two_seats
    (steals_a_thread 0 (fresh 0 1) 0 (deque_id 0) taken (record { noted = refl; placed = omega arith; stays = refl }) refl
    (takes_over [] [] (deque_id 0) root_thread (omega arith) refl refl))

-- ---- seat 1 steals the root, which waits at the bottom

abbrev stealing : View
stealing = after_event (fresh 1 1) (Some (deque_id 1)) (stole 1 2) false

abbrev both_own : Snapshot
both_own = seen stolen 1 (forking ∷ stealing ∷ [])

abbrev three : List Step
three = second_theft ∷ fork ∷ theft ∷ []

-- ---- the child ends, alone in its deque: its result is kept, and seat 0 is idle

abbrev first_period : Period
first_period = noted (new_period 0 false 1) first_name 16 (record { parent = root; ordinal = 1 } ∷ [])

abbrev child_name : ActionId
child_name = record { by = child_id; index = 0 }

abbrev child_result : Result
child_result = record { id = child_id; label = 1 ∷ []; func = None; words = 0 }

abbrev pool_after : PoolShown
pool_after = record { live = 0; moves = fork_moved ∷ record { by = child_name; change = neg_ℤ (pos 16) } ∷ [] }

abbrev ended : Hall
ended = record {
  list = record stolen.list {
    places = place_of (deque_id 1) (Some 1) ∷ [];
    results = child_result ∷ [];
    closed = shut (noted first_period child_name 0 []) ∷ [];
  };
  pool = pool_after;
  lanes = no_lane ∷ lane_with (forked_root ∷ []) (Some (new_period 1 true 2)) ∷ [];
}

abbrev child_at_work : IsAtWork stolen 0
child_at_work = record {
  left = [];
  id = deque_id 0;
  right = place_of (deque_id 1) (Some 1) ∷ [];
  top = child_thread;
  under = [];
  period = first_period;
  places_are = refl;
  lane_is = refl;
}

abbrev child_end : Step
child_end = record { seat = 0; worker = 0; period = 1; event = does 1; told = did child_name }

abbrev idle : View
idle = after_event (record forking { counting = true }) None (did child_name) false

abbrev child_counted : Snapshot
child_counted = seen stolen 2 (record forking { counting = true } ∷ stealing ∷ [])

abbrev child_ended : Snapshot
child_ended = seen ended 2 (idle ∷ stealing ∷ [])

-- ---- the root joins the kept result

abbrev join_name : ActionId
join_name = record { by = root; index = 1 }

abbrev handed_root : Thread
handed_root = record forked_root { children = record { id = child_id; ordinal = 1; func = None; delivered = true } ∷ [] }

abbrev joined_root : Thread
joined_root = record root_thread { done = 2 }

abbrev second_period : Period
second_period = noted (new_period 1 true 2) join_name 0 []

abbrev root_at_work : IsAtWork ended 1
root_at_work = record {
  left = [];
  id = deque_id 1;
  right = [];
  top = forked_root;
  under = [];
  period = new_period 1 true 2;
  places_are = refl;
  lane_is = refl;
}

abbrev join : Step
join = record { seat = 1; worker = 1; period = 2; event = does 2; told = did join_name }

abbrev joining : View
joining = after_event (record stealing { counting = true }) (Some (deque_id 1)) (did join_name) false

abbrev join_counted : Snapshot
join_counted = seen ended 3 (idle ∷ record stealing { counting = true } ∷ [])

-- ---- the root ends, with which the run has finished

abbrev last_name : ActionId
last_name = record { by = root; index = 2 }

abbrev root_result : Result
root_result = record { id = root; label = []; func = None; words = 0 }

abbrev root_end : Step
root_end = record { seat = 1; worker = 1; period = 2; event = does 3; told = did last_name }

abbrev done_all : View
done_all = after_event (record joining { counting = true }) None (did last_name) false

abbrev five : List Step
five = root_end ∷ join ∷ child_end ∷ three

-- ---- it makes one run, and the closed hall gives it

pub begins_so : IsBeginning one_fork at_first
begins_so = record {
  thread = root_thread;
  first = record {
    places = refl;
    inside = omega arith;
    threads = refl;
    none_wait = refl;
    no_results = refl;
    none_closed = refl;
    none_begun = refl;
    unused = refl;
    no_moves = refl;
  };
  is_root = refl;
  label = refl;
  done = refl;
  children = refl;
  words = refl;
  worker = 0;
  is_worker = omega arith;
  crew = refl;
  no_end = refl;
  counted = refl;
  views = refl;
}

pub the_events : run_of five ≡ record { worker = 0; event = steals 0 0 } ∷ record { worker = 0; event = does 0 } ∷ record { worker = 1; event = steals 0 1 }
    ∷ record { worker = 0; event = does 1 } ∷ record { worker = 1; event = does 2 } ∷ record { worker = 1; event = does 3 } ∷ []
the_events = refl
