-- A worked run of a hall with two workers and its seats: it begins with one seat, a second worker enters and gets a seat, the first takes the
-- root over and forks, and the second steals the root from it.
use Rattle.std.proofs.Common.{false, true, [], ◌∷◌, refl, arith}
use Rattle.std.specs.Prelude.{None, Some}
use Rattle.depth_first_list.specs.Passed.Births.{root}
use Rattle.deque_list.specs.Ids.{deque_id}
use Rattle.deque_machine.specs.Moments.{opening}
use Rattle.deque_machine.specs.Play.{Limits}
use Rattle.hall_machine.specs.Values.{Hall}
use Rattle.hall_machine.specs.Steps.{stole, did}
use Rattle.hall_machine.specs.Writing.{place_of}
use Rattle.hall_machine.specs.Writing as writing
use Rattle.hall_machine.specs.Rows.{IsFirst}
use Rattle.hall_machine.proofs.Opening.{first_stands}
use Rattle.hall_machine.proofs.Examples.{one_fork, one_fork_is_depth_first, root_thread, first_list, empty_pool, first, taken, theft, child_thread, forked_root, first_name, fork_moved, pool_now, forked, at_work, fork, stolen, second_theft}
use Rattle.hall_machine.specs.Views.{View, fresh}
use Rattle.hall_machine.specs.Crew.{Crew}
use Rattle.hall_machine.specs.Changes.{after_event}
use Rattle.hall_machine.specs.Seats.{with_crew, entering}
use Rattle.hall_machine.proofs.First.{first_crew}
use Rattle.hall_machine.proofs.Entering.{entering_keeps_crew, splitting_keeps_crew}
use Rattle.hall_machine.proofs.Counting.{counts_keep_crew}
use Rattle.hall_machine.specs.State.{RunningState, GoesOn}
use Rattle.hall_machine.proofs.Owners.{lane_actions_go_on}
use Rattle.hall_machine.proofs.Thieves.{thefts_beside_go_on, taking_over_goes_on}

abbrev pub some_limits : Limits
some_limits = record { capacity = 64; actions = 10; deques = 4 }

-- ---- it begins with one seat, which has both places

abbrev begun : Hall
begun = record { list = record first_list { crew = 0 ∷ [] }; pool = empty_pool; lanes = first.lanes }

begun_is_first : IsFirst begun root_thread
begun_is_first = record {
  places = refl;
  inside = omega arith;
  threads = refl;
  none_wait = refl;
  no_results = refl;
  none_closed = refl;
  none_begun = refl;
  unused = refl;
  no_moves = refl;
}

pub it_begins : RunningState one_fork some_limits begun [] opening refl 0 (fresh 0 2 ∷ [])
it_begins = record {
  stands = first_stands one_fork (omega arith) one_fork_is_depth_first begun root_thread begun_is_first refl refl refl refl refl;
  crew = first_crew one_fork some_limits begun root_thread 0 begun_is_first refl refl (omega arith);
}

-- ---- worker 1 enters by seat 0, and gets seat 1

pub it_enters : Crew one_fork some_limits (with_crew begun (0 ∷ 1 ∷ []) None) [] opening refl 0 (entering (fresh 0 2) 1 ∷ [])
it_enters = entering_keeps_crew one_fork some_limits begun [] opening refl 0 (fresh 0 2 ∷ []) 0 (fresh 0 2) 1 (0 ∷ []) [] it_begins.crew refl (omega arith) refl refl refl (omega arith) refl

pub it_has_a_seat : RunningState one_fork some_limits first [] opening refl 0 (fresh 0 1 ∷ fresh 1 1 ∷ [])
it_has_a_seat = record {
  stands = Rattle.hall_machine.proofs.Examples.it_begins;
  crew = splitting_keeps_crew one_fork some_limits first [] opening refl 0 (entering (fresh 0 2) 1 ∷ []) 0 (entering (fresh 0 2) 1) 1 it_enters refl refl;
}

-- ---- seat 0 takes the root over

abbrev owning : View
owning = after_event (fresh 0 1) (Some (deque_id 0)) (stole 0 1) false

pub it_takes_over : GoesOn one_fork some_limits taken [] opening refl theft 0 (owning ∷ fresh 1 1 ∷ [])
it_takes_over = taking_over_goes_on one_fork (omega arith) one_fork_is_depth_first some_limits first [] opening refl 0 (fresh 0 1 ∷ fresh 1 1 ∷ []) 0 (fresh 0 1) [] [] (deque_id 0) root_thread
    it_has_a_seat (record { noted = refl; placed = omega arith; stays = refl }) refl (omega arith) refl refl

-- ---- it draws a count and forks

abbrev counting : View
counting = record owning { counting = true }

pub it_counts : Crew one_fork some_limits taken (theft ∷ []) it_takes_over.0 (opening, refl, it_takes_over.1, it_takes_over.2) 1 (counting ∷ fresh 1 1 ∷ [])
it_counts = counts_keep_crew one_fork some_limits taken (theft ∷ []) it_takes_over.0 (opening, refl, it_takes_over.1, it_takes_over.2) 0 (owning ∷ fresh 1 1 ∷ []) 0 owning (deque_id 0)
    it_takes_over.3.crew refl (omega arith) refl refl refl (omega arith)

abbrev pub forking : View
forking = after_event counting (Some (deque_id 0)) (did first_name) false

pub it_forks : GoesOn one_fork some_limits forked (theft ∷ []) it_takes_over.0 (opening, refl, it_takes_over.1, it_takes_over.2) fork 1 (forking ∷ fresh 1 1 ∷ [])
it_forks = lane_actions_go_on one_fork (omega arith) one_fork_is_depth_first some_limits taken (theft ∷ []) it_takes_over.0 (opening, refl, it_takes_over.1, it_takes_over.2) 1
    (counting ∷ fresh 1 1 ∷ []) 0 counting at_work 0 first_name (child_thread ∷ forked_root ∷ []) 16 (record { parent = root; ordinal = 1 } ∷ []) pool_now
    (record { stands = it_takes_over.3.stands; crew = it_counts }) (record { noted = refl; placed = omega arith; stays = refl }) refl
    (writing.forks_child forked_root child_thread 16 1 (record {
      next = record { inside = omega arith; by = refl; index = refl; does = refl };
      fits = omega arith;
      acted = record { same_id = refl; same_parent = refl; same_label = refl; same_func = refl; one_more = refl };
      child_id = refl;
      child_parent = refl;
      child_label = refl;
      child_done = refl;
      child_children = refl;
      children = refl;
      sum = refl;
      named = refl;
      charged = refl;
    }))
    (record { live = refl; move = fork_moved; by = refl; change = refl; moves = refl })

-- ---- seat 1 steals the root

abbrev pub stealing : View
stealing = after_event (fresh 1 1) (Some (deque_id 1)) (stole 1 2) false

pub it_steals : GoesOn one_fork some_limits stolen (fork ∷ theft ∷ []) it_forks.0 (it_takes_over.0, (opening, refl, it_takes_over.1, it_takes_over.2), it_forks.1, it_forks.2) second_theft 1
    (forking ∷ stealing ∷ [])
it_steals = thefts_beside_go_on one_fork (omega arith) one_fork_is_depth_first some_limits forked (fork ∷ theft ∷ []) it_forks.0
    (it_takes_over.0, (opening, refl, it_takes_over.1, it_takes_over.2), it_forks.1, it_forks.2) 1 (forking ∷ fresh 1 1 ∷ []) 1 (fresh 1 1) [] [] (place_of (deque_id 0) (Some 0)) (deque_id 1)
    child_thread forked_root [] _ it_forks.3 (record { noted = refl; placed = omega arith; stays = refl }) refl (omega arith) refl refl (λ is. absurd (omega (arith, is)), tt) (omega arith)
