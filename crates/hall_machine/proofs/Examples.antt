-- A worked run of a hall with two workers: it begins, a worker takes the root over and forks, and the other worker steals the root from it.
use Rattle.std.proofs.Common.{◌≡◌, ◌≢◌, ℕ, ◌<◌, false, true, List, [], ◌∷◌, refl, arith}
use Rattle.std.proofs.lemmas.Option.{none-some, same_Some}
use Rattle.std.specs.Prelude.{None, Some, pos}
use Rattle.depth_first_list.specs.Passed.ThreadId.{ThreadId}
use Rattle.depth_first_list.specs.Passed.ActionId.{ActionId}
use Rattle.depth_first_list.specs.Passed.Births.{root}
use Rattle.depth_first_list.specs.Actions.{Deed, forks, joins, ends, Action}
use Rattle.depth_first_list.specs.Runs.{start, after_fork, after_join, rests, goes_on, forks_a_child, joins_the_newest, IsDepthFirst}
use Rattle.deque_list.specs.Ids.{deque_id}
use Rattle.deque_machine.specs.Moments.{opening}
use Rattle.deque_machine.specs.Machine.{Setting, steals, does}
use Rattle.space_ledger.specs.declared.moved.Moved.{Moved}
use Rattle.moment_laws.specs.Passed.Tables.{noted}
use Rattle.moment_laws.specs.Passed.Parts.{Thread, Parts, parts_with_root}
use Rattle.hall_machine.specs.Values.{ListShown, PoolShown, Hall, no_lane, of_list, of_pool, of_lane, hall_of, parts_of}
use Rattle.hall_machine.specs.Steps.{Step, stole, did, run_of, told_to, names_in, last_theft}
use Rattle.hall_machine.specs.Standing.{HallStands, Went}
use Rattle.hall_machine.specs.Writing.{place_of, lane_with, IsAtWork, new_period}
use Rattle.hall_machine.specs.Writing as writing
use Rattle.hall_machine.specs.Rows.{IsFirst}
use Rattle.hall_machine.proofs.Opening.{first_stands}
use Rattle.hall_machine.proofs.LaneRows.{lane_actions_stand}
use Rattle.hall_machine.proofs.TakingOver.{taking_over_stands}
use Rattle.hall_machine.proofs.Beside.{thefts_beside_stand}

abbrev act : List ℕ → ℕ → Deed → ℕ → Action
act label index deed words = record { label = label; index = index; deed = deed; words = words }

-- a root that forks a child, which does nothing, and joins it, with a quota of 16 words
abbrev pub one_fork : Setting
one_fork = record {
  list = act [] 0 (forks 1) 16 ∷ act (1 ∷ []) 0 ends 16 ∷ act [] 1 (joins 1) 0 ∷ act [] 2 ends 0 ∷ [];
  quota = 16;
  workers = 2;
}

pub one_fork_is_depth_first : IsDepthFirst 16 one_fork.list
one_fork_is_depth_first = record {
  last = after_join (after_fork start) [];
  below = _;
  runs = goes_on [] start _ _ _ _ (forks_a_child [] _ start [] (rests (1 ∷ []) start) refl) (joins_the_newest [] _ 1 [] 0 refl);
  all_joined = refl;
  is = refl;
}

-- ---- it begins

abbrev pub root_thread : Thread
root_thread = record { id = root; parent = None; label = []; done = 0; func = None; children = []; words = 0 }

abbrev pub first_list : ListShown
first_list = record { places = place_of (deque_id 0) None ∷ []; crew = 0 ∷ 1 ∷ []; waiting = []; results = []; closed = []; begun = 0; kept = None }

abbrev pub empty_pool : PoolShown
empty_pool = record { live = 0; moves = [] }

abbrev pub first : Hall
first = record { list = first_list; pool = empty_pool; lanes = lane_with (root_thread ∷ []) None ∷ no_lane ∷ [] }

pub it_is_in_slots : hall_of (of_list first_list ∷ of_pool empty_pool ∷ of_lane (lane_with (root_thread ∷ []) None) ∷ of_lane no_lane ∷ []) ≡ first
it_is_in_slots = refl

pub it_shows_the_root : parts_of first ≡ parts_with_root root_thread
it_shows_the_root = refl

is_first : IsFirst first root_thread
is_first = record {
  places = refl;
  inside = omega arith;
  threads = refl;
  none_wait = refl;
  no_results = refl;
  none_closed = refl;
  none_begun = refl;
  unused = refl;
  no_moves = refl;
}

pub it_begins : HallStands one_fork first [] opening
it_begins = first_stands one_fork (omega arith) one_fork_is_depth_first first root_thread is_first refl refl refl refl refl

-- ---- worker 0, in seat 0, takes the root over

abbrev pub taken : Hall
taken = record {
  list = record first_list { places = place_of (deque_id 0) (Some 0) ∷ []; begun = 1 };
  pool = empty_pool;
  lanes = lane_with (root_thread ∷ []) (Some (new_period 0 false 1)) ∷ no_lane ∷ [];
}

abbrev pub theft : Step
theft = record { seat = 0; worker = 0; period = 1; event = steals 0 0; told = stole 0 1 }

pub it_is_taken_over : Went one_fork taken [] opening theft
it_is_taken_over = taking_over_stands one_fork (omega arith) one_fork_is_depth_first first [] opening 0 0 [] [] (deque_id 0) root_thread it_begins
    (record { is_worker = omega arith; owns_none = (λ is. none-some 0 is, tt); in_reach = omega arith }) refl refl

pub its_period_is_open : Parts.periods (parts_of taken) ≡ new_period 0 false 1 ∷ []
its_period_is_open = refl

-- ---- it forks: the child runs next, above its parent

abbrev pub child_id : ThreadId
child_id = record { period = 1; nth = 0 }

abbrev pub child_thread : Thread
child_thread = record { id = child_id; parent = Some root; label = 1 ∷ []; done = 0; func = None; children = []; words = 16 }

abbrev pub forked_root : Thread
forked_root = record {
  id = root;
  parent = None;
  label = [];
  done = 1;
  func = None;
  children = record { id = child_id; ordinal = 1; func = None; delivered = false } ∷ [];
  words = 0;
}

abbrev pub first_name : ActionId
first_name = record { by = root; index = 0 }

abbrev pub fork_moved : Moved
fork_moved = record { by = first_name; change = pos 16 }

abbrev pub pool_now : PoolShown
pool_now = record { live = 16; moves = fork_moved ∷ [] }

abbrev pub forked : Hall
forked = record {
  list = taken.list;
  pool = pool_now;
  lanes = lane_with (child_thread ∷ forked_root ∷ []) (Some (noted (new_period 0 false 1) first_name 16 (record { parent = root; ordinal = 1 } ∷ []))) ∷ no_lane ∷ [];
}

abbrev pub at_work : IsAtWork taken 0
at_work = record {
  left = [];
  id = deque_id 0;
  right = [];
  top = root_thread;
  under = [];
  period = new_period 0 false 1;
  places_are = refl;
  lane_is = refl;
}

abbrev pub fork : Step
fork = record { seat = 0; worker = 0; period = 1; event = does 0; told = did first_name }

pub it_forks : Went one_fork forked (theft ∷ []) it_is_taken_over.0 fork
it_forks = lane_actions_stand one_fork (omega arith) one_fork_is_depth_first taken (theft ∷ []) it_is_taken_over.0 0 0 at_work 0 first_name
    (child_thread ∷ forked_root ∷ []) 16 (record { parent = root; ordinal = 1 } ∷ []) pool_now it_is_taken_over.3
    (writing.forks_child forked_root child_thread 16 1 (record {
      next = record { inside = omega arith; by = refl; index = refl; does = refl };
      fits = omega arith;
      acted = record { same_id = refl; same_parent = refl; same_label = refl; same_func = refl; one_more = refl };
      child_id = refl;
      child_parent = refl;
      child_label = refl;
      child_done = refl;
      child_children = refl;
      children = refl;
      sum = refl;
      named = refl;
      charged = refl;
    }))
    (record { live = refl; move = fork_moved; by = refl; change = refl; moves = refl })

-- ---- worker 1, in seat 1, steals the root, which is at the bottom, into a new deque to the right

abbrev pub stolen : Hall
stolen = record {
  list = record first_list { places = place_of (deque_id 0) (Some 0) ∷ place_of (deque_id 1) (Some 1) ∷ []; begun = 2 };
  pool = pool_now;
  lanes = lane_with (child_thread ∷ []) (Some (noted (new_period 0 false 1) first_name 16 (record { parent = root; ordinal = 1 } ∷ [])))
      ∷ lane_with (forked_root ∷ []) (Some (new_period 1 true 2)) ∷ [];
}

abbrev pub second_theft : Step
second_theft = record { seat = 1; worker = 1; period = 2; event = steals 0 1; told = stole 1 2 }

pub it_is_stolen : Went one_fork stolen (fork ∷ theft ∷ []) it_forks.0 second_theft
it_is_stolen = thefts_beside_stand one_fork (omega arith) one_fork_is_depth_first forked (fork ∷ theft ∷ []) it_forks.0 1 1 [] [] (place_of (deque_id 0) (Some 0)) (deque_id 1)
    child_thread forked_root [] _ it_forks.3
    (record { is_worker = omega arith; owns_none = (λ is. other_owner 0 1 (omega arith) is, tt); in_reach = omega arith }) refl refl (λ is. absurd (omega (arith, is)), tt) (omega arith)
  where
    other_owner : (a b : ℕ) → a < b → Some a ≢ Some b
    other_owner a b low is = let same = same_Some a b is in absurd (omega (arith, low, same))

-- ---- what the steps tell

abbrev all_steps : List Step
all_steps = second_theft ∷ fork ∷ theft ∷ []

pub the_run : run_of all_steps ≡ record { worker = 0; event = steals 0 0 } ∷ record { worker = 0; event = does 0 } ∷ record { worker = 1; event = steals 0 1 } ∷ []
the_run = refl

pub told_to_the_first : told_to 0 all_steps ≡ stole 0 1 ∷ did first_name ∷ []
told_to_the_first = refl

pub told_to_the_second : told_to 1 all_steps ≡ stole 1 2 ∷ []
told_to_the_second = refl

pub done_in_the_first_period : names_in 1 all_steps ≡ first_name ∷ []
done_in_the_first_period = refl

pub nothing_done_in_the_second : names_in 2 all_steps ≡ []
nothing_done_in_the_second = refl

pub in_its_period : last_theft (told_to 0 all_steps) ≡ Some 1
in_its_period = refl
