-- Worked plays of ready lists: three small programs with one worker, and the first moments of a run with two.
use Rattle.std.proofs.Common.{◌≡◌, ℕ, zero, suc, ◌∙◌, ◌<◌, Bool, false, List, [], ◌∷◌, inl, inr, refl, sym, ap, arith, take, true≢false, pos}
use Rattle.std.specs.Prelude.{Option, None, Some, is_some}
use Rattle.depth_first_list.specs.Shapes.{shape_of, halved}
use Rattle.depth_first_list.specs.Actions.{Deed, forks, joins, allocates, releases, dummy, ends, Action}
use Rattle.depth_first_list.specs.Runs.{start, after_action, after_fork, after_join, after_tree, rests, goes_on, acts, forks_a_child, joins_the_newest, allocates_behind_a_tree, IsDepthFirst, tree_for}
use Rattle.deque_machine.specs.Books.{Book, IsPrefix, periods_ahead, bound}
use Rattle.deque_machine.specs.Moments.{Moment, opening, moment_of, done_at, live_at, threads_in}
use Rattle.deque_machine.specs.Machine.{Setting, Event, steals, does, gives_up}
use Rattle.deque_machine.specs.Runs.{Pair, high_water_mark}
use Rattle.deque_machine.specs.Play.{Limits, arena_full, finished, stopped}
use Rattle.ready_machine.specs.Entries.{entry}
use Rattle.ready_machine.specs.ReadyMachine.{ReadyReaches}
use Rattle.ready_machine.specs.ReadyPlay.{CanGo, ReadyPlays}
use Rattle.ready_machine.specs.Step.{ready_replay}
use Rattle.ready_machine.proofs.Replaying.{replays_are_runs}
use Rattle.ready_machine.proofs.PlayedSound.{played_is_play}

abbrev act : List ℕ → ℕ → Deed → ℕ → Action
act label index deed words = record { label = label; index = index; deed = deed; words = words }

abbrev by : ℕ → Event → Pair
by worker event = record { worker = worker; event = event }

abbrev book : Bool → Option ℕ → List ℕ → Book
book ahead owner ran = record { ahead = ahead; owner = owner; ran = ran }

-- the default limits with an arena of so many words, and a list of words that are all 0
abbrev limits : ℕ → Limits
limits capacity = record { capacity = capacity; actions = 4000000; deques = 4096 }

abbrev zeros : ℕ → ℕ
zeros n = 0

abbrev arena : ℕ
arena = 1048576

abbrev setting : List Action → ℕ → ℕ → Setting
setting list quota workers = record { list = list; quota = quota; workers = workers }

-- ---- A root that forks a child, which does nothing, and joins it.

abbrev one_fork : List Action
one_fork = act [] 0 (forks 1) 16 ∷ act (1 ∷ []) 0 ends 16 ∷ act [] 1 (joins 1) 0 ∷ act [] 2 ends 0 ∷ []

one_fork_is_depth_first : IsDepthFirst 16 one_fork
one_fork_is_depth_first = record {
  last = after_join (after_fork start) [];
  below = _;
  runs = goes_on [] start _ _ _ _ (forks_a_child [] _ start [] (rests (1 ∷ []) start) refl) (joins_the_newest [] _ 1 [] 0 refl);
  all_joined = refl;
  is = refl;
}

-- One worker, with a quota of 16 words. The root is ready after its Fork. The End of the child ends the period, and the worker takes the
-- root again: two periods, none of them ahead, and at most 16 words in use.
abbrev two_periods : List Pair
two_periods = by 0 (steals 0 0) ∷ by 0 (does 0) ∷ by 0 (does 1) ∷ by 0 (steals 0 1) ∷ by 0 (does 2) ∷ by 0 (does 3) ∷ []

after_the_fork : ready_replay (setting one_fork 16 1) (take 2 two_periods)
    ≡ Some (moment_of (entry 0 (Some 0) (1 ∷ []) ∷ entry 1 None [] ∷ []) [] (book false (Some 0) (0 ∷ []) ∷ []))
after_the_fork = refl

after_the_childs_end : ready_replay (setting one_fork 16 1) (take 3 two_periods)
    ≡ Some (moment_of (entry 1 None [] ∷ []) [] (book false None (0 ∷ 1 ∷ []) ∷ []))
after_the_childs_end = refl

abbrev two_periods_end : Moment
two_periods_end = moment_of [] [] (book false None (0 ∷ 1 ∷ []) ∷ book false None (2 ∷ 3 ∷ []) ∷ [])

two_periods_is_a_run : ReadyReaches (setting one_fork 16 1) opening two_periods two_periods_end
two_periods_is_a_run = replays_are_runs (setting one_fork 16 1) one_fork_is_depth_first two_periods two_periods_end refl

two_periods_is_the_play : ReadyPlays (setting one_fork 16 1) (limits arena) zeros 0 opening two_periods two_periods_end finished
two_periods_is_the_play =
    played_is_play (setting one_fork 16 1) (omega arith) one_fork_is_depth_first (limits arena) zeros 100
    (record { run = two_periods; last = two_periods_end; ending = finished }) refl

two_periods_high : high_water_mark one_fork two_periods ≡ pos 16
two_periods_high = refl

-- ---- The same program, with two workers: after the first Take the other worker can do nothing.

abbrev one_takes : List Pair
one_takes = by 0 (steals 0 0) ∷ []

abbrev one_took : Moment
one_took = moment_of (entry 0 (Some 0) [] ∷ []) [] (book false (Some 0) [] ∷ [])

one_takes_it : ready_replay (setting one_fork 16 2) one_takes ≡ Some one_took
one_takes_it = refl

the_other_waits : ¬ CanGo one_took 1
the_other_waits can = elim can [
  | inl owns ↦ absurd (omega arith)
  | inr some ↦ elim some.1 [ inl same ↦ true≢false (ap is_some (sym (ap (λ d. d.owner) same) ∙ some.2)) | inr none ↦ absurd none ]
]

-- After the Fork the child is before its parent. No period is ahead, and the bound is the peak: nothing is left of it.
abbrev it_forks : List Pair
it_forks = by 0 (steals 0 0) ∷ by 0 (does 0) ∷ []

abbrev it_forked : Moment
it_forked = moment_of (entry 0 (Some 0) (1 ∷ []) ∷ entry 1 None [] ∷ []) [] (book false (Some 0) (0 ∷ []) ∷ [])

it_forks_so : ready_replay (setting one_fork 16 2) it_forks ≡ Some it_forked
it_forks_so = refl

child_before_parent : threads_in it_forked.deques ≡ (1 ∷ []) ∷ [] ∷ []
child_before_parent = refl

first_missing : IsPrefix one_fork (done_at it_forked) 1
first_missing = record { inside = omega arith; all_done = all_done; next_missing = λ lt. refl }
  where
    all_done : (i : ℕ) → i < 1 → 0 < done_at it_forked i
    all_done zero lt = omega arith
    all_done (suc i) lt = absurd (omega (arith, lt))

nothing_ahead : periods_ahead 1 it_forked.books ≡ 0
nothing_ahead = refl

no_margin : bound 16 one_fork 0 ≡ live_at one_fork it_forked
no_margin = refl

-- ---- A root that forks a child; each of the two allocates 16 words and frees them.

abbrev two_blocks : List Action
two_blocks =
    act [] 0 (forks 1) 16
    ∷ act (1 ∷ []) 0 allocates 16
    ∷ act (1 ∷ []) 1 releases 16
    ∷ act (1 ∷ []) 2 ends 16
    ∷ act [] 1 allocates 16
    ∷ act [] 2 releases 16
    ∷ act [] 3 (joins 1) 0
    ∷ act [] 4 ends 0
    ∷ []

two_blocks_is_depth_first : IsDepthFirst 16 two_blocks
two_blocks_is_depth_first = record {
  last = after_join (after_action (after_action (after_fork start))) [];
  below = _;
  runs =
      goes_on [] start _ _ _ _ (forks_a_child [] _ (after_action (after_action start)) _
      (goes_on (1 ∷ []) start _ _ _ _ (acts (1 ∷ []) start allocates 16 (omega arith)) (acts (1 ∷ []) _ releases 16 tt)) refl)
      (goes_on [] _ _ _ _ _ (acts [] _ allocates 16 (omega arith))
      (goes_on [] _ _ _ _ _ (acts [] _ releases 16 tt)
      (joins_the_newest [] _ 1 [] 0 refl)));
  all_joined = refl;
  is = refl;
}

-- One worker, with a quota of 16 words, which the root's Fork fills. So the child gives up at its Alloc, and is taken again, since it is
-- the leftmost: three periods, none of them ahead, and at most 32 words in use.
abbrev three_periods : List Pair
three_periods = by 0 (steals 0 0) ∷ by 0 (does 0) ∷ by 0 gives_up ∷ by 0 (steals 0 0) ∷ by 0 (does 1) ∷ by 0 (does 2) ∷ by 0
    (does 3) ∷ by 0 (steals 0 1) ∷ by 0 (does 4) ∷ by 0 (does 5) ∷ by 0 (does 6) ∷ by 0 (does 7) ∷ []

abbrev three_periods_end : Moment
three_periods_end = moment_of [] [] (book false None (0 ∷ []) ∷ book false None (1 ∷ 2 ∷ 3 ∷ []) ∷ book false None
    (4 ∷ 5 ∷ 6 ∷ 7 ∷ []) ∷ [])

three_periods_is_a_run : ReadyReaches (setting two_blocks 16 1) opening three_periods three_periods_end
three_periods_is_a_run = replays_are_runs (setting two_blocks 16 1) two_blocks_is_depth_first three_periods three_periods_end refl

three_periods_is_the_play : ReadyPlays (setting two_blocks 16 1) (limits arena) zeros 0 opening three_periods three_periods_end finished
three_periods_is_the_play =
    played_is_play (setting two_blocks 16 1) (omega arith) two_blocks_is_depth_first (limits arena) zeros 100
    (record { run = three_periods; last = three_periods_end; ending = finished }) refl

three_periods_high : high_water_mark two_blocks three_periods ≡ pos 32
three_periods_high = refl

-- ---- A root that allocates 48 words and frees them: with a quota of 16 they want 3 dummies.

abbrev large_alloc : List Action
large_alloc =
    act [] 0 (forks 1) 16
    ∷ act (1 ∷ []) 0 (forks 1) 16
    ∷ act (1 ∷ 1 ∷ []) 0 dummy 0
    ∷ act (1 ∷ 1 ∷ []) 1 ends 16
    ∷ act (1 ∷ []) 1 dummy 0
    ∷ act (1 ∷ []) 2 (joins 1) 0
    ∷ act (1 ∷ []) 3 ends 16
    ∷ act [] 1 dummy 0
    ∷ act [] 2 (joins 1) 0
    ∷ act [] 3 allocates 48
    ∷ act [] 4 releases 48
    ∷ act [] 5 ends 0
    ∷ []

large_alloc_is_depth_first : IsDepthFirst 16 large_alloc
unfolding shape_of halved
large_alloc_is_depth_first = record {
  last = after_action (after_action (after_tree start (tree_for 16 48)));
  below = _;
  runs = goes_on [] start _ _ _ _ (allocates_behind_a_tree [] start 48 (omega arith)) (acts [] _ releases 48 tt);
  all_joined = refl;
  is = refl;
}

-- One worker: seven periods, none of them ahead, and at most 48 words in use.
abbrev seven_periods : List Pair
seven_periods = by 0 (steals 0 0) ∷ by 0 (does 0) ∷ by 0 gives_up ∷ by 0 (steals 0 0) ∷ by 0 (does 1) ∷ by 0 (does 2) ∷ by 0
    (steals 0 0) ∷ by 0 (does 3) ∷ by 0 (steals 0 2) ∷ by 0 (does 4) ∷ by 0 (steals 0 2) ∷ by 0 (does 5) ∷ by 0 (does 6) ∷ by 0
    (steals 0 1) ∷ by 0 (does 7) ∷ by 0 (steals 0 1) ∷ by 0 (does 8) ∷ by 0 (does 9) ∷ by 0 (does 10) ∷ by 0 (does 11) ∷ []

abbrev seven_periods_end : Moment
seven_periods_end = moment_of [] [] (
    book false None (0 ∷ [])
    ∷ book false None (1 ∷ 2 ∷ [])
    ∷ book false None (3 ∷ [])
    ∷ book false None (4 ∷ [])
    ∷ book false None (5 ∷ 6 ∷ [])
    ∷ book false None (7 ∷ [])
    ∷ book false None (8 ∷ 9 ∷ 10 ∷ 11 ∷ [])
    ∷ []
    )

seven_periods_is_a_run : ReadyReaches (setting large_alloc 16 1) opening seven_periods seven_periods_end
seven_periods_is_a_run = replays_are_runs (setting large_alloc 16 1) large_alloc_is_depth_first seven_periods seven_periods_end refl

seven_periods_is_the_play : ReadyPlays (setting large_alloc 16 1) (limits arena) zeros 0 opening seven_periods seven_periods_end finished
seven_periods_is_the_play =
    played_is_play (setting large_alloc 16 1) (omega arith) large_alloc_is_depth_first (limits arena) zeros 100
    (record { run = seven_periods; last = seven_periods_end; ending = finished }) refl

seven_periods_high : high_water_mark large_alloc seven_periods ≡ pos 48
seven_periods_high = refl

-- In an arena of 32 words it stops at the Alloc, with no words in use.
abbrev before_the_alloc : Moment
before_the_alloc = moment_of (entry 1 (Some 0) [] ∷ []) [] (
    book false None (0 ∷ [])
    ∷ book false None (1 ∷ 2 ∷ [])
    ∷ book false None (3 ∷ [])
    ∷ book false None (4 ∷ [])
    ∷ book false None (5 ∷ 6 ∷ [])
    ∷ book false None (7 ∷ [])
    ∷ book false (Some 0) (8 ∷ [])
    ∷ []
    )

it_stops_there : ReadyPlays (setting large_alloc 16 1) (limits 32) zeros 0 opening (take 17 seven_periods) before_the_alloc (stopped
    (arena_full (pos 0) 48))
it_stops_there =
    played_is_play (setting large_alloc 16 1) (omega arith) large_alloc_is_depth_first (limits 32) zeros 100
    (record { run = take 17 seven_periods; last = before_the_alloc; ending = stopped (arena_full (pos 0) 48) }) refl
