-- Worked runs of the machine, and pairs that never come.
use Rattle.std.proofs.Common.{◌≡◌, ℕ, Bool, true, false, List, [], ◌∷◌, refl, take, pos, get_or}
use Rattle.std.specs.Prelude.{Option, None, Some}
use Rattle.std.specs.declared.result.Result.TheVariants.{Ok, Err}
use Rattle.depth_first_run.specs.Passed.Actions.{Deed, forks, joins, allocates, releases, dummy, ends, Action}
use Rattle.deque_machine.specs.Books.{Book}
use Rattle.deque_machine.specs.Moments.{Deque, opening}
use Rattle.deque_machine.specs.Machine.{Setting, Event, steals, does, suspends, gives_up}
use Rattle.deque_machine.specs.Runs.{Pair, high_water_mark}
use Rattle.deque_machine.specs.Play.{Limits, arena_full, steps_spent, deques_full, Ending, finished, stopped}
use Rattle.deque_machine.specs.Played.{Played, play}
use Rattle.deque_machine.specs.Step.{replay, moment_of}

abbrev act : List ℕ → ℕ → Deed → ℕ → Action
act label index deed words = record { label = label; index = index; deed = deed; words = words }

abbrev by : ℕ → Event → Pair
by worker event = record { worker = worker; event = event }

abbrev deque : ℕ → Option ℕ → List (List ℕ) → Deque
deque id owner threads = record { id = id; owner = owner; threads = threads }

abbrev book : Bool → Option ℕ → List ℕ → Book
book ahead owner ran = record { ahead = ahead; owner = owner; ran = ran }

abbrev setting : List Action → ℕ → ℕ → Setting
setting list quota workers = record { list = list; quota = quota; workers = workers }

-- A root that allocates 48 words and frees them: with a quota of 16 they want 3 dummies.
abbrev large_alloc : List Action
large_alloc =
    act [] 0 (forks 1) 16
    ∷ act (1 ∷ []) 0 (forks 1) 16
    ∷ act (1 ∷ 1 ∷ []) 0 dummy 0
    ∷ act (1 ∷ 1 ∷ []) 1 ends 16
    ∷ act (1 ∷ []) 1 dummy 0
    ∷ act (1 ∷ []) 2 (joins 1) 0
    ∷ act (1 ∷ []) 3 ends 16
    ∷ act [] 1 dummy 0
    ∷ act [] 2 (joins 1) 0
    ∷ act [] 3 allocates 48
    ∷ act [] 4 releases 48
    ∷ act [] 5 ends 0
    ∷ []

-- A root that forks a child, which does nothing, and joins it.
abbrev one_fork : List Action
one_fork =
    act [] 0 (forks 1) 16
    ∷ act (1 ∷ []) 0 ends 16
    ∷ act [] 1 (joins 1) 0
    ∷ act [] 2 ends 0
    ∷ []

-- A root that forks a child; each of the two allocates 16 words and frees them.
abbrev two_blocks : List Action
two_blocks =
    act [] 0 (forks 1) 16
    ∷ act (1 ∷ []) 0 allocates 16
    ∷ act (1 ∷ []) 1 releases 16
    ∷ act (1 ∷ []) 2 ends 16
    ∷ act [] 1 allocates 16
    ∷ act [] 2 releases 16
    ∷ act [] 3 (joins 1) 0
    ∷ act [] 4 ends 0
    ∷ []

-- Without an event it is the opening moment.
nothing_ends : replay (setting one_fork 16 2) [] ≡ Ok opening
nothing_ends = refl

-- One worker with a quota of 16 words: seven periods, two of them marked, and at most 48 words in use.
abbrev seven_periods : List Pair
seven_periods = by 0 (steals 0 0) ∷ by 0 (does 0) ∷ by 0 gives_up ∷ by 0 (steals 0 1) ∷ by 0 (does 7) ∷ by 0 (steals 0 0) ∷ by 0 (does 1) ∷ by 0 (does 2) ∷ by 0 (steals 0 2) ∷ by 0 (does 4) ∷ by 0 (steals 0 0) ∷ by 0 (does 3) ∷ by 0 (steals 0 2) ∷ by 0 (does 5) ∷ by 0 (does 6) ∷ by 0 (steals 0 1) ∷ by 0 (does 8) ∷ by 0 (does 9) ∷ by 0 (does 10) ∷ by 0 (does 11) ∷ []

seven_periods_high : high_water_mark large_alloc seven_periods ≡ pos 48
seven_periods_high = refl

-- Two workers: one steals the root behind its Fork, has to wait, and the child's End wakes it.
abbrev stolen_root : List Pair
stolen_root = by 0 (steals 0 0) ∷ by 0 (does 0) ∷ by 1 (steals 0 1) ∷ by 1 suspends ∷ by 0 (does 1) ∷ by 0 (does 2) ∷ by 0 (does 3) ∷ []

stolen_root_ends : replay (setting one_fork 16 2) stolen_root ≡ Ok (moment_of ([]) ([]) (book false None (0 ∷ 1 ∷ 2 ∷ 3 ∷ []) ∷ book true None ([]) ∷ []))
stolen_root_ends = refl

stolen_root_high : high_water_mark one_fork stolen_root ≡ pos 16
stolen_root_high = refl

-- The same run where the root waits.
abbrev stolen_root_waits : List Pair
stolen_root_waits = by 0 (steals 0 0) ∷ by 0 (does 0) ∷ by 1 (steals 0 1) ∷ by 1 suspends ∷ []

stolen_root_waits_ends : replay (setting one_fork 16 2) stolen_root_waits ≡ Ok (moment_of (deque 0 (Some 0) ((1 ∷ []) ∷ []) ∷ []) (record { thread = []; child = 1 } ∷ []) (book false (Some 0) (0 ∷ []) ∷ book true None ([]) ∷ []))
stolen_root_waits_ends = refl

-- Two workers whose blocks are live at once, over a peak of 32 words.
abbrev both_blocks : List Pair
both_blocks = by 0 (steals 0 0) ∷ by 0 (does 0) ∷ by 1 (steals 0 1) ∷ by 0 (does 1) ∷ by 1 (does 4) ∷ by 1 (does 5) ∷ by 1 suspends ∷ by 0 (does 2) ∷ by 0 (does 3) ∷ by 0 (does 6) ∷ by 0 (does 7) ∷ []

both_blocks_ends : replay (setting two_blocks 32 2) both_blocks ≡ Ok (moment_of ([]) ([]) (book false None (0 ∷ 1 ∷ 2 ∷ 3 ∷ 6 ∷ 7 ∷ []) ∷ book true None (4 ∷ 5 ∷ []) ∷ []))
both_blocks_ends = refl

both_blocks_high : high_water_mark two_blocks both_blocks ≡ pos 48
both_blocks_high = refl

-- One worker that gives its deque up behind a Fork, though it had more to do.
abbrev given_up : List Pair
given_up = by 0 (steals 0 0) ∷ by 0 (does 0) ∷ by 0 gives_up ∷ by 0 (steals 0 1) ∷ by 0 suspends ∷ by 0 (steals 0 0) ∷ by 0 (does 1) ∷ by 0 (does 2) ∷ by 0 (does 3) ∷ []

given_up_ends : replay (setting one_fork 16 1) given_up ≡ Ok (moment_of ([]) ([]) (book false None (0 ∷ []) ∷ book true None ([]) ∷ book false None (1 ∷ 2 ∷ 3 ∷ []) ∷ []))
given_up_ends = refl

-- The same with another worker that goes on.
abbrev handed_over : List Pair
handed_over = by 0 (steals 0 0) ∷ by 0 (does 0) ∷ by 0 gives_up ∷ by 1 (steals 0 1) ∷ by 1 suspends ∷ by 1 (steals 0 0) ∷ by 1 (does 1) ∷ by 1 (does 2) ∷ by 1 (does 3) ∷ []

handed_over_ends : replay (setting one_fork 16 2) handed_over ≡ Ok (moment_of ([]) ([]) (book false None (0 ∷ []) ∷ book true None ([]) ∷ book false None (1 ∷ 2 ∷ 3 ∷ []) ∷ []))
handed_over_ends = refl

-- The moment behind each event of these runs, as a second program works it out from the table of events.

seven_periods_1 :
    replay (setting large_alloc 16 1) (take 1 seven_periods)
    ≡ Ok (moment_of
    (deque 0 (Some 0) ([] ∷ []) ∷ [])
    ([])
    (book false (Some 0) ([]) ∷ []))
seven_periods_1 = refl

seven_periods_2 :
    replay (setting large_alloc 16 1) (take 2 seven_periods)
    ≡ Ok (moment_of
    (deque 0 (Some 0) ((1 ∷ []) ∷ [] ∷ []) ∷ [])
    ([])
    (book false (Some 0) (0 ∷ []) ∷ []))
seven_periods_2 = refl

seven_periods_3 :
    replay (setting large_alloc 16 1) (take 3 seven_periods)
    ≡ Ok (moment_of
    (deque 0 None ((1 ∷ []) ∷ [] ∷ []) ∷ [])
    ([])
    (book false None (0 ∷ []) ∷ []))
seven_periods_3 = refl

seven_periods_4 :
    replay (setting large_alloc 16 1) (take 4 seven_periods)
    ≡ Ok (moment_of
    (deque 0 None ((1 ∷ []) ∷ []) ∷ deque 1 (Some 0) ([] ∷ []) ∷ [])
    ([])
    (book false None (0 ∷ []) ∷ book true (Some 0) ([]) ∷ []))
seven_periods_4 = refl

seven_periods_5 :
    replay (setting large_alloc 16 1) (take 5 seven_periods)
    ≡ Ok (moment_of
    (deque 0 None ((1 ∷ []) ∷ []) ∷ deque 1 None ([] ∷ []) ∷ [])
    ([])
    (book false None (0 ∷ []) ∷ book true None (7 ∷ []) ∷ []))
seven_periods_5 = refl

seven_periods_6 :
    replay (setting large_alloc 16 1) (take 6 seven_periods)
    ≡ Ok (moment_of
    (deque 0 (Some 0) ((1 ∷ []) ∷ []) ∷ deque 1 None ([] ∷ []) ∷ [])
    ([])
    (book false None (0 ∷ []) ∷ book true None (7 ∷ []) ∷ book false (Some 0) ([]) ∷ []))
seven_periods_6 = refl

seven_periods_7 :
    replay (setting large_alloc 16 1) (take 7 seven_periods)
    ≡ Ok (moment_of
    (deque 0 (Some 0) ((1 ∷ 1 ∷ []) ∷ (1 ∷ []) ∷ []) ∷ deque 1 None ([] ∷ []) ∷ [])
    ([])
    (book false None (0 ∷ []) ∷ book true None (7 ∷ []) ∷ book false (Some 0) (1 ∷ []) ∷ []))
seven_periods_7 = refl

seven_periods_8 :
    replay (setting large_alloc 16 1) (take 8 seven_periods)
    ≡ Ok (moment_of
    (deque 0 None ((1 ∷ 1 ∷ []) ∷ (1 ∷ []) ∷ []) ∷ deque 1 None ([] ∷ []) ∷ [])
    ([])
    (book false None (0 ∷ []) ∷ book true None (7 ∷ []) ∷ book false None (1 ∷ 2 ∷ []) ∷ []))
seven_periods_8 = refl

seven_periods_9 :
    replay (setting large_alloc 16 1) (take 9 seven_periods)
    ≡ Ok (moment_of
    (deque 0 None ((1 ∷ 1 ∷ []) ∷ []) ∷ deque 2 (Some 0) ((1 ∷ []) ∷ []) ∷ deque 1 None ([] ∷ []) ∷ [])
    ([])
    (book false None (0 ∷ []) ∷ book true None (7 ∷ []) ∷ book false None (1 ∷ 2 ∷ []) ∷ book true (Some 0) ([]) ∷ []))
seven_periods_9 = refl

seven_periods_10 :
    replay (setting large_alloc 16 1) (take 10 seven_periods)
    ≡ Ok (moment_of
    (deque 0 None ((1 ∷ 1 ∷ []) ∷ []) ∷ deque 2 None ((1 ∷ []) ∷ []) ∷ deque 1 None ([] ∷ []) ∷ [])
    ([])
    (book false None (0 ∷ []) ∷ book true None (7 ∷ []) ∷ book false None (1 ∷ 2 ∷ []) ∷ book true None (4 ∷ []) ∷ []))
seven_periods_10 = refl

seven_periods_11 :
    replay (setting large_alloc 16 1) (take 11 seven_periods)
    ≡ Ok (moment_of
    (deque 0 (Some 0) ((1 ∷ 1 ∷ []) ∷ []) ∷ deque 2 None ((1 ∷ []) ∷ []) ∷ deque 1 None ([] ∷ []) ∷ [])
    ([])
    (book false None (0 ∷ []) ∷ book true None (7 ∷ []) ∷ book false None (1 ∷ 2 ∷ []) ∷ book true None (4 ∷ []) ∷ book false (Some 0) ([]) ∷ []))
seven_periods_11 = refl

seven_periods_12 :
    replay (setting large_alloc 16 1) (take 12 seven_periods)
    ≡ Ok (moment_of
    (deque 2 None ((1 ∷ []) ∷ []) ∷ deque 1 None ([] ∷ []) ∷ [])
    ([])
    (book false None (0 ∷ []) ∷ book true None (7 ∷ []) ∷ book false None (1 ∷ 2 ∷ []) ∷ book true None (4 ∷ []) ∷ book false None (3 ∷ []) ∷ []))
seven_periods_12 = refl

seven_periods_13 :
    replay (setting large_alloc 16 1) (take 13 seven_periods)
    ≡ Ok (moment_of
    (deque 2 (Some 0) ((1 ∷ []) ∷ []) ∷ deque 1 None ([] ∷ []) ∷ [])
    ([])
    (book false None (0 ∷ []) ∷ book true None (7 ∷ []) ∷ book false None (1 ∷ 2 ∷ []) ∷ book true None (4 ∷ []) ∷ book false None (3 ∷ []) ∷ book false (Some 0) ([]) ∷ []))
seven_periods_13 = refl

seven_periods_14 :
    replay (setting large_alloc 16 1) (take 14 seven_periods)
    ≡ Ok (moment_of
    (deque 2 (Some 0) ((1 ∷ []) ∷ []) ∷ deque 1 None ([] ∷ []) ∷ [])
    ([])
    (book false None (0 ∷ []) ∷ book true None (7 ∷ []) ∷ book false None (1 ∷ 2 ∷ []) ∷ book true None (4 ∷ []) ∷ book false None (3 ∷ []) ∷ book false (Some 0) (5 ∷ []) ∷ []))
seven_periods_14 = refl

seven_periods_15 :
    replay (setting large_alloc 16 1) (take 15 seven_periods)
    ≡ Ok (moment_of
    (deque 1 None ([] ∷ []) ∷ [])
    ([])
    (book false None (0 ∷ []) ∷ book true None (7 ∷ []) ∷ book false None (1 ∷ 2 ∷ []) ∷ book true None (4 ∷ []) ∷ book false None (3 ∷ []) ∷ book false None (5 ∷ 6 ∷ []) ∷ []))
seven_periods_15 = refl

seven_periods_16 :
    replay (setting large_alloc 16 1) (take 16 seven_periods)
    ≡ Ok (moment_of
    (deque 1 (Some 0) ([] ∷ []) ∷ [])
    ([])
    (book false None (0 ∷ []) ∷ book true None (7 ∷ []) ∷ book false None (1 ∷ 2 ∷ []) ∷ book true None (4 ∷ []) ∷ book false None (3 ∷ []) ∷ book false None (5 ∷ 6 ∷ []) ∷ book false (Some 0) ([]) ∷ []))
seven_periods_16 = refl

seven_periods_17 :
    replay (setting large_alloc 16 1) (take 17 seven_periods)
    ≡ Ok (moment_of
    (deque 1 (Some 0) ([] ∷ []) ∷ [])
    ([])
    (book false None (0 ∷ []) ∷ book true None (7 ∷ []) ∷ book false None (1 ∷ 2 ∷ []) ∷ book true None (4 ∷ []) ∷ book false None (3 ∷ []) ∷ book false None (5 ∷ 6 ∷ []) ∷ book false (Some 0) (8 ∷ []) ∷ []))
seven_periods_17 = refl

seven_periods_18 :
    replay (setting large_alloc 16 1) (take 18 seven_periods)
    ≡ Ok (moment_of
    (deque 1 (Some 0) ([] ∷ []) ∷ [])
    ([])
    (book false None (0 ∷ []) ∷ book true None (7 ∷ []) ∷ book false None (1 ∷ 2 ∷ []) ∷ book true None (4 ∷ []) ∷ book false None (3 ∷ []) ∷ book false None (5 ∷ 6 ∷ []) ∷ book false (Some 0) (8 ∷ 9 ∷ []) ∷ []))
seven_periods_18 = refl

seven_periods_19 :
    replay (setting large_alloc 16 1) (take 19 seven_periods)
    ≡ Ok (moment_of
    (deque 1 (Some 0) ([] ∷ []) ∷ [])
    ([])
    (book false None (0 ∷ []) ∷ book true None (7 ∷ []) ∷ book false None (1 ∷ 2 ∷ []) ∷ book true None (4 ∷ []) ∷ book false None (3 ∷ []) ∷ book false None (5 ∷ 6 ∷ []) ∷ book false (Some 0) (8 ∷ 9 ∷ 10 ∷ []) ∷ []))
seven_periods_19 = refl

seven_periods_20 :
    replay (setting large_alloc 16 1) (take 20 seven_periods)
    ≡ Ok (moment_of
    ([])
    ([])
    (book false None (0 ∷ []) ∷ book true None (7 ∷ []) ∷ book false None (1 ∷ 2 ∷ []) ∷ book true None (4 ∷ []) ∷ book false None (3 ∷ []) ∷ book false None (5 ∷ 6 ∷ []) ∷ book false None (8 ∷ 9 ∷ 10 ∷ 11 ∷ []) ∷ []))
seven_periods_20 = refl

stolen_root_1 :
    replay (setting one_fork 16 2) (take 1 stolen_root)
    ≡ Ok (moment_of
    (deque 0 (Some 0) ([] ∷ []) ∷ [])
    ([])
    (book false (Some 0) ([]) ∷ []))
stolen_root_1 = refl

stolen_root_2 :
    replay (setting one_fork 16 2) (take 2 stolen_root)
    ≡ Ok (moment_of
    (deque 0 (Some 0) ((1 ∷ []) ∷ [] ∷ []) ∷ [])
    ([])
    (book false (Some 0) (0 ∷ []) ∷ []))
stolen_root_2 = refl

stolen_root_3 :
    replay (setting one_fork 16 2) (take 3 stolen_root)
    ≡ Ok (moment_of
    (deque 0 (Some 0) ((1 ∷ []) ∷ []) ∷ deque 1 (Some 1) ([] ∷ []) ∷ [])
    ([])
    (book false (Some 0) (0 ∷ []) ∷ book true (Some 1) ([]) ∷ []))
stolen_root_3 = refl

stolen_root_4 :
    replay (setting one_fork 16 2) (take 4 stolen_root)
    ≡ Ok (moment_of
    (deque 0 (Some 0) ((1 ∷ []) ∷ []) ∷ [])
    (record { thread = []; child = 1 } ∷ [])
    (book false (Some 0) (0 ∷ []) ∷ book true None ([]) ∷ []))
stolen_root_4 = refl

stolen_root_5 :
    replay (setting one_fork 16 2) (take 5 stolen_root)
    ≡ Ok (moment_of
    (deque 0 (Some 0) ([] ∷ []) ∷ [])
    ([])
    (book false (Some 0) (0 ∷ 1 ∷ []) ∷ book true None ([]) ∷ []))
stolen_root_5 = refl

stolen_root_6 :
    replay (setting one_fork 16 2) (take 6 stolen_root)
    ≡ Ok (moment_of
    (deque 0 (Some 0) ([] ∷ []) ∷ [])
    ([])
    (book false (Some 0) (0 ∷ 1 ∷ 2 ∷ []) ∷ book true None ([]) ∷ []))
stolen_root_6 = refl

stolen_root_7 :
    replay (setting one_fork 16 2) (take 7 stolen_root)
    ≡ Ok (moment_of
    ([])
    ([])
    (book false None (0 ∷ 1 ∷ 2 ∷ 3 ∷ []) ∷ book true None ([]) ∷ []))
stolen_root_7 = refl

both_blocks_1 :
    replay (setting two_blocks 32 2) (take 1 both_blocks)
    ≡ Ok (moment_of
    (deque 0 (Some 0) ([] ∷ []) ∷ [])
    ([])
    (book false (Some 0) ([]) ∷ []))
both_blocks_1 = refl

both_blocks_2 :
    replay (setting two_blocks 32 2) (take 2 both_blocks)
    ≡ Ok (moment_of
    (deque 0 (Some 0) ((1 ∷ []) ∷ [] ∷ []) ∷ [])
    ([])
    (book false (Some 0) (0 ∷ []) ∷ []))
both_blocks_2 = refl

both_blocks_3 :
    replay (setting two_blocks 32 2) (take 3 both_blocks)
    ≡ Ok (moment_of
    (deque 0 (Some 0) ((1 ∷ []) ∷ []) ∷ deque 1 (Some 1) ([] ∷ []) ∷ [])
    ([])
    (book false (Some 0) (0 ∷ []) ∷ book true (Some 1) ([]) ∷ []))
both_blocks_3 = refl

both_blocks_4 :
    replay (setting two_blocks 32 2) (take 4 both_blocks)
    ≡ Ok (moment_of
    (deque 0 (Some 0) ((1 ∷ []) ∷ []) ∷ deque 1 (Some 1) ([] ∷ []) ∷ [])
    ([])
    (book false (Some 0) (0 ∷ 1 ∷ []) ∷ book true (Some 1) ([]) ∷ []))
both_blocks_4 = refl

both_blocks_5 :
    replay (setting two_blocks 32 2) (take 5 both_blocks)
    ≡ Ok (moment_of
    (deque 0 (Some 0) ((1 ∷ []) ∷ []) ∷ deque 1 (Some 1) ([] ∷ []) ∷ [])
    ([])
    (book false (Some 0) (0 ∷ 1 ∷ []) ∷ book true (Some 1) (4 ∷ []) ∷ []))
both_blocks_5 = refl

both_blocks_6 :
    replay (setting two_blocks 32 2) (take 6 both_blocks)
    ≡ Ok (moment_of
    (deque 0 (Some 0) ((1 ∷ []) ∷ []) ∷ deque 1 (Some 1) ([] ∷ []) ∷ [])
    ([])
    (book false (Some 0) (0 ∷ 1 ∷ []) ∷ book true (Some 1) (4 ∷ 5 ∷ []) ∷ []))
both_blocks_6 = refl

both_blocks_7 :
    replay (setting two_blocks 32 2) (take 7 both_blocks)
    ≡ Ok (moment_of
    (deque 0 (Some 0) ((1 ∷ []) ∷ []) ∷ [])
    (record { thread = []; child = 1 } ∷ [])
    (book false (Some 0) (0 ∷ 1 ∷ []) ∷ book true None (4 ∷ 5 ∷ []) ∷ []))
both_blocks_7 = refl

both_blocks_8 :
    replay (setting two_blocks 32 2) (take 8 both_blocks)
    ≡ Ok (moment_of
    (deque 0 (Some 0) ((1 ∷ []) ∷ []) ∷ [])
    (record { thread = []; child = 1 } ∷ [])
    (book false (Some 0) (0 ∷ 1 ∷ 2 ∷ []) ∷ book true None (4 ∷ 5 ∷ []) ∷ []))
both_blocks_8 = refl

both_blocks_9 :
    replay (setting two_blocks 32 2) (take 9 both_blocks)
    ≡ Ok (moment_of
    (deque 0 (Some 0) ([] ∷ []) ∷ [])
    ([])
    (book false (Some 0) (0 ∷ 1 ∷ 2 ∷ 3 ∷ []) ∷ book true None (4 ∷ 5 ∷ []) ∷ []))
both_blocks_9 = refl

both_blocks_10 :
    replay (setting two_blocks 32 2) (take 10 both_blocks)
    ≡ Ok (moment_of
    (deque 0 (Some 0) ([] ∷ []) ∷ [])
    ([])
    (book false (Some 0) (0 ∷ 1 ∷ 2 ∷ 3 ∷ 6 ∷ []) ∷ book true None (4 ∷ 5 ∷ []) ∷ []))
both_blocks_10 = refl

both_blocks_11 :
    replay (setting two_blocks 32 2) (take 11 both_blocks)
    ≡ Ok (moment_of
    ([])
    ([])
    (book false None (0 ∷ 1 ∷ 2 ∷ 3 ∷ 6 ∷ 7 ∷ []) ∷ book true None (4 ∷ 5 ∷ []) ∷ []))
both_blocks_11 = refl

given_up_1 :
    replay (setting one_fork 16 1) (take 1 given_up)
    ≡ Ok (moment_of
    (deque 0 (Some 0) ([] ∷ []) ∷ [])
    ([])
    (book false (Some 0) ([]) ∷ []))
given_up_1 = refl

given_up_2 :
    replay (setting one_fork 16 1) (take 2 given_up)
    ≡ Ok (moment_of
    (deque 0 (Some 0) ((1 ∷ []) ∷ [] ∷ []) ∷ [])
    ([])
    (book false (Some 0) (0 ∷ []) ∷ []))
given_up_2 = refl

given_up_3 :
    replay (setting one_fork 16 1) (take 3 given_up)
    ≡ Ok (moment_of
    (deque 0 None ((1 ∷ []) ∷ [] ∷ []) ∷ [])
    ([])
    (book false None (0 ∷ []) ∷ []))
given_up_3 = refl

given_up_4 :
    replay (setting one_fork 16 1) (take 4 given_up)
    ≡ Ok (moment_of
    (deque 0 None ((1 ∷ []) ∷ []) ∷ deque 1 (Some 0) ([] ∷ []) ∷ [])
    ([])
    (book false None (0 ∷ []) ∷ book true (Some 0) ([]) ∷ []))
given_up_4 = refl

given_up_5 :
    replay (setting one_fork 16 1) (take 5 given_up)
    ≡ Ok (moment_of
    (deque 0 None ((1 ∷ []) ∷ []) ∷ [])
    (record { thread = []; child = 1 } ∷ [])
    (book false None (0 ∷ []) ∷ book true None ([]) ∷ []))
given_up_5 = refl

given_up_6 :
    replay (setting one_fork 16 1) (take 6 given_up)
    ≡ Ok (moment_of
    (deque 0 (Some 0) ((1 ∷ []) ∷ []) ∷ [])
    (record { thread = []; child = 1 } ∷ [])
    (book false None (0 ∷ []) ∷ book true None ([]) ∷ book false (Some 0) ([]) ∷ []))
given_up_6 = refl

given_up_7 :
    replay (setting one_fork 16 1) (take 7 given_up)
    ≡ Ok (moment_of
    (deque 0 (Some 0) ([] ∷ []) ∷ [])
    ([])
    (book false None (0 ∷ []) ∷ book true None ([]) ∷ book false (Some 0) (1 ∷ []) ∷ []))
given_up_7 = refl

given_up_8 :
    replay (setting one_fork 16 1) (take 8 given_up)
    ≡ Ok (moment_of
    (deque 0 (Some 0) ([] ∷ []) ∷ [])
    ([])
    (book false None (0 ∷ []) ∷ book true None ([]) ∷ book false (Some 0) (1 ∷ 2 ∷ []) ∷ []))
given_up_8 = refl

given_up_9 :
    replay (setting one_fork 16 1) (take 9 given_up)
    ≡ Ok (moment_of
    ([])
    ([])
    (book false None (0 ∷ []) ∷ book true None ([]) ∷ book false None (1 ∷ 2 ∷ 3 ∷ []) ∷ []))
given_up_9 = refl

handed_over_1 :
    replay (setting one_fork 16 2) (take 1 handed_over)
    ≡ Ok (moment_of
    (deque 0 (Some 0) ([] ∷ []) ∷ [])
    ([])
    (book false (Some 0) ([]) ∷ []))
handed_over_1 = refl

handed_over_2 :
    replay (setting one_fork 16 2) (take 2 handed_over)
    ≡ Ok (moment_of
    (deque 0 (Some 0) ((1 ∷ []) ∷ [] ∷ []) ∷ [])
    ([])
    (book false (Some 0) (0 ∷ []) ∷ []))
handed_over_2 = refl

handed_over_3 :
    replay (setting one_fork 16 2) (take 3 handed_over)
    ≡ Ok (moment_of
    (deque 0 None ((1 ∷ []) ∷ [] ∷ []) ∷ [])
    ([])
    (book false None (0 ∷ []) ∷ []))
handed_over_3 = refl

handed_over_4 :
    replay (setting one_fork 16 2) (take 4 handed_over)
    ≡ Ok (moment_of
    (deque 0 None ((1 ∷ []) ∷ []) ∷ deque 1 (Some 1) ([] ∷ []) ∷ [])
    ([])
    (book false None (0 ∷ []) ∷ book true (Some 1) ([]) ∷ []))
handed_over_4 = refl

handed_over_5 :
    replay (setting one_fork 16 2) (take 5 handed_over)
    ≡ Ok (moment_of
    (deque 0 None ((1 ∷ []) ∷ []) ∷ [])
    (record { thread = []; child = 1 } ∷ [])
    (book false None (0 ∷ []) ∷ book true None ([]) ∷ []))
handed_over_5 = refl

handed_over_6 :
    replay (setting one_fork 16 2) (take 6 handed_over)
    ≡ Ok (moment_of
    (deque 0 (Some 1) ((1 ∷ []) ∷ []) ∷ [])
    (record { thread = []; child = 1 } ∷ [])
    (book false None (0 ∷ []) ∷ book true None ([]) ∷ book false (Some 1) ([]) ∷ []))
handed_over_6 = refl

handed_over_7 :
    replay (setting one_fork 16 2) (take 7 handed_over)
    ≡ Ok (moment_of
    (deque 0 (Some 1) ([] ∷ []) ∷ [])
    ([])
    (book false None (0 ∷ []) ∷ book true None ([]) ∷ book false (Some 1) (1 ∷ []) ∷ []))
handed_over_7 = refl

handed_over_8 :
    replay (setting one_fork 16 2) (take 8 handed_over)
    ≡ Ok (moment_of
    (deque 0 (Some 1) ([] ∷ []) ∷ [])
    ([])
    (book false None (0 ∷ []) ∷ book true None ([]) ∷ book false (Some 1) (1 ∷ 2 ∷ []) ∷ []))
handed_over_8 = refl

handed_over_9 :
    replay (setting one_fork 16 2) (take 9 handed_over)
    ≡ Ok (moment_of
    ([])
    ([])
    (book false None (0 ∷ []) ∷ book true None ([]) ∷ book false None (1 ∷ 2 ∷ 3 ∷ []) ∷ []))
handed_over_9 = refl

-- An idle worker does no action.
idle_acts : replay (setting one_fork 16 2) (by 0 (steals 0 0) ∷ by 1 (does 0) ∷ []) ≡ Err 2
idle_acts = refl

-- And gives nothing up.
idle_gives_up : replay (setting one_fork 16 2) (by 0 gives_up ∷ []) ≡ Err 1
idle_gives_up = refl

-- An owner does not steal.
owner_steals : replay (setting one_fork 16 2) (by 0 (steals 0 0) ∷ by 0 (does 0) ∷ by 0 (steals 0 1) ∷ []) ≡ Err 3
owner_steals = refl

-- Nor does one who is no worker.
stranger_steals : replay (setting one_fork 16 2) (by 2 (steals 0 0) ∷ []) ≡ Err 1
stranger_steals = refl

-- The one thread of an owned deque is not stolen.
lone_thread_stolen : replay (setting one_fork 16 2) (by 0 (steals 0 0) ∷ by 1 (steals 0 1) ∷ []) ≡ Err 2
lone_thread_stolen = refl

-- A Join does not come before the End of the child.
join_too_early : replay (setting one_fork 16 2) (by 0 (steals 0 0) ∷ by 0 (does 0) ∷ by 1 (steals 0 1) ∷ by 1 (does 2) ∷ []) ≡ Err 4
join_too_early = refl

-- A thread does not wait for a child that has ended.
suspend_too_late : replay (setting one_fork 16 2) (by 0 (steals 0 0) ∷ by 0 (does 0) ∷ by 0 (does 1) ∷ by 0 suspends ∷ []) ≡ Err 4
suspend_too_late = refl

-- No action comes twice.
action_twice : replay (setting one_fork 16 2) (by 0 (steals 0 0) ∷ by 0 (does 0) ∷ by 0 (does 0) ∷ []) ≡ Err 3
action_twice = refl

-- The top thread acts, and no other.
bottom_acts : replay (setting one_fork 16 2) (by 0 (steals 0 0) ∷ by 0 (does 0) ∷ by 0 (does 2) ∷ []) ≡ Err 3
bottom_acts = refl

-- Behind a Dummy the period is over.
goes_on_behind_dummy : replay (setting large_alloc 16 1) (by 0 (steals 0 0) ∷ by 0 (does 0) ∷ by 0 gives_up ∷ by 0 (steals 0 1) ∷ by 0 (does 7) ∷ by 0 (does 8) ∷ []) ≡ Err 6
goes_on_behind_dummy = refl

-- A second Fork does not fit a quota of 16 words.
fork_above_quota : replay (setting large_alloc 16 1) (by 0 (steals 0 0) ∷ by 0 (does 0) ∷ by 0 (does 1) ∷ []) ≡ Err 3
fork_above_quota = refl

-- Behind a Fork and an Alloc of 16 words each a third 16 words do not fit a quota of 32.
alloc_above_quota : replay (setting two_blocks 32 2) (by 0 (steals 0 0) ∷ by 0 (does 0) ∷ by 0 (does 1) ∷ by 0 (does 2) ∷ by 0 (does 3) ∷ by 0 (does 4) ∷ []) ≡ Err 6
alloc_above_quota = refl

-- With one worker only the first deque is in reach.
beyond_the_workers : replay (setting large_alloc 16 1) (by 0 (steals 0 0) ∷ by 0 (does 0) ∷ by 0 gives_up ∷ by 0 (steals 0 1) ∷ by 0 (does 7) ∷ by 0 (steals 1 1) ∷ []) ≡ Err 6
beyond_the_workers = refl

-- A new deque has an id that no other has.
taken_id : replay (setting large_alloc 16 1) (by 0 (steals 0 0) ∷ by 0 (does 0) ∷ by 0 gives_up ∷ by 0 (steals 0 0) ∷ []) ≡ Err 4
taken_id = refl

-- Play: the words that pick a run, and 0 behind them.
abbrev words_of : List ℕ → ℕ → ℕ
words_of words n = get_or words n 0

abbrev ample : Limits
ample = record { capacity = 1000; actions = 1000; deques = 1000 }

-- how a play ends, and its events
abbrev ending_of : Option Played → Option Ending
ending_of None = None
ending_of (Some played) = Some played.ending

abbrev run_of : Option Played → List Pair
run_of None = []
run_of (Some played) = played.run

abbrev played : Setting → Limits → List ℕ → Option Played
played s limits words = play s limits (words_of words) 64 0 opening

plays_stolen_root : run_of (played (setting one_fork 16 2) ample (0 ∷ 0 ∷ 0 ∷ 1 ∷ 0 ∷ 1 ∷ 0 ∷ 0 ∷ 0 ∷ [])) ≡ stolen_root
plays_stolen_root = refl

plays_both_blocks : run_of (played (setting two_blocks 32 2) ample (0 ∷ 0 ∷ 0 ∷ 1 ∷ 0 ∷ 0 ∷ 1 ∷ 1 ∷ 1 ∷ 0 ∷ 0 ∷ 0 ∷ 0 ∷ [])) ≡ both_blocks
plays_both_blocks = refl

plays_seven_periods : run_of (played (setting large_alloc 16 1) ample []) ≡ seven_periods
plays_seven_periods = refl

plays_to_the_end : ending_of (played (setting large_alloc 16 1) ample []) ≡ Some finished
plays_to_the_end = refl

-- A small arena, few actions and few deques stop it.
plays_out_of_words : ending_of (played (setting large_alloc 16 1) (record { capacity = 16; actions = 1000; deques = 1000 }) []) ≡ Some (stopped (arena_full (pos 16) 16))
plays_out_of_words = refl

plays_out_of_steps : ending_of (played (setting large_alloc 16 1) (record { capacity = 1000; actions = 2; deques = 1000 }) []) ≡ Some (stopped (steps_spent 2))
plays_out_of_steps = refl

plays_out_of_deques : ending_of (played (setting large_alloc 16 1) (record { capacity = 1000; actions = 1000; deques = 2 }) []) ≡ Some (stopped (deques_full 2))
plays_out_of_deques = refl
