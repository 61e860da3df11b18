-- The machine of a ready list, computed. It is the computed machine of deques with two changes: a steal comes only if all deques to the left
-- have owners, and a Fork cuts the deque of two threads in two.
use Rattle.std.specs.Prelude.{ℕ, zero, suc, Bool, true, cond, not, ◌&&◌, Option, None, Some, List, [], ◌∷◌, length}
use Rattle.depth_first_list.specs.Actions.{Deed, forks, joins, allocates, releases, dummy, faults, ends}
use Rattle.depth_first_list.specs.Facts.{deed_at}
use Rattle.deque_machine.specs.Moments.{Deque, Moment, opening, moment_of}
use Rattle.deque_machine.specs.Machine.{Setting, Event, steals, does, suspends, gives_up}
use Rattle.deque_machine.specs.Runs.{Pair}
use Rattle.deque_machine.specs.Step.{step}
use Rattle.deque_machine.specs.Played.{no_owner, least_id}
use Rattle.ready_machine.specs.Entries.{entry}

-- whether each of the first deques, so many, is owned
abbrev pub all_owned : ℕ → List Deque → Bool
all_owned zero deques = true
all_owned (suc n) [] = true
all_owned (suc n) (deque ∷ right) = not (no_owner deque.owner) && all_owned n right

-- the deques, where each deque of two threads is cut in two
abbrev pub cut_one : ℕ → Deque → List (List ℕ) → List Deque → List Deque
cut_one new deque [] right = deque ∷ right
cut_one new deque (thread ∷ []) right = deque ∷ right
cut_one new deque (upper ∷ lower ∷ []) right = entry deque.id deque.owner upper ∷ entry new None lower ∷ right
cut_one new deque (upper ∷ middle ∷ lower ∷ under) right = deque ∷ right

abbrev pub cut_in_two : ℕ → List Deque → List Deque
cut_in_two new [] = []
cut_in_two new (deque ∷ right) = cut_one new deque deque.threads (cut_in_two new right)

abbrev pub cut_moment : Option ℕ → Option Moment → Option Moment
cut_moment None next = None
cut_moment (Some new) None = None
cut_moment (Some new) (Some m) = Some (moment_of (cut_in_two new m.deques) m.waiting m.books)

abbrev pub cut_at_fork : Moment → Deed → Option Moment → Option Moment
cut_at_fork m (forks child) next = cut_moment (least_id m.deques 0 (suc (length m.deques))) next
cut_at_fork m (joins child) next = next
cut_at_fork m allocates next = next
cut_at_fork m releases next = next
cut_at_fork m dummy next = next
cut_at_fork m faults next = next
cut_at_fork m ends next = next

-- what an event of a worker leads to
abbrev pub ready_step : Setting → Moment → ℕ → Event → Option Moment
ready_step s m worker (steals place id) = cond (all_owned place m.deques) (step s m worker (steals place id)) None
ready_step s m worker (does place) = cut_at_fork m (deed_at s.list place) (step s m worker (does place))
ready_step s m worker suspends = step s m worker suspends
ready_step s m worker gives_up = step s m worker gives_up

-- the moment that events reach, or nothing where one is no case of the machine
abbrev pub replay_from : Setting → Option Moment → List Pair → Option Moment
replay_from s None pairs = None
replay_from s (Some m) [] = Some m
replay_from s (Some m) (pair ∷ later) = replay_from s (ready_step s m pair.worker pair.event) later

abbrev pub ready_replay : Setting → List Pair → Option Moment
ready_replay s pairs = replay_from s (Some opening) pairs
