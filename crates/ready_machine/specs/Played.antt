-- Play of a ready list, computed.
use Rattle.std.specs.Prelude.{ℕ, zero, suc, Bool, false, cond, ◌||◌, nat_eq, nat_lt, nat_le, Option, None, Some, List, [], ◌∷◌, length}
use Rattle.depth_first_list.specs.Facts.{words_at}
use Rattle.deque_machine.specs.Books.{booked}
use Rattle.deque_machine.specs.Moments.{Deque, Moment, done_at, live_at, owned_by}
use Rattle.deque_machine.specs.Machine.{Setting, Event, steals, does, suspends, gives_up}
use Rattle.deque_machine.specs.Runs.{Pair}
use Rattle.deque_machine.specs.Play.{Limits, Stop, arena_full, steps_spent, finished}
use Rattle.deque_machine.specs.Tests.{ended_by}
use Rattle.deque_machine.specs.Step.{hand_of}
use Rattle.deque_machine.specs.Played.{first_passing, no_owner, wanted_of, fills, Played, played_behind, played_stopped}
use Rattle.ready_machine.specs.Step.{ready_step}

-- whether some entry is ready, and whether a worker can move
abbrev pub any_ready : List Deque → Bool
any_ready [] = false
any_ready (deque ∷ right) = no_owner deque.owner || any_ready right

abbrev pub can_go : Moment → ℕ → Bool
can_go m worker = nat_lt 0 (owned_by worker m.deques) || any_ready m.deques

-- the Take of the leftmost ready entry, where the first of these is at a place
abbrev pub take_from : ℕ → List Deque → Option Event
take_from place [] = None
take_from place (deque ∷ right) = cond (no_owner deque.owner) (Some (steals place deque.id)) (take_from (suc place) right)

-- what the rules want of a worker
abbrev pub wants_of : Setting → Moment → ℕ → Option Event
wants_of s m worker = cond (nat_eq (owned_by worker m.deques) 0) (take_from 0 m.deques) (wanted_of s m (hand_of m worker))

-- the stop that an event meets, or none
abbrev pub stop_of : Setting → Limits → Moment → Event → Option Stop
stop_of s limits m (steals place id) = None
stop_of s limits m (does place) = cond (fills s limits m place) (Some (arena_full (live_at s.list m) (words_at s.list place)))
    (cond (nat_le limits.actions (length (booked m.books))) (Some (steps_spent limits.actions)) None)
stop_of s limits m suspends = None
stop_of s limits m gives_up = None

-- the rest of a play, by the stop that its next event meets, that event, and its worker
abbrev pub played_unless : (ℕ → Moment → Option Played) → Setting → Moment → ℕ → Pair → Option Stop → Option Played
played_unless more s m n pair (Some stop) = played_stopped m stop
played_unless more s m n pair None = played_behind more (suc n) pair (ready_step s m pair.worker pair.event)

abbrev pub played_with : (ℕ → Moment → Option Played) → Setting → Limits → Moment → ℕ → ℕ → Option Event → Option Played
played_with more s limits m n worker None = None
played_with more s limits m n worker (Some event) =
    played_unless more s m n (record { worker = worker; event = event }) (stop_of s limits m event)

abbrev pub played_by : (ℕ → Moment → Option Played) → Setting → Limits → Moment → ℕ → Option ℕ → Option Played
played_by more s limits m n None = None
played_by more s limits m n (Some worker) = played_with more s limits m n worker (wants_of s m worker)

-- the play from a moment on, after n words, where it has fewer events than turns
abbrev pub ready_play : Setting → Limits → (ℕ → ℕ) → ℕ → ℕ → Moment → Option Played
ready_play s limits words zero n m = None
ready_play s limits words (suc turns) n m =
    cond (ended_by s.list (done_at m) [] (length s.list)) (Some (record { run = []; last = m; ending = finished }))
    (played_by (ready_play s limits words turns) s limits m n (first_passing (can_go m) s.workers (words n) 0 s.workers))
