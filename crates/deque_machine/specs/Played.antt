-- Play, computed.
use Rattle.std.specs.Prelude.{ℕ, zero, suc, ◌+◌, ◌%◌, Bool, true, false, cond, not, ◌&&◌, ◌||◌, nat_eq, nat_lt, nat_le, Option, None, Some, slice_get, List, [], ◌∷◌, length, ℤ, pos, negsuc, ◌+ℤ◌}
use Rattle.dag_order.specs.LabelOrder.{fork_of}
use Rattle.depth_first_run.specs.Passed.Actions.{Deed, forks, joins, allocates, releases, dummy, faults, ends}
use Rattle.depth_first_run.specs.Passed.Facts.{action_at, deed_at, words_at}
use Rattle.deque_machine.specs.Books.{booked, charge_at, charged}
use Rattle.deque_machine.specs.Moments.{Deque, Moment, done_at, live_at, owned_by, with_id}
use Rattle.deque_machine.specs.Machine.{Setting, Event, steals, does, suspends, gives_up}
use Rattle.deque_machine.specs.Runs.{Pair}
use Rattle.deque_machine.specs.Play.{Limits, Stop, arena_full, steps_spent, deques_full, Ending, finished, stopped, reach, words_taken, words_drawn}
use Rattle.deque_machine.specs.Tests.{next_from, ended_by}
use Rattle.deque_machine.specs.Step.{Hand, hand_of, step}

-- the first that passes of so many numbers that are left, each modulo n
abbrev pub first_passing : (ℕ → Bool) → ℕ → ℕ → ℕ → ℕ → Option ℕ
first_passing passes n word turns zero = None
first_passing passes n word turns (suc left) =
    cond (passes ((word + turns) % n)) (Some ((word + turns) % n)) (first_passing passes n word (suc turns) left)

-- whether some number below n passes
abbrev pub any_below : (ℕ → Bool) → ℕ → Bool
any_below passes zero = false
any_below passes (suc n) = passes n || any_below passes n

abbrev pub no_owner : Option ℕ → Bool
no_owner None = true
no_owner (Some worker) = false

-- whether a deque has a thread to steal, and whether it stays behind the theft
abbrev pub deque_ready : Option Deque → Bool
deque_ready None = false
deque_ready (Some deque) = no_owner deque.owner || nat_le 2 (length deque.threads)

abbrev pub deque_stays : Deque → Bool
deque_stays deque = not (no_owner deque.owner) || nat_le 2 (length deque.threads)

abbrev pub is_ready : Moment → ℕ → Bool
is_ready m place = deque_ready (slice_get m.deques place)

abbrev pub can_move : Setting → Moment → ℕ → Bool
can_move s m worker = nat_lt 0 (owned_by worker m.deques) || any_below (is_ready m) (reach s m)

-- the least id from one on, with so many turns, that no deque has
abbrev pub least_id : List Deque → ℕ → ℕ → Option ℕ
least_id deques id zero = None
least_id deques id (suc turns) = cond (nat_eq (with_id id deques) 0) (Some id) (least_id deques (suc id) turns)

abbrev pub steals_into : ℕ → Option ℕ → Option Event
steals_into place None = None
steals_into place (Some id) = Some (steals place id)

abbrev pub theft_of : Moment → ℕ → Option Deque → Option Event
theft_of m place None = None
theft_of m place (Some deque) =
    cond (deque_stays deque) (steals_into place (least_id m.deques 0 (suc (length m.deques)))) (Some (steals place deque.id))

abbrev pub theft_at : Moment → Option ℕ → Option Event
theft_at m None = None
theft_at m (Some place) = theft_of m place (slice_get m.deques place)

-- what the rules want of an owner, at the next place of its top thread
abbrev pub wanted_by : Setting → Moment → Hand → ℕ → Deed → Event
wanted_by s m h place (forks child) = does place
wanted_by s m h place (joins child) = cond (ended_by s.list (done_at m) (fork_of h.top child) (length s.list)) (does place) suspends
wanted_by s m h place allocates = does place
wanted_by s m h place releases = does place
wanted_by s m h place dummy = does place
wanted_by s m h place faults = does place
wanted_by s m h place ends = does place

abbrev pub wanted_at : Setting → Moment → Hand → Option ℕ → Option Event
wanted_at s m h None = None
wanted_at s m h (Some place) =
    Some (cond (nat_lt s.quota (charged s.quota s.list ((h.books).here).ran + charge_at s.quota s.list place)) gives_up
    (wanted_by s m h place (deed_at s.list place)))

abbrev pub wanted_of : Setting → Moment → Option Hand → Option Event
wanted_of s m None = None
wanted_of s m (Some h) = wanted_at s m h (next_from s.list (done_at m) h.top 0 (length s.list))

abbrev pub wanted : Setting → Moment → ℕ → ℕ → Option Event
wanted s m worker word =
    cond (nat_eq (owned_by worker m.deques) 0) (theft_at m (first_passing (is_ready m) (reach s m) word 0 (reach s m)))
    (wanted_of s m (hand_of m worker))

-- whether a number of words is more than a capacity
abbrev pub exceeds : ℕ → ℤ → Bool
exceeds capacity (pos words) = nat_lt capacity words
exceeds capacity (negsuc words) = false

abbrev pub fills : Setting → Limits → Moment → ℕ → Bool
fills s limits m place =
    nat_lt 0 (words_taken (action_at s.list place)) && exceeds limits.capacity (live_at s.list m +ℤ pos (words_at s.list place))

-- the stop that an event meets, or none
abbrev pub stop_at : Limits → Moment → Option Deque → Option Stop
stop_at limits m None = None
stop_at limits m (Some deque) = cond (deque_stays deque && nat_le limits.deques (length m.deques)) (Some (deques_full limits.deques)) None

abbrev pub stop_of : Setting → Limits → Moment → Event → Option Stop
stop_of s limits m (steals place id) = stop_at limits m (slice_get m.deques place)
stop_of s limits m (does place) = cond (fills s limits m place) (Some (arena_full (live_at s.list m) (words_at s.list place)))
    (cond (nat_le limits.actions (length (booked m.books))) (Some (steps_spent limits.actions)) None)
stop_of s limits m suspends = None
stop_of s limits m gives_up = None

-- a run, the moment that it reaches, and how it ends
pub record Played : Type 0 where
  pub run : List Pair
  pub last : Moment
  pub ending : Ending

abbrev pub played_more : Pair → Option Played → Option Played
played_more pair None = None
played_more pair (Some rest) = Some (record { run = pair ∷ rest.run; last = rest.last; ending = rest.ending })

abbrev pub played_stopped : Moment → Stop → Option Played
played_stopped m stop = Some (record { run = []; last = m; ending = stopped stop })

-- the rest of a play behind a pair, by what the pair leads to, the stop that it meets, its event and its worker
abbrev pub played_behind : (ℕ → Moment → Option Played) → ℕ → Pair → Option Moment → Option Played
played_behind more n pair None = None
played_behind more n pair (Some next) = played_more pair (more n next)

abbrev pub played_unless : (ℕ → Moment → Option Played) → Setting → Moment → ℕ → Pair → Option Stop → Option Played
played_unless more s m n pair (Some stop) = played_stopped m stop
played_unless more s m n pair None = played_behind more (n + words_drawn m pair.worker) pair (step s m pair.worker pair.event)

abbrev pub played_with : (ℕ → Moment → Option Played) → Setting → Limits → Moment → ℕ → ℕ → Option Event → Option Played
played_with more s limits m n worker None = None
played_with more s limits m n worker (Some event) =
    played_unless more s m n (record { worker = worker; event = event }) (stop_of s limits m event)

abbrev pub played_by : (ℕ → Moment → Option Played) → Setting → Limits → (ℕ → ℕ) → Moment → ℕ → Option ℕ → Option Played
played_by more s limits words m n None = None
played_by more s limits words m n (Some worker) = played_with more s limits m n worker (wanted s m worker (words (suc n)))

-- the play from a moment on, behind n words, where it has fewer events than turns
abbrev pub play : Setting → Limits → (ℕ → ℕ) → ℕ → ℕ → Moment → Option Played
play s limits words zero n m = None
play s limits words (suc turns) n m =
    cond (ended_by s.list (done_at m) [] (length s.list)) (Some (record { run = []; last = m; ending = finished }))
    (played_by (play s limits words turns) s limits words m n (first_passing (can_move s m) s.workers (words n) 0 s.workers))
