-- Play: the one run of the machine that a list of words picks, and how runs end.
use Rattle.std.specs.Prelude.{◌≡◌, ◌≢◌, ◌⊎◌, ℕ, suc, ◌+◌, ◌%◌, ◌<◌, ◌≤◌, min, None, Some, slice_get, cond, nat_eq, List, [], ◌∷◌, length, ℤ, pos, ◌+ℤ◌, ◌<ℤ◌}
use Rattle.depth_first_run.specs.Passed.Actions.{Deed, forks, joins, allocates, Action}
use Rattle.dag_order.specs.LabelOrder.{fork_of}
use Rattle.depth_first_run.specs.Passed.Facts.{action_at, deed_at, words_at, IsNext}
use Rattle.deque_machine.specs.Books.{booked, charged, charge_at}
use Rattle.deque_machine.specs.Moments.{Deque, Moment, done_at, live_at, owned_by, with_id}
use Rattle.deque_machine.specs.Machine.{Setting, Event, steals, does, suspends, gives_up, Owns, IsAtTop, HasEnded, May}
use Rattle.deque_machine.specs.Runs.{Pair, Reaches}

-- the next action of a worker's top thread takes more of the quota than its period has left: then a give up is not free
pub record IsForced (s : Setting) (m : Moment) (worker : ℕ) : Type 0 where
  pub owner : Owns m worker
  pub place : ℕ
  pub next : IsNext s.list (done_at m) owner.top place
  pub no_room : s.quota < charged s.quota s.list owner.book.ran + charge_at s.quota s.list place

-- no give up of a run is free
abbrev pub NoneFree : (s : Setting) (first : Moment) (run : List Pair) (last : Moment) → Reaches s first run last → Type 0
NoneFree s first [] last reaches = Unit {0}
NoneFree s first (pair ∷ later) last reaches = (pair.event ≡ gives_up → IsForced s first pair.worker) ×
    NoneFree s reaches.0 later last reaches.2

-- the words that an action takes, where it takes any
abbrev pub taken_by : Deed → ℕ → ℕ
taken_by (forks child) words = words
taken_by allocates words = words
taken_by other words = 0

abbrev pub words_taken : Action → ℕ
words_taken action = taken_by action.deed action.words

abbrev pub counts_fork : Deed → ℕ
counts_fork (forks child) = 1
counts_fork other = 0

abbrev pub one_if_fork : Action → ℕ
one_if_fork action = counts_fork action.deed

-- what may stop a play: the words of its arena, the actions that it may do, and the deques that it may have
pub record Limits : Type 0 where
  pub capacity : ℕ
  pub actions : ℕ
  pub deques : ℕ

pub data Stop : Type 0 where
  arena_full : ℤ → ℕ → Stop
  steps_spent : ℕ → Stop
  deques_full : ℕ → Stop

-- how a play ends: with the End of the root, or with a stop and its numbers
pub data Ending : Type 0 where
  finished : Ending
  stopped : Stop → Ending

-- x is the first that passes of word, word + 1, and so on, each modulo n, once round
pub record IsFirst (n word : ℕ) (Passes : ℕ → Type 0) (x : ℕ) : Type 0 where
  pub turns : ℕ
  pub few : turns < n
  pub is : x ≡ (word + turns) % n
  pub passes : Passes x
  pub none_before : (e : ℕ) → e < turns → ¬ Passes ((word + e) % n)

-- the deque at a place has a thread to steal: it has no owner, or at least two threads
abbrev pub IsReady : Moment → ℕ → Type 0
IsReady m place = (deque : Deque) × (slice_get m.deques place ≡ Some deque) × ((deque.owner ≡ None) ⊎ (2 ≤ length deque.threads))

-- how many deques are in reach of a thief
abbrev pub reach : Setting → Moment → ℕ
reach s m = min s.workers (length m.deques)

-- an owner can always move, an idle worker where a deque in reach has a thread to steal
abbrev pub CanMove : Setting → Moment → ℕ → Type 0
CanMove s m worker = (0 < owned_by worker m.deques) ⊎ ((place : ℕ) × (place < reach s m) × IsReady m place)

-- a deque stays behind a theft
abbrev pub Stays : Deque → Type 0
Stays deque = (deque.owner ≢ None) ⊎ (2 ≤ length deque.threads)

-- the id of the thief's deque: that of the one that it takes over, and else the least that no deque has
abbrev pub IsThiefsId : Moment → ℕ → ℕ → Type 0
IsThiefsId m place id = (deque : Deque) × (slice_get m.deques place ≡ Some deque)
    × ((¬ Stays deque × (id ≡ deque.id)) ⊎ (Stays deque × (with_id id m.deques ≡ 0) × ((i : ℕ) → i < id → 0 < with_id i m.deques)))

-- what the rules want of a worker, with a word for the choice of its victim
pub data Wants (s : Setting) (m : Moment) (worker word : ℕ) : Event → Type 0 where
  a_theft : (place id : ℕ) → owned_by worker m.deques ≡ 0 → IsFirst (reach s m) word (IsReady m) place → IsThiefsId m place id
      → Wants s m worker word (steals place id)
  a_give_up : IsForced s m worker → Wants s m worker word gives_up
  a_wait : (o : Owns m worker) (place child : ℕ) → IsAtTop s m o.top place (joins child) → ¬ HasEnded s m (fork_of o.top child) →
      Wants s m worker word suspends
  an_action : (o : Owns m worker) (place : ℕ) → IsNext s.list (done_at m) o.top place
      → ((child : ℕ) → deed_at s.list place ≡ joins child → HasEnded s m (fork_of o.top child))
      → charged s.quota s.list o.book.ran + charge_at s.quota s.list place ≤ s.quota → Wants s m worker word (does place)

-- an Alloc or a Fork does not fit the arena
abbrev pub Fills : Setting → Limits → Moment → ℕ → Type 0
Fills s limits m place = (0 < words_taken (action_at s.list place)) ×
    (pos limits.capacity <ℤ (live_at s.list m +ℤ pos (words_at s.list place)))

-- the stop that an event meets
pub data Meets (s : Setting) (limits : Limits) (m : Moment) : Event → Stop → Type 0 where
  no_deque : (place id : ℕ) (deque : Deque) → slice_get m.deques place ≡ Some deque → Stays deque → limits.deques ≤ length m.deques
      → Meets s limits m (steals place id) (deques_full limits.deques)
  no_words : (place : ℕ) → Fills s limits m place → Meets s limits m (does place) (arena_full (live_at s.list m) (words_at s.list place))
  no_steps : (place : ℕ) → ¬ Fills s limits m place → limits.actions ≤ length (booked m.books) →
      Meets s limits m (does place) (steps_spent limits.actions)

-- the turn of a worker, behind n words: it is the first that can move, and the rules want this event of it
pub record Turn (s : Setting) (words : ℕ → ℕ) (n : ℕ) (m : Moment) (pair : Pair) : Type 0 where
  pub not_over : ¬ HasEnded s m []
  pub first : IsFirst s.workers (words n) (CanMove s m) pair.worker
  pub wants : Wants s m pair.worker (words (suc n)) pair.event

-- how many words a turn draws: a thief draws a second one
abbrev pub words_drawn : Moment → ℕ → ℕ
words_drawn m worker = cond (nat_eq (owned_by worker m.deques) 0) 2 1

-- Play: from a moment on, behind n words, these events come, up to a last moment and an ending
pub data Plays (s : Setting) (limits : Limits) (words : ℕ → ℕ) : ℕ → Moment → List Pair → Moment → Ending → Type 0 where
  is_over : (n : ℕ) (m : Moment) → HasEnded s m [] → Plays s limits words n m [] m finished
  is_stopped : (n : ℕ) (m : Moment) (pair : Pair) (stop : Stop) → Turn s words n m pair → Meets s limits m pair.event stop
      → Plays s limits words n m [] m (stopped stop)
  goes_on : (n : ℕ) (m next last : Moment) (pair : Pair) (later : List Pair) (ending : Ending) → Turn s words n m pair
      → ((stop : Stop) → ¬ Meets s limits m pair.event stop) → May s m pair.worker pair.event next
      → Plays s limits words (n + words_drawn m pair.worker) next later last ending → Plays s limits words n m (pair ∷ later) last ending
