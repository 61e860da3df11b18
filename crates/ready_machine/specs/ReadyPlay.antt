-- The play of a ready list: the one run that a list of words picks, one word a turn.
use Rattle.std.specs.Prelude.{◌≡◌, ◌⊎◌, ℕ, suc, ◌<◌, None, List, [], ◌∷◌, length}
use Rattle.deque_machine.specs.Lists.{Among}
use Rattle.deque_machine.specs.Moments.{Deque, Moment, owned_by}
use Rattle.deque_machine.specs.Machine.{Setting, Event, steals, HasEnded}
use Rattle.deque_machine.specs.Runs.{Pair}
use Rattle.deque_machine.specs.Play.{Limits, Stop, Ending, finished, stopped, IsFirst, Wants, Meets}
use Rattle.ready_machine.specs.Entries.{IsLeftmostReady}
use Rattle.ready_machine.specs.ReadyMachine.{MayReady}

-- some entry is ready
abbrev pub SomeReady : Moment → Type 0
SomeReady m = (deque : Deque) × Among deque m.deques × (deque.owner ≡ None)

-- a worker can move: it runs an entry, or some entry is ready
abbrev pub CanGo : Moment → ℕ → Type 0
CanGo m worker = (0 < owned_by worker m.deques) ⊎ SomeReady m

-- What the rules want of a worker: of an idle one to take the leftmost ready entry, and of one that runs an entry what the rules of deques
-- want of an owner (its next action; a give up, where the quota has no room for it; or to wait). No word decides anything here.
pub data WantsReady (s : Setting) (m : Moment) (worker : ℕ) : Event → Type 0 where
  a_take : (left right : List Deque) (id : ℕ) (thread : List ℕ) → owned_by worker m.deques ≡ 0
      → IsLeftmostReady m.deques left id thread right
      → WantsReady s m worker (steals (length left) id)
  of_its_entry : (event : Event) → 0 < owned_by worker m.deques → Wants s m worker 0 event → WantsReady s m worker event

-- the turn of a worker, after n words: it is the first that can move, and the rules want this event of it
pub record ReadyTurn (s : Setting) (words : ℕ → ℕ) (n : ℕ) (m : Moment) (pair : Pair) : Type 0 where
  pub not_over : ¬ HasEnded s m []
  pub first : IsFirst s.workers (words n) (CanGo m) pair.worker
  pub wants : WantsReady s m pair.worker pair.event

-- The play: from a moment on, after n words, these events come, up to a last moment and an ending.
pub data ReadyPlays (s : Setting) (limits : Limits) (words : ℕ → ℕ) : ℕ → Moment → List Pair → Moment → Ending → Type 0 where
  is_over : (n : ℕ) (m : Moment) → HasEnded s m [] → ReadyPlays s limits words n m [] m finished
  is_stopped : (n : ℕ) (m : Moment) (pair : Pair) (stop : Stop) → ReadyTurn s words n m pair → Meets s limits m pair.event stop
      → ReadyPlays s limits words n m [] m (stopped stop)
  goes_on : (n : ℕ) (m next last : Moment) (pair : Pair) (later : List Pair) (ending : Ending) → ReadyTurn s words n m pair
      → ((stop : Stop) → ¬ Meets s limits m pair.event stop) → MayReady s m pair.worker pair.event next
      → ReadyPlays s limits words (suc n) next later last ending → ReadyPlays s limits words n m (pair ∷ later) last ending
