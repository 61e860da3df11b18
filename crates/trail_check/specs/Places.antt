-- Where the threads of a moment are, as a checker has them.
use Rattle.std.specs.Prelude.{◌≡◌, ◌↔◌, ℕ, ◌<◌, Bool, true, false, Option, None, Some, List, [], ◌∷◌, ◌++◌, length, map, get_or}
use Rattle.depth_first_list.specs.Actions.{joins, Action}
use Rattle.depth_first_list.specs.Facts.{label_at, deed_at, IsNext}
use Rattle.deque_machine.specs.Lists.{Among, Each}
use Rattle.deque_machine.specs.Books.{Book, charged}
use Rattle.deque_list.specs.Deques.{Deque}
use Rattle.deque_machine.specs.Moments as machine
use Rattle.deque_machine.specs.Moments.{Waiting, Moment, done_at, owned_by}
use Rattle.deque_machine.specs.Machine.{Setting}
use Rattle.trail_check.specs.declared.seat.Seat.{Seat}

-- A deque of the machine. Of each thread the checker has the place of its next action; its label is the label there.
abbrev pub deque_shown : List Action → Deque ℕ → machine.Deque
deque_shown l d = machine.deque_of d.id.0 d.owner (map (label_at l) d.items)

-- the places in the deques, from left to right and from top to bottom
abbrev pub places_in : List (Deque ℕ) → List ℕ
places_in [] = []
places_in (d ∷ right) = d.items ++ places_in right

-- the action at a place is the next one of its thread
abbrev pub IsNextHere : List Action → (ℕ → ℕ) → ℕ → Type 0
IsNextHere l done place = IsNext l done (label_at l place) place

-- a thread waits, and its next action is the Join at this place
abbrev pub WaitsAt : List Action → List Waiting → ℕ → Type 0
WaitsAt l waiting place = (w : Waiting) × Among w waiting × (label_at l place ≡ w.thread) × (deed_at l place ≡ joins w.child)

-- if a deque is the worker's, it has this id
abbrev pub HasId : ℕ → ℕ → machine.Deque → Type 0
HasId worker id d = d.owner ≡ Some worker → d.id ≡ id

-- if a book is open for the worker, its period has used so many words of the quota
abbrev pub HasUsed : Setting → ℕ → ℕ → Book → Type 0
HasUsed s worker used b = b.owner ≡ Some worker → charged s.quota s.list b.ran ≡ used

-- a busy worker owns one deque, with the id of its seat, and its period has used the words of its seat
pub record Sits (s : Setting) (m : Moment) (worker : ℕ) (seat : Seat) : Type 0 where
  pub owns_one : owned_by worker m.deques ≡ 1
  pub deque : Each (HasId worker seat.deque.0) m.deques
  pub used : Each (HasUsed s worker seat.used) m.books

-- a worker without a seat owns no deque
abbrev pub SeatIs : Setting → Moment → ℕ → Option Seat → Type 0
SeatIs s m worker None = owned_by worker m.deques ≡ 0
SeatIs s m worker (Some seat) = Sits s m worker seat

-- The threads are where the machine has them: in the deques, each by the place of its next action; with the workers; and waiting, each by
-- the place of its Join.
pub record PlacesAre (s : Setting) (m : Moment) (deques : List (Deque ℕ)) (seats : List (Option Seat)) (waits : List Bool) : Type 0 where
  pub deques_are : m.deques ≡ map (deque_shown s.list) deques
  pub next : Each (IsNextHere s.list (done_at m)) (places_in deques)
  pub seats_size : length seats ≡ s.workers
  pub seats_are : (worker : ℕ) → SeatIs s m worker (get_or seats worker None)
  pub waits_size : length waits ≡ length s.list
  pub waits_are : (place : ℕ) → place < length s.list → (get_or waits place false ≡ true) ↔ WaitsAt s.list m.waiting place
