-- How the events of a trail follow one another.
use Rattle.std.specs.Prelude.{ℕ, ◌≤◌, List, [], ◌∷◌, length, pos, ◌≤ℤ◌}
use Rattle.deque_machine.specs.Books.{booked}
use Rattle.deque_machine.specs.Machine.{Setting, Event, steals, does, suspends, gives_up, May}
use Rattle.deque_machine.specs.Moments.{Moment, live_at}
use Rattle.deque_machine.specs.Play.{Limits, IsThiefsId}
use Rattle.deque_machine.specs.Runs.{Pair}
use Rattle.trail_meaning.specs.declared.trail_event.TrailEvent.{TrailEvent}
use Rattle.trail_meaning.specs.declared.trail_kind.TrailKind.{TrailKind}
use Rattle.trail_meaning.specs.declared.trail_kind.TrailKind.TheVariants.{Steal, Act, Suspend, GiveUp}

-- The kind of a trail's event says an event of the machine, at a moment. A trail has no ids: a thief's deque has the id of the deque that
-- it takes over, or else the least that no deque has. Nor has it actions: to act is to do the next action of the top thread, and the
-- machine allows no other.
pub data Tells (m : Moment) : TrailKind → Event → Type 0 where
  tells_steal : (place id : ℕ) → IsThiefsId m place id → Tells m (Steal place) (steals place id)
  tells_action : (place : ℕ) → Tells m Act (does place)
  tells_wait : Tells m Suspend suspends
  tells_give_up : Tells m GiveUp gives_up

-- a moment within the limits: the words in use fit the arena, and there are at most so many actions in the books, and so many deques
pub record IsWithin (s : Setting) (limits : Limits) (m : Moment) : Type 0 where
  pub words : live_at s.list m ≤ℤ pos limits.capacity
  pub actions : length (booked m.books) ≤ limits.actions
  pub deques : length m.deques ≤ limits.deques

-- an event of a trail leads from a moment to the next: it says an event of the machine, which its worker may do, and after which the moment
-- is within the limits
pub record Leads (s : Setting) (limits : Limits) (m : Moment) (told : TrailEvent) (event : Event) (next : Moment) : Type 0 where
  pub tells : Tells m told.kind event
  pub may : May s m told.worker event next
  pub within : IsWithin s limits next

-- the pair of an event and its worker
abbrev pub pair_of : ℕ → Event → Pair
pair_of worker event = record { worker = worker; event = event }

-- From a moment on, the events of a trail lead one after another, by this run, to the last moment.
pub data Follows (s : Setting) (limits : Limits) : Moment → List TrailEvent → List Pair → Moment → Type 0 where
  stays : (m : Moment) → Follows s limits m [] [] m
  goes_on : (m next last : Moment) (told : TrailEvent) (event : Event) (later : List TrailEvent) (run : List Pair)
      → Leads s limits m told event next → Follows s limits next later run last
      → Follows s limits m (told ∷ later) (pair_of told.worker event ∷ run) last
