-- What a steal answers of a seat that owns no deque.
use Rattle.std.specs.Prelude.{◌≡◌, ◌⊎◌, ℕ, Option, None, Some, Result, Ok, Err}
use Rattle.deque_list.specs.declared.deque_id.DequeId.{DequeId}
use Rattle.turn_table.specs.declared.held.Held.{Held}
use Rattle.hall_slots.specs.declared.event.Event.{Event}
use Rattle.hall_slots.specs.declared.event.Event.TheVariants.{Stole, Did, Suspended, GaveUp, Halted}
use Rattle.hall_thief.specs.Seeking.{HasSought}
use Rattle.hall_thief.specs.declared.prey.SeekRefused.TheVariants as sought
use Rattle.play_rules.specs.declared.stop.Stop.{Stop}
use Rattle.hall_thief.specs.Steals.{HasMetStop, HasStolenBy, Steals}
use Rattle.hall_slots.specs.Takes.{HallSeat, IsRefused}
use Rattle.hall_thief.specs.declared.refused.StealRefused.{StealRefused}
use Rattle.hall_thief.specs.declared.refused.StealRefused.TheVariants as failed
use Rattle.worker_entry.specs.declared.hall.Hall.{Hall}
use Rattle.worker_entry.specs.declared.seat.Seat.{Seat}
use Rattle.worker_entry.specs.declared.refused.EventRefused.{EventRefused}
use Rattle.worker_entry.specs.declared.refused.EventRefused.TheVariants.{Busy, Nothing, Over, Stopped}
use Rattle.worker_entry.specs.Seated.{SameSeat}

-- the deque that an event gives
abbrev pub deque_of : Event → Option DequeId
deque_of (Stole deque period) = Some deque
deque_of (Did name) = None
deque_of (Suspended thread) = None
deque_of (GaveUp deque) = None
deque_of (Halted end) = None

-- it found this stop now, which the list keeps, and says so from then on
abbrev pub MeetsStop : Hall → (word : ℕ) → Seat → Stop → Seat → Type 0
MeetsStop hall word before stop after = (before.stop ≡ None) × HasMetStop hall.workers word before.place stop after.place
    × (after.worker ≡ before.worker) × (after.places ≡ before.places) × (after.owned ≡ None) × (after.stop ≡ Some stop)

-- Another seat held the list; or, once the seat had it, the lane of the deque whose turn it was, or that of a new deque.
abbrev pub IsHeldFrom : (workers word : ℕ) → HallSeat → Held → HallSeat → Type 0
IsHeldFrom workers word before held after = IsRefused before 0 held after ⊎ Steals workers word before after (Err (failed.Busy held))

-- How it is with a seat that owned no deque: it stole by its word, and owns the deque; or it was refused, and is what it was. A seat that
-- had found a stop is what it was; one that finds a stop says so from then on.
abbrev pub StealsIn : Hall → (word : ℕ) → Seat → Seat → Result Event EventRefused → Type 0
StealsIn hall word before after (Ok event) = (before.stop ≡ None) × HasStolenBy hall.workers word before.place event after.place
    × (after.worker ≡ before.worker) × (after.places ≡ before.places) × (after.owned ≡ deque_of event) × (after.stop ≡ None)
StealsIn hall word before after (Err (Busy held)) =
    (before.stop ≡ None) × IsHeldFrom hall.workers word before.place held after.place × SameSeat before after
StealsIn hall word before after (Err Nothing) =
    (before.stop ≡ None) × HasSought hall.workers word before.place after.place (Err sought.Nothing) × SameSeat before after
StealsIn hall word before after (Err (Over end)) =
    (before.stop ≡ None) × HasSought hall.workers word before.place after.place (Err (sought.Over end)) × SameSeat before after
StealsIn hall word before after (Err (Stopped stop)) =
    ((before.stop ≡ Some stop) × (after ≡ before)) ⊎ MeetsStop hall word before stop after

-- no slot was refused to it
abbrev pub IsNotBusy : Result Event EventRefused → Type 0
IsNotBusy (Ok event) = Unit {0}
IsNotBusy (Err (Busy held)) = ⊥
IsNotBusy (Err Nothing) = Unit {0}
IsNotBusy (Err (Over end)) = Unit {0}
IsNotBusy (Err (Stopped stop)) = Unit {0}

-- the answer of the thief, as one of its hall
abbrev pub answer_of : Result Event StealRefused → Result Event EventRefused
answer_of (Ok event) = Ok event
answer_of (Err (failed.Busy held)) = Err (Busy held)
answer_of (Err failed.Nothing) = Err Nothing
answer_of (Err (failed.Over end)) = Err (Over end)
answer_of (Err (failed.Stopped stop)) = Err (Stopped stop)

-- the seat with the deque that it stole, or with the stop that it found
abbrev pub settled : Seat → Result Event StealRefused → Seat
settled seat (Ok event) = record seat { owned = deque_of event }
settled seat (Err (failed.Busy held)) = seat
settled seat (Err failed.Nothing) = seat
settled seat (Err (failed.Over end)) = seat
settled seat (Err (failed.Stopped stop)) = record seat { stop = Some stop }
