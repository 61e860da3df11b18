-- What a seat is that holds the list of its hall, and what it is once it has put the list back.
use Rattle.std.specs.Prelude.{◌≡◌, ◌⊎◌, ℕ, None, Some, [], ◌∷◌, ◌++◌, Result, Ok, Err}
use Rattle.containers.specs.BoundedList.{entries}
use Rattle.turn_table.specs.declared.held.Held.{Held}
use Rattle.turn_table.specs.declared.look.Look.TheVariants.{Took}
use Rattle.turn_table.specs.Seats.{with_hand}
use Rattle.turn_table.specs.Tables.{key_of}
use Rattle.hall_slots.specs.declared.event.Event.{Event}
use Rattle.hall_slots.specs.declared.list_slot.ListSlot.{ListSlot}
use Rattle.hall_slots.specs.declared.slot.Slot.TheVariants as slots
use Rattle.hall_slots.specs.Takes.{IsRefused, IsTaken, MeetsLaw}
use Rattle.worker_entry.specs.declared.hall.Hall.{Hall}
use Rattle.worker_entry.specs.declared.thieves.ListHeld.{ListHeld}
use Rattle.worker_entry.specs.declared.seat.Seat.{Seat}
use Rattle.worker_entry.specs.declared.refused.EventRefused.{EventRefused}
use Rattle.worker_entry.specs.declared.refused.EventRefused.TheVariants.{Busy, Nothing, Over, Stopped}
use Rattle.worker_entry.specs.Seated.{IsIn, SameSeat}
use Rattle.worker_entry.specs.Thieves.{MeetsStop, StealsIn}

-- A seat of the hall that owned no deque took this list, and nothing else. It says of itself what it said.
pub record HoldsList (hall : Hall) (before : Seat) (list : ListSlot) (seat : Seat) : Type 0 where
  pub was : IsIn hall before
  pub idle : before.owned ≡ None
  pub taken : IsTaken before.place 0 (slots.List list) seat.place
  pub same : SameSeat before seat
  pub births : entries seat.memory.births ≡ []
  pub meets : MeetsLaw (key_of hall.row) seat.place

-- this seat took the list that is held
abbrev pub IsHeldBy : Seat → ListHeld → Type 0
IsHeldBy before held = HoldsList held.hall.now before held.list held.seat

-- some seat of the hall did
abbrev pub IsListHeld : ListHeld → Type 0
IsListHeld held = (before : Seat) × IsHeldBy before held

-- How it is with a seat that owned no deque: it holds the list of this hall; or it was refused the list, and is what it was but for this answer.
abbrev pub TakesList : Hall → Seat → Result ListHeld (Seat × Held) → Type 0
TakesList hall seat (Ok held) = (held.hall.now ≡ hall) × IsHeldBy seat held
TakesList hall seat (Err (back, held)) = IsRefused seat.place 0 held back.place × SameSeat seat back

-- it has put the list back, and is what it was, but that it saw this list
pub record HasSeenList (before : Seat) (list : ListSlot) (after : Seat) : Type 0 where
  pub same : SameSeat before after
  pub its_place : after.place ≡ with_hand before.place (record {
    seated = before.place.hand.seated;
    holds = [];
    note = before.place.hand.note;
    looks = before.place.hand.looks ++ Took 0 (slots.List list) ∷ [];
  })

-- How it is with a seat that took this list and then stole by its word: as with one that steals in one call. Only if it had found a stop before, it
-- has put the list back besides.
abbrev pub StealsHeld : Hall → (word : ℕ) → ListSlot → Seat → Seat → Result Event EventRefused → Type 0
StealsHeld hall word list before after (Ok event) = StealsIn hall word before after (Ok event)
StealsHeld hall word list before after (Err (Busy held)) = StealsIn hall word before after (Err (Busy held))
StealsHeld hall word list before after (Err Nothing) = StealsIn hall word before after (Err Nothing)
StealsHeld hall word list before after (Err (Over end)) = StealsIn hall word before after (Err (Over end))
StealsHeld hall word list before after (Err (Stopped stop)) =
    ((before.stop ≡ Some stop) × HasSeenList before list after) ⊎ MeetsStop hall word before stop after
