-- What the call of a seat answers that owns a deque.
use Rattle.std.specs.Prelude.{◌≡◌, ◌⊎◌, None, Some, Result, Ok, Err}
use Rattle.deque_list.specs.declared.deque_id.DequeId.{DequeId}
use Rattle.turn_table.specs.Tables.{key_of}
use Rattle.hall_slots.specs.declared.event.Event.{Event}
use Rattle.hall_owner.specs.Acting.{Acts, HasActed}
use Rattle.hall_owner.specs.declared.acting.Acted.{Acted}
use Rattle.hall_owner.specs.Passed.ActRefused.{ActRefused}
use Rattle.hall_owner.specs.Passed.ActRefusedVariants as failed
use Rattle.worker_entry.specs.declared.hall.Hall.{Hall}
use Rattle.worker_entry.specs.declared.seat.Seat.{Seat}
use Rattle.worker_entry.specs.declared.refused.EventRefused.{EventRefused}
use Rattle.worker_entry.specs.declared.refused.EventRefused.TheVariants.{Busy, Nothing, Over, Stopped}
use Rattle.worker_entry.specs.Seated.{SameSeat}

-- It did the event that it was to do by what it saw, and notes it; it owns then what the event leaves it.
pub record HasActedIn (hall : Hall) (before after : Seat) (event : Event) : Type 0 where
  pub none : before.stop ≡ None
  pub deque : DequeId
  pub owned : before.owned ≡ Some deque
  pub acted : Acted
  pub told : acted.event ≡ event
  pub owns : after.owned ≡ acted.owned
  pub its_place : HasActed (key_of hall.row) before.place deque acted after.place
  pub worker : after.worker ≡ before.worker
  pub places : after.places ≡ before.places
  pub still_none : after.stop ≡ None

-- It did no event, and why is shown by what it saw.
abbrev pub FailsIn : Hall → Seat → ActRefused → Seat → Type 0
FailsIn hall before refused after = (deque : DequeId) × (before.owned ≡ Some deque) × Acts (key_of hall.row) before.place deque (Err refused) after.place

-- So it is with a seat that owned a deque: it did an event; or it was refused, and is what it was. A seat that had found a stop is what it
-- was; one that finds a stop says so from then on.
abbrev pub ActsIn : Hall → Seat → Seat → Result Event EventRefused → Type 0
ActsIn hall before after (Ok event) = HasActedIn hall before after event
ActsIn hall before after (Err (Busy held)) = (before.stop ≡ None) × FailsIn hall before (failed.Busy held) after × SameSeat before after
ActsIn hall before after (Err Nothing) = ⊥
ActsIn hall before after (Err (Over end)) = (before.stop ≡ None) × FailsIn hall before (failed.Over end) after × SameSeat before after
ActsIn hall before after (Err (Stopped stop)) = ((before.stop ≡ Some stop) × (after ≡ before))
    ⊎ ((before.stop ≡ None) × FailsIn hall before (failed.Stopped stop) after
    × (after.worker ≡ before.worker) × (after.places ≡ before.places) × (after.owned ≡ before.owned) × (after.stop ≡ Some stop))
