-- What a seat says of itself that took the list and stole.
use Rattle.std.proofs.Common.{◌≡◌, ℕ, inr, refl, sym, ◌∙◌}
use Rattle.std.specs.Prelude.{None, Result, Ok, Err}
use Rattle.hall_slots.specs.declared.event.Event.{Event}
use Rattle.hall_slots.specs.declared.list_slot.ListSlot.{ListSlot}
use Rattle.hall_slots.specs.Takes.{HallSeat}
use Rattle.hall_thief.specs.declared.refused.StealRefused.{StealRefused}
use Rattle.hall_thief.specs.declared.refused.StealRefused.TheVariants.{Busy, Nothing, Over, Stopped}
use Rattle.hall_thief.specs.Steals.{Steals}
use Rattle.worker_entry.specs.declared.hall.Hall.{Hall}
use Rattle.worker_entry.specs.declared.seat.Seat.{Seat}
use Rattle.worker_entry.specs.Held.{HoldsList}
use Rattle.worker_entry.specs.Seated.{SameSeat}
use Rattle.worker_entry.specs.Thieves.{answer_of, settled, StealsIn}

module _ (hall : Hall) (before held : Seat) (list : ListSlot) (holds : HoldsList hall before list held) (none : held.stop ≡ None) (place : HallSeat) where
  abbrev robbed : Seat
  robbed = record held { place = place }

  stays_same : SameSeat before robbed
  stays_same = record { worker = holds.same.worker; places = holds.same.places; owned = holds.same.owned; stop = holds.same.stop }

  none_before : before.stop ≡ None
  none_before = sym holds.same.stop ∙ none

  pub stolen_in : (word : ℕ) (stolen : Result Event StealRefused) → Steals hall.workers word before.place place stolen → StealsIn hall word before (settled robbed stolen) (answer_of stolen)
  stolen_in word (Ok event) steals = (none_before, steals, holds.same.worker, holds.same.places, refl, none)
  stolen_in word (Err (Busy held)) steals = (none_before, inr steals, stays_same)
  stolen_in word (Err Nothing) steals = (none_before, steals, stays_same)
  stolen_in word (Err (Over end)) steals = (none_before, steals, stays_same)
  stolen_in word (Err (Stopped stop)) steals = inr (none_before, steals, holds.same.worker, holds.same.places, holds.same.owned ∙ holds.idle, refl)
