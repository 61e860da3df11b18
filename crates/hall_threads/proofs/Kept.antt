-- The calls of a worker keep it the same worker.
use Rattle.std.proofs.Common.{ℕ, inl, inr, ap}
use Rattle.std.specs.Prelude.{Result, Ok, Err}
use Rattle.play_rules.specs.declared.ends.RunEnd.{RunEnd}
use Rattle.play_rules.specs.declared.stop.Stop.{Stop}
use Rattle.turn_table.specs.declared.held.Held.{Held}
use Rattle.worker_entry.proofs.Failed.{busy_notes, over_notes, stopped_notes}
use Rattle.worker_entry.proofs.HeldFrom.{held_from_notes}
use Rattle.worker_entry.specs.Owners.{ActsIn}
use Rattle.worker_entry.specs.Seated.{SameSeat}
use Rattle.worker_entry.specs.Thieves.{StealsIn}
use Rattle.worker_entry.specs.declared.hall.Hall.{Hall}
use Rattle.worker_entry.specs.declared.refused.EventRefused.{EventRefused}
use Rattle.worker_entry.specs.declared.refused.EventRefused.TheVariants.{Busy, Nothing, Over, Stopped}
use Rattle.worker_entry.specs.declared.seat.Seat.{Seat}
use Rattle.hall_slots.specs.Halting.{HasHalted}
use Rattle.hall_slots.specs.Takes.{HallSeat, IsRefused}
use Rattle.hall_slots.specs.declared.event.Event.{Event}
use Rattle.hall_slots.specs.declared.seat_note.SeatNote.{SeatNote}
use Rattle.hall_threads.specs.declared.answer.Answer.{Answer}
use Rattle.hall_threads.specs.declared.answer.Answer.TheVariants as answers
use Rattle.hall_threads.specs.Trying.{GoesOn, Tries}
use Rattle.hall_threads.specs.Working.{IsSameWorker}

acts_keep : (hall : Hall) (before after : Seat) (r : Result Event EventRefused) → ActsIn hall before after r → IsSameWorker before after
acts_keep hall before after (Ok event) acts =
    record { worker = acts.worker; places = acts.places; yields = ap (λ (s : HallSeat). s.hand.note.yielded) acts.its_place.leaves }
acts_keep hall before after (Err (Busy held)) acts =
    record { worker = acts.2.worker; places = acts.2.places; yields = ap (λ (n : SeatNote). n.yielded) (busy_notes hall before after held acts.1) }
acts_keep hall before after (Err Nothing) acts = absurd acts
acts_keep hall before after (Err (Over end)) acts =
    record { worker = acts.2.worker; places = acts.2.places; yields = ap (λ (n : SeatNote). n.yielded) (over_notes hall before after end acts.1) }
acts_keep hall before after (Err (Stopped stop)) acts = elim acts [
  | inl same ↦ record { worker = ap (λ (s : Seat). s.worker) same.1; places = ap (λ (s : Seat). s.places) same.1; yields = ap (λ (s : Seat). s.place.hand.note.yielded) same.1 }
  | inr fails ↦ record { worker = fails.2; places = fails.3; yields = ap (λ (n : SeatNote). n.yielded) (stopped_notes hall before after stop fails.1) }
]

steals_keep : (hall : Hall) (word : ℕ) (before after : Seat) (r : Result Event EventRefused) → StealsIn hall word before after r → IsSameWorker before after
steals_keep hall word before after (Ok event) steals =
    record { worker = steals.2; places = steals.3; yields = ap (λ (s : HallSeat). s.hand.note.yielded) steals.1.leaves.2 }
steals_keep hall word before after (Err (Busy held)) steals =
    record { worker = steals.2.worker; places = steals.2.places; yields = ap (λ (n : SeatNote). n.yielded) (held_from_notes hall.workers word before.place after.place held steals.1) }
steals_keep hall word before after (Err Nothing) steals =
    record { worker = steals.2.worker; places = steals.2.places; yields = ap (λ (s : HallSeat). s.hand.note.yielded) steals.1.1.2 }
steals_keep hall word before after (Err (Over end)) steals =
    record { worker = steals.2.worker; places = steals.2.places; yields = ap (λ (s : HallSeat). s.hand.note.yielded) steals.1.1.1 }
steals_keep hall word before after (Err (Stopped stop)) steals = elim steals [
  | inl same ↦ record { worker = ap (λ (s : Seat). s.worker) same.1; places = ap (λ (s : Seat). s.places) same.1; yields = ap (λ (s : Seat). s.place.hand.note.yielded) same.1 }
  | inr met ↦ record { worker = met.2; places = met.3; yields = ap (λ (s : HallSeat). s.hand.note.yielded) met.1.leaves }
]

halt_keeps : (before after : Seat) (stop : Stop) (end : RunEnd) → SameSeat before after → HasHalted before.place stop end after.place → IsSameWorker before after
halt_keeps before after stop end same halted =
    record { worker = same.worker; places = same.places; yields = ap (λ (s : HallSeat). s.hand.note.yielded) halted.after_is }

refused_keeps : (before after : Seat) (held : Held) → SameSeat before after → IsRefused before.place 0 held after.place → IsSameWorker before after
refused_keeps before after held same refused =
    record { worker = same.worker; places = same.places; yields = ap (λ (s : HallSeat). s.hand.note.yielded) refused.1 }

goes_keep : (hall : Hall) (word : ℕ) (before after : Seat) (r : Result Event EventRefused) → GoesOn hall word before after r → IsSameWorker before after
goes_keep hall word before after r goes = elim goes.1 [
  | inl acts ↦ acts_keep hall before after r acts.2
  | inr steals ↦ steals_keep hall word before after r steals.1
]

-- so does a try
pub tries_keep : (hall : Hall) (word : ℕ) (before after : Seat) (answer : Answer) → Tries hall word before after answer → IsSameWorker before after
tries_keep hall word before after (answers.Did event) tries = goes_keep hall word before after (Ok event) tries
tries_keep hall word before after (answers.Found stop) tries = goes_keep hall word before after (Err (Stopped stop)) tries
tries_keep hall word before after (answers.Over end) tries = elim tries [
  | inl goes ↦ goes_keep hall word before after (Err (Over end)) goes
  | inr halts ↦ halt_keeps before after halts.0 end halts.3 halts.2
]
tries_keep hall word before after (answers.Refused (Busy held)) tries = elim tries [
  | inl goes ↦ goes_keep hall word before after (Err (Busy held)) goes
  | inr fails ↦ refused_keeps before after held fails.3 fails.2
]
tries_keep hall word before after (answers.Refused Nothing) tries = goes_keep hall word before after (Err Nothing) tries
tries_keep hall word before after (answers.Refused (Over end)) tries = absurd tries
tries_keep hall word before after (answers.Refused (Stopped stop)) tries = absurd tries
