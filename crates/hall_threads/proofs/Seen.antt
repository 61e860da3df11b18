-- A seat that was answered an end notes it.
use Rattle.std.proofs.Common.{ℕ, inl, inr, ap, ◌∙◌}
use Rattle.std.specs.Prelude.{Err}
use Rattle.worker_entry.proofs.Failed.{over_notes}
use Rattle.worker_entry.specs.Owners.{ActsIn}
use Rattle.worker_entry.specs.Thieves.{StealsIn}
use Rattle.worker_entry.specs.declared.hall.Hall.{Hall}
use Rattle.worker_entry.specs.declared.refused.EventRefused.TheVariants.{Over}
use Rattle.worker_entry.specs.declared.seat.Seat.{Seat}
use Rattle.hall_slots.specs.Halting.{HasHalted}
use Rattle.hall_slots.specs.Takes.{HallSeat}
use Rattle.hall_slots.specs.declared.seat_note.SeatNote.{SeatNote}
use Rattle.hall_threads.specs.declared.answer.Answer.TheVariants as answers
use Rattle.hall_threads.specs.Trying.{Tries}
use Rattle.hall_threads.specs.Working.{HasSeen}
use Rattle.play_rules.specs.declared.ends.RunEnd.{RunEnd}
use Rattle.play_rules.specs.declared.stop.Stop.{Stop}

seen_by_act : (hall : Hall) (before after : Seat) (end : RunEnd) → ActsIn hall before after (Err (Over end)) → HasSeen after end
seen_by_act hall before after end acts = ap (λ (n : SeatNote). n.answered) (over_notes hall before after end acts.1)

seen_by_steal : (hall : Hall) (word : ℕ) (before after : Seat) (end : RunEnd) → StealsIn hall word before after (Err (Over end)) → HasSeen after end
seen_by_steal hall word before after end steals = let sought = steals.1 in ap (λ (s : HallSeat). s.hand.note.answered) sought.1.1 ∙ sought.1.0

seen_by_halt : (before : HallSeat) (stop : Stop) (end : RunEnd) (after : Seat) → HasHalted before stop end after.place → HasSeen after end
seen_by_halt before stop end after halted = ap (λ (s : HallSeat). s.hand.note.answered) halted.after_is

pub seen_by_try : (hall : Hall) (word : ℕ) (before after : Seat) (end : RunEnd) → Tries hall word before after (answers.Over end) → HasSeen after end
seen_by_try hall word before after end tries = elim tries [
  | inl goes ↦ elim goes.1 [
    | inl acts ↦ seen_by_act hall before after end acts.2
    | inr steals ↦ seen_by_steal hall word before after end steals.1
  ]
  | inr halts ↦ seen_by_halt before.place halts.0 end after halts.2
]
