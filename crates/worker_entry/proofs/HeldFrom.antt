-- A seat that was refused a slot at a steal notes what it noted.
use Rattle.std.proofs.Common.{◌≡◌, ℕ, inl, inr, ap}
use Rattle.turn_table.specs.declared.held.Held.{Held}
use Rattle.hall_slots.specs.Takes.{HallSeat}
use Rattle.worker_entry.specs.Thieves.{IsHeldFrom}

pub held_from_notes : (workers word : ℕ) (before after : HallSeat) (held : Held) → IsHeldFrom workers word before held after → after.hand.note ≡ before.hand.note
held_from_notes workers word before after held from = elim from [
  | inl list ↦ ap (λ (s : HallSeat). s.hand.note) list.1
  | inr steals ↦ elim steals [
    | inl turns ↦ ap (λ (s : HallSeat). s.hand.note) turns.4
    | inr new ↦ ap (λ (s : HallSeat). s.hand.note) new.told
  ]
]
