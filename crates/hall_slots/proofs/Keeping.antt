-- Takes, refusals and put backs that change nothing keep the law of a hall.
use Rattle.std.proofs.Common.{ℕ, List, refl}
use Rattle.turn_table.specs.declared.hand.Hand.{Hand}
use Rattle.turn_table.specs.Law.{TakeKeeps, HeldKeeps, PutKeeps}
use Rattle.turn_table.specs.Notes.{HasAs}
use Rattle.turn_table.proofs.NoteLaws.{take_quiet, held_quiet, put_quiet}
use Rattle.turn_table.specs.Places.{WithPlaces}
use Rattle.turn_table.specs.Backs.{kept, still, unchanged}
use Rattle.turn_table.proofs.Resting.{take_rests, held_rests, put_rests}
use Rattle.hall_slots.specs.declared.slot.Slot.{Slot}
use Rattle.hall_slots.specs.declared.seat_note.SeatNote.{SeatNote}
use Rattle.hall_slots.specs.declared.key.HallKey.{HallKey}
use Rattle.hall_slots.specs.Law.{HallHolds, places_of, joined_note}
use Rattle.hall_slots.specs.Takes.{HallSeat, IsPlaced}

-- the law of the row
abbrev pub Whole : HallKey → List Slot → ℕ → List (Hand Slot SeatNote) → Type 0
Whole = WithPlaces places_of HallHolds

module _ (key : HallKey) (seat : HallSeat) (placed : IsPlaced seat) where
  pub take_keeps : (slot : ℕ) → TakeKeeps Whole joined_note key seat slot kept
  take_keeps slot = take_rests places_of HallHolds joined_note key seat slot kept (λ found. placed) (take_quiet HallHolds joined_note key seat slot kept (λ look. refl))

  pub held_keeps : (slot : ℕ) → HeldKeeps Whole joined_note key seat slot kept
  held_keeps slot = held_rests places_of HallHolds joined_note key seat slot kept placed (held_quiet HallHolds joined_note key seat slot kept (λ look. refl))

  pub put_keeps : (slot : ℕ) (found : Slot) → HasAs slot found seat.hand.holds → PutKeeps Whole joined_note key seat slot found still unchanged
  put_keeps slot found has = put_rests places_of HallHolds joined_note key seat slot found still unchanged placed
      (put_quiet HallHolds joined_note key seat slot found seat.hand.holds still unchanged refl has (λ k v. refl) refl)
