-- A seat that took its lane, and then another slot or was refused it.
use Rattle.std.proofs.Common.{◌≡◌, ◌≢◌, ℕ, ◌<◌, List, [], ◌∷◌, inl, inr, refl, sym, ap, ◌∙◌, subst}
use Rattle.turn_table.specs.declared.held.Held.{Held}
use Rattle.turn_table.specs.Hands.{Has, took, refused as refused_hand}
use Rattle.turn_table.specs.Notes.{HasAs}
use Rattle.turn_table.specs.Seats.{with_hand}
use Rattle.turn_table.specs.Backs.{kept, IsBack}
use Rattle.turn_table.proofs.Returning.{back_of_none, back_of_one}
use Rattle.hall_slots.specs.declared.slot.Slot.{Slot}
use Rattle.hall_slots.specs.declared.seat_note.SeatNote.{SeatNote}
use Rattle.hall_slots.specs.declared.key.HallKey.{HallKey}
use Rattle.hall_slots.specs.Takes.{HallSeat, IsPlaced, HasAllPlaces, IsTaken, AreTaken, IsRefused, IsGiven}

-- a seat that took a slot notes what it noted
module _ (before after : HallSeat) (slot : ℕ) (found : Slot) (taken : IsTaken before slot found after) where
  note_after : after.hand.note ≡ before.hand.note
  note_after = ap (λ (s : HallSeat). s.hand.note) taken

  pub placed_after : IsPlaced before → IsPlaced after
  placed_after placed = subst (λ (n : SeatNote). 0 < n.places) (sym note_after) placed

  pub all_after : (key : HallKey) → HasAllPlaces key before → HasAllPlaces key after
  all_after key has = record { all = ap (λ (n : SeatNote). n.places) note_after ∙ has.all; stays = ap (λ (n : SeatNote). n.left) note_after ∙ has.stays; alone = ap (λ (n : SeatNote). n.enters) note_after ∙ has.alone }

  -- and holds it, and no other one if it held none
  holds_after : after.hand.holds ≡ (slot, found) ∷ before.hand.holds
  holds_after = ap (λ (s : HallSeat). s.hand.holds) taken

  pub free_after : (other : ℕ) → slot ≢ other → before.hand.holds ≡ [] → ¬ (Has other after.hand.holds)
  free_after other apart free has = elim (subst (λ (xs : List (ℕ × Slot)). Has other ((slot, found) ∷ xs)) free (subst (Has other) holds_after has)) [ inl same ↦ apart same | inr none ↦ absurd none ]

  -- it was refused another one, and holds it still
  module _ (last : HallSeat) (other : ℕ) (held : Held) (refused : IsRefused after other held last) where
    pub placed_last : IsPlaced before → IsPlaced last
    placed_last placed = subst (λ (n : SeatNote). 0 < n.places) (sym (ap (λ (s : HallSeat). s.hand.note) refused.1)) (placed_after placed)

    pub holds_last : HasAs slot found last.hand.holds
    holds_last = subst (HasAs slot found) (sym (ap (λ (s : HallSeat). s.hand.holds) refused.1 ∙ holds_after)) (inl (refl, refl))

    -- once it has put it back it is back
    pub is_back : (back : HallSeat) → IsGiven last slot back → IsBack before back held
    is_back back given = back_of_one before after last back slot found held taken
        (back_of_none after last held (refused.1 ∙ ap (λ n. with_hand after (refused_hand kept after.hand n held.seen)) (sym refused.0))) given

-- it took both
pub both_taken : (before middle after : HallSeat) (first : ℕ) (one : Slot) (second : ℕ) (two : Slot) → IsTaken before first one middle → IsTaken middle second two after → AreTaken before first one second two after
both_taken before middle after first one second two taken then_taken = then_taken ∙ ap (λ (s : HallSeat). with_hand s (took kept s.hand second two)) taken
