-- The put back that decides the theft of a bottom thread.
use Rattle.std.proofs.Common.{◌≡◌, ◌≢◌, ℕ, ◌+◌, ◌<◌, List, [], ◌∷◌, set, if◌then◌else◌, refl, sym, ap, ◌∙◌, subst, arith, eq-eqb}
use Rattle.std.proofs.lemmas.Bool.{ne_eqb}
use lib.ListN.{get_elem?}
use Rattle.hall_thief.specs.HallNames.{DequeId, PutMay, with_hand, LaneSlot, ListSlot, SeatNote, Slot, HallKey, HallSeat, IsGiven}
use Rattle.turn_table.specs.declared.hand.Hand.{Hand}
use Rattle.turn_table.specs.Hands.{Shows, showing, without_slot, renewed, shown_by, gave}
use Rattle.turn_table.specs.Law.{PutKeeps}
use Rattle.turn_table.proofs.Left.{second_of_two, third_of_three}
use Rattle.turn_table.proofs.NoteLaws.{put_writes}
use Rattle.turn_table.specs.Backs.{unchanged}
use Rattle.turn_table.proofs.Resting.{put_rests}
use Rattle.hall_slots.specs.declared.slot.Slot.TheVariants as slots
use Rattle.hall_slots.specs.Law.{HallHolds, places_of, joined_note}
use Rattle.hall_slots.proofs.Keeping.{Whole}
use Rattle.hall_thief.specs.Thefts.{stolen_note, HasTakenBottom, StealsInto}
use Rattle.hall_thief.proofs.Beside.{ids_apart, beside_holds}
use Rattle.hall_thief.proofs.PutOver.{slot_is, given_back}

-- each slot shows what stands beside it
pub named_first : (n m : ℕ) (lane new found : Slot) → shown_by ((n + 2, lane) ∷ (m + 2, new) ∷ []) (n + 2) found ≡ lane
named_first n m lane new found = ap (λ b. if b then lane else shown_by ((m + 2, new) ∷ []) (n + 2) found) (eq-eqb (n + 2) (n + 2) refl)

pub named_second : (n m : ℕ) (lane new found : Slot) → n ≢ m → shown_by ((n + 2, lane) ∷ (m + 2, new) ∷ []) (m + 2) found ≡ new
named_second n m lane new found apart = ap (λ b. if b then lane else shown_by ((m + 2, new) ∷ []) (m + 2) found) (ne_eqb (n + 2) (m + 2) (λ e. apart (omega (arith, e))))
    ∙ ap (λ b. if b then new else found) (eq-eqb (m + 2) (m + 2) refl)

module _ (key : HallKey) (seat : HallSeat) (list : ListSlot) (victim : DequeId) (lane : LaneSlot) (id : DequeId) (new : LaneSlot) (has : HasTakenBottom key seat list victim lane id new) where
  apart : victim.0 ≢ id.0
  apart = ids_apart key seat list victim lane id new has

  module _ (f : ℕ → Slot → Slot) (f_is : (found : Slot) → f (victim.0 + 2) found ≡ slots.Lane lane) (f_new : (found : Slot) → f (id.0 + 2) found ≡ slots.Lane new) where
    abbrev note : SeatNote
    note = stolen_note seat.hand.note id list.part.begun

    abbrev left : List (ℕ × Slot)
    left = (id.0 + 2, slots.Lane new) ∷ (victim.0 + 2, slots.Lane lane) ∷ []

    left_after : renewed f (without_slot 0 seat.hand.holds) ≡ left
    left_after = ap (λ (xs : List (ℕ × Slot)). renewed f (without_slot 0 xs)) has.holds
        ∙ third_of_three f (id.0 + 2) (victim.0 + 2) 0 (slots.Lane has.new_was) (slots.Lane has.lane_was) (slots.List has.list_was) (λ e. omega (arith, e)) (λ e. omega (arith, e))
        ∙ (λ k. (id.0 + 2, f_new (slots.Lane has.new_was) k) ∷ (victim.0 + 2, f_is (slots.Lane has.lane_was) k) ∷ [])

    beside_may : PutMay HallHolds key seat 0 (slots.List list) f note
    beside_may shown count ns holds long shows mine =
        let all : Shows shown ((id.0 + 2, slots.Lane has.new_was) ∷ (victim.0 + 2, slots.Lane has.lane_was) ∷ (0, slots.List has.list_was) ∷ []) =
        subst (λ (xs : List (ℕ × Slot)). Shows shown xs) has.holds shows in
        subst (λ (xs : List Slot). HallHolds key xs count (set ns seat.number note))
        (sym (λ k. set (set (set shown (slot_is victim.0 k) (slots.Lane lane)) (slot_is id.0 k) (slots.Lane new)) 0 (slots.List list))
        ∙ sym (ap (λ (xs : List (ℕ × Slot)). showing shown ((0, slots.List list) ∷ xs)) left_after))
        (beside_holds key seat list victim lane id new has shown count ns holds all.1.1.0 (ap (get_elem? shown) (sym (slot_is victim.0)) ∙ all.1.0) (ap (get_elem? shown) (sym (slot_is id.0)) ∙ all.0) mine)

    pub beside_keeps : (pick : Hand Slot SeatNote → SeatNote) → pick seat.hand ≡ note → PutKeeps Whole joined_note key seat 0 (slots.List list) pick f
    beside_keeps pick is = put_rests places_of HallHolds joined_note key seat 0 (slots.List list) pick f (subst (λ (n : SeatNote). 0 < n.places) (sym is) has.thief.placed)
        (put_writes HallHolds joined_note key seat 0 (slots.List list) pick f (subst (λ (n : SeatNote). PutMay HallHolds key seat 0 (slots.List list) f n) (sym is) beside_may))

    pub beside_stolen : (pick : Hand Slot SeatNote → SeatNote) → pick seat.hand ≡ note → (after : HallSeat) → after ≡ with_hand seat (gave pick f seat.hand 0) → StealsInto seat id list left after
    beside_stolen pick is after gives = gives ∙ (λ k. with_hand seat (record { seated = seat.hand.seated; holds = left_after k; note = is k; looks = seat.hand.looks }))

  -- then the lanes are put back
  pub victim_back : (middle after : HallSeat) → StealsInto seat id list ((id.0 + 2, slots.Lane new) ∷ (victim.0 + 2, slots.Lane lane) ∷ []) middle → IsGiven middle (victim.0 + 2) after
      → StealsInto seat id list ((id.0 + 2, slots.Lane new) ∷ []) after
  victim_back middle after steals given = given_back seat middle after id list (victim.0 + 2) ((id.0 + 2, slots.Lane new) ∷ (victim.0 + 2, slots.Lane lane) ∷ []) ((id.0 + 2, slots.Lane new) ∷ []) steals given
      (second_of_two unchanged (id.0 + 2) (victim.0 + 2) (slots.Lane new) (slots.Lane lane) (λ e. apart (omega (arith, e))))
