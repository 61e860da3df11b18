-- The put back that decides that a deque is taken over.
use Rattle.std.proofs.Common.{◌≡◌, ℕ, suc, ◌+◌, ◌<◌, List, [], ◌∷◌, set, if◌then◌else◌, refl, sym, ap, ◌∙◌, subst, arith, eq-eqb}
use lib.ListN.{get_elem?}
use Rattle.hall_thief.specs.HallNames.{DequeId, PutMay, with_hand, LaneSlot, ListSlot, SeatNote, Slot, HallKey, HallSeat, IsGiven}
use Rattle.turn_table.specs.declared.hand.Hand.{Hand}
use Rattle.turn_table.specs.Hands.{Shows, showing, without_slot, renewed, shown_by, gave}
use Rattle.turn_table.specs.Law.{PutKeeps}
use Rattle.turn_table.proofs.Left.{left_of_one, second_of_two}
use Rattle.turn_table.proofs.NoteLaws.{put_writes}
use Rattle.turn_table.specs.Backs.{still, unchanged}
use Rattle.turn_table.proofs.Resting.{put_rests}
use Rattle.hall_slots.specs.declared.slot.Slot.TheVariants as slots
use Rattle.hall_slots.specs.Law.{HallHolds, places_of, joined_note}
use Rattle.hall_slots.proofs.Keeping.{Whole}
use Rattle.hall_thief.specs.Thefts.{stolen_note, HasTakenOver, StealsInto, HasStolen}
use Rattle.hall_thief.proofs.Over.{over_holds}

-- the slot of a lane comes after those of the list and of the pool
pub slot_is : (n : ℕ) → n + 2 ≡ suc (suc n)
slot_is n = omega arith

-- a slot shows what stands beside it
pub named_here : (n : ℕ) (lane found : Slot) → shown_by ((n + 2, lane) ∷ []) (n + 2) found ≡ lane
named_here n lane found = ap (λ b. if b then lane else found) (eq-eqb (n + 2) (n + 2) refl)

module _ (key : HallKey) (seat : HallSeat) (list : ListSlot) (id : DequeId) (lane : LaneSlot) (has : HasTakenOver key seat list id lane) (f : ℕ → Slot → Slot)
    (f_is : (found : Slot) → f (id.0 + 2) found ≡ slots.Lane lane) where
  abbrev note : SeatNote
  note = stolen_note seat.hand.note id list.part.begun

  left_after : renewed f (without_slot 0 seat.hand.holds) ≡ (id.0 + 2, slots.Lane lane) ∷ []
  left_after = ap (λ (xs : List (ℕ × Slot)). renewed f (without_slot 0 xs)) has.holds
      ∙ second_of_two f (id.0 + 2) 0 (slots.Lane has.lane_was) (slots.List has.list_was) (λ e. omega (arith, e)) ∙ ap (λ (s : Slot). (id.0 + 2, s) ∷ []) (f_is (slots.Lane has.lane_was))

  over_may : PutMay HallHolds key seat 0 (slots.List list) f note
  over_may shown count ns holds long shows mine =
      let all : Shows shown ((id.0 + 2, slots.Lane has.lane_was) ∷ (0, slots.List has.list_was) ∷ []) = subst (λ (xs : List (ℕ × Slot)). Shows shown xs) has.holds shows in
      subst (λ (xs : List Slot). HallHolds key xs count (set ns seat.number note))
      (sym (ap (λ n. set (set shown n (slots.Lane lane)) 0 (slots.List list)) (slot_is id.0)) ∙ sym (ap (λ (xs : List (ℕ × Slot)). showing shown ((0, slots.List list) ∷ xs)) left_after))
      (over_holds key seat list id lane has shown count ns holds all.1.0 (ap (get_elem? shown) (sym (slot_is id.0)) ∙ all.0) mine)

  pub over_keeps : (pick : Hand Slot SeatNote → SeatNote) → pick seat.hand ≡ note → PutKeeps Whole joined_note key seat 0 (slots.List list) pick f
  over_keeps pick is = put_rests places_of HallHolds joined_note key seat 0 (slots.List list) pick f (subst (λ (n : SeatNote). 0 < n.places) (sym is) has.thief.placed)
      (put_writes HallHolds joined_note key seat 0 (slots.List list) pick f (subst (λ (n : SeatNote). PutMay HallHolds key seat 0 (slots.List list) f n) (sym is) over_may))

  pub over_stolen : (pick : Hand Slot SeatNote → SeatNote) → pick seat.hand ≡ note → (after : HallSeat) → after ≡ with_hand seat (gave pick f seat.hand 0)
      → StealsInto seat id list ((id.0 + 2, slots.Lane lane) ∷ []) after
  over_stolen pick is after gives = gives ∙ (λ k. with_hand seat (record { seated = seat.hand.seated; holds = left_after k; note = is k; looks = seat.hand.looks }))

-- a slot that is put back next is held no more
pub given_back : (before middle after : HallSeat) (id : DequeId) (list : ListSlot) (slot : ℕ) (holds left : List (ℕ × Slot)) → StealsInto before id list holds middle → IsGiven middle slot after
    → renewed unchanged (without_slot slot holds) ≡ left → StealsInto before id list left after
given_back before middle after id list slot holds left steals given is =
    given ∙ ap (λ (s : HallSeat). with_hand s (gave still unchanged s.hand slot)) steals
    ∙ ap (λ (xs : List (ℕ × Slot)). with_hand before (record { seated = before.hand.seated; holds = xs; note = stolen_note before.hand.note id list.part.begun; looks = before.hand.looks })) is

-- then the lane is put back
pub stolen_back : (before middle after : HallSeat) (id : DequeId) (list : ListSlot) (lane : LaneSlot) → StealsInto before id list ((id.0 + 2, slots.Lane lane) ∷ []) middle → IsGiven middle (id.0 + 2) after
    → HasStolen before id list after
stolen_back before middle after id list lane steals given =
    given_back before middle after id list (id.0 + 2) ((id.0 + 2, slots.Lane lane) ∷ []) [] steals given (left_of_one unchanged (id.0 + 2) (id.0 + 2) (slots.Lane lane) refl)
