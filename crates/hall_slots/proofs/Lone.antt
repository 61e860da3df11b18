-- A seat that has all places is never refused.
use Rattle.std.proofs.Common.{◌≡◌, ℕ, ◌<◌, List, map, refl, sym, ap, ◌∙◌, subst}
use Rattle.std.specs.Prelude.{Some, slice_get, Result, Ok, Err, MatchResult, IsOk}
use Rattle.std.specs.Option.{option_map}
use Rattle.std.proofs.lemmas.Option.{slice_get-map}
use mathlib.Core.Option.{some}
use lib.ListN.{get_elem?}
use Rattle.std.proofs.Math.Logic.{∥∥₁_elim}
use denote.Struct.Props.{props}
use Rattle.depth_first_run.specs.States.{Setting}
use Rattle.deque_machine.specs.Terms.{Terms, machine_of}
use Rattle.turn_table.specs.declared.hand.Hand.{Hand}
use Rattle.turn_table.specs.declared.held.Held.{Held}
use Rattle.turn_table.specs.Hands.{Has, turn, took, refused}
use Rattle.turn_table.specs.Seats.{with_hand}
use Rattle.turn_table.specs.Law.{Stands, Meets, MeetsHeld}
use Rattle.turn_table.specs.Notes.{notes}
use Rattle.turn_table.proofs.NoteLaws.{notes_at}
use Rattle.turn_table.specs.Places.{OthersHaveNone}
use Rattle.turn_table.specs.Backs.{kept}
use Rattle.turn_table.proofs.Alone.{lone_seats_are_free}
use Rattle.hall_machine.specs.Views.{View}
use Rattle.hall_machine.specs.State.{HallLaw}
use Rattle.hall_machine.proofs.Closed.{seats_with_all_are_alone}
use Rattle.hall_slots.specs.declared.slot.Slot.{Slot}
use Rattle.hall_slots.specs.declared.seat_note.SeatNote.{SeatNote}
use Rattle.hall_slots.specs.Shown.{value_of, view_of}
use Rattle.hall_slots.specs.declared.key.HallKey.{HallKey}
use Rattle.hall_slots.specs.Keys.{terms_of}
use Rattle.hall_slots.specs.Law.{places_of, joined_note}
use Rattle.hall_slots.specs.Takes.{HallSeat, IsPlaced, HasAllPlaces, IsRefused}
use Rattle.hall_slots.proofs.Keeping.{Whole}
use Rattle.hall_slots.proofs.Reading.{get_of_at}

-- what the others note, where a seat has all places and the law holds
pub noted_at : (ns : List SeatNote) (i : ℕ) (n : SeatNote) → get_elem? ns i ≡ some n → slice_get (map view_of ns) i ≡ Some (view_of n)
noted_at ns i n at = slice_get-map view_of ns i ∙ ap (option_map view_of) (get_of_at ns i n at)

module _ (key : HallKey) (seat : HallSeat) (placed : IsPlaced seat) (has : HasAllPlaces key seat) (shown : List Slot) (count : ℕ) (hands : List (Hand Slot SeatNote)) (st : Stands Whole joined_note key seat shown count hands) where
  others_joined : (c : Setting) → HallLaw (machine_of c (terms_of key)) (Terms.limits (terms_of key)) (map value_of shown) count (map view_of (notes hands)) → OthersHaveNone places_of hands seat.number
  others_joined c law j h apart at =
      let view = view_of seat.hand.note in
      let at_mine = noted_at (notes hands) seat.number seat.hand.note (notes_at hands seat.number seat.hand st.mine) in
      let alone = seats_with_all_are_alone (machine_of c (terms_of key)) (Terms.limits (terms_of key)) _ law.steps law.moment law.leads count (map view_of (notes hands)) seat.number view law.state
      (record { noted = at_mine; placed = placed; stays = has.stays }) has.all has.alone in
      ap (λ (v : View). v.places) (alone.others j (view_of h.note) apart (noted_at (notes hands) j h.note (notes_at hands j h at)))

  pub lone_is_free : (slot : ℕ) → ¬ Has slot seat.hand.holds → turn hands slot ≡ 0
  lone_is_free slot none = ∥∥₁_elim st.kept.0.key_is.of_program (search props) (λ p. ∥∥₁_elim (st.kept.0.state p.0 p.1) (search props)
      (λ law. lone_seats_are_free places_of hands seat.number seat.hand st.kept.1 st.mine (others_joined p.0 law) slot none))

-- so a refusal cannot come to it
pub never_refused : (key : HallKey) (before after : HallSeat) (slot : ℕ) (held : Held) → IsPlaced before → HasAllPlaces key before → ¬ Has slot before.hand.holds
    → IsRefused before slot held after → ¬ (held.seen ≡ 0) → MeetsHeld Whole joined_note key after slot held.seen → ⊥
never_refused key before after slot held placed has none is found meets =
    let note : after.hand.note ≡ before.hand.note = ap (λ (s : HallSeat). s.hand.note) is.1 in
    let same : after.hand.holds ≡ before.hand.holds = ap (λ (s : HallSeat). s.hand.holds) is.1 in
    let all : HasAllPlaces key after = record { all = ap (λ (n : SeatNote). n.places) note ∙ has.all; stays = ap (λ (n : SeatNote). n.left) note ∙ has.stays; alone = ap (λ (n : SeatNote). n.enters) note ∙ has.alone } in
    found (sym meets.4 ∙ lone_is_free key after (subst (λ (n : SeatNote). 0 < n.places) (sym note) placed) all meets.0 meets.1 meets.2 meets.3 slot (λ h. none (subst (Has slot) same h)))

-- what is answered to a take of a seat that has all places is no refusal
pub lone_takes : (key : HallKey) (before after : HallSeat) (slot : ℕ) (r : Result Slot Held) → IsPlaced before → ¬ Has slot before.hand.holds
    → MatchResult r (λ found. after ≡ with_hand before (took kept before.hand slot found)) (λ e. (e.slot ≡ slot) × ¬ (e.seen ≡ 0) × (after ≡ with_hand before (refused kept before.hand slot e.seen)))
    → MatchResult r (λ found. Meets Whole joined_note key after) (λ e. MeetsHeld Whole joined_note key after slot e.seen) → HasAllPlaces key before → IsOk r
lone_takes key before after slot (Ok found) placed none seat meets has = refl
lone_takes key before after slot (Err held) placed none seat meets has = absurd (never_refused key before after slot held placed has none (seat.0, seat.2) seat.1 meets)
