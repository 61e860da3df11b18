-- The first two slots of a hall are the list and the pool.
use Rattle.std.proofs.Common.{◌≡◌, ℕ, ◌<◌, ◌≤◌, List, [], ◌∷◌, length, refl, subst, arith}
use mathlib.Core.Option.{some}
use lib.ListN.{get_elem?}
use Rattle.hall_slots.specs.declared.list_slot.ListSlot.{ListSlot}
use Rattle.hall_slots.specs.declared.pool_slot.PoolSlot.{PoolSlot}
use Rattle.hall_slots.specs.declared.slot.Slot.{Slot}
use Rattle.hall_slots.specs.declared.slot.Slot.TheVariants as slots
use Rattle.turn_table.specs.declared.hand.Hand.{Hand}
use Rattle.turn_table.specs.Hands.{Has, turn}
use Rattle.turn_table.specs.Law.{Stands}
use Rattle.turn_table.specs.Notes.{notes}
use Rattle.turn_table.proofs.NoteLaws.{notes_at}
use Rattle.hall_slots.specs.declared.seat_note.SeatNote.{SeatNote}
use Rattle.hall_slots.specs.Shown.{kind_of}
use Rattle.hall_slots.specs.declared.key.HallKey.{HallKey}
use Rattle.hall_slots.specs.Law.{HallHolds, IsShaped, joined_note}
use Rattle.hall_slots.specs.Takes.{HallSeat, HasAllPlaces}
use Rattle.hall_slots.proofs.Keeping.{Whole}
use Rattle.hall_slots.proofs.Lone.{lone_is_free}
use Rattle.hall_slots.specs.Closing.{BeginWithTwo, AreLast}

list_of_kind : (s : Slot) → kind_of s ≡ 0 → (list : ListSlot) × (s ≡ slots.List list)
list_of_kind (slots.List list) kind = (list, refl)
list_of_kind (slots.Pool pool) kind = absurd (omega (arith, kind))
list_of_kind (slots.Lane lane) kind = absurd (omega (arith, kind))

pool_of_kind : (s : Slot) → kind_of s ≡ 1 → (pool : PoolSlot) × (s ≡ slots.Pool pool)
pool_of_kind (slots.List list) kind = absurd (omega (arith, kind))
pool_of_kind (slots.Pool pool) kind = (pool, refl)
pool_of_kind (slots.Lane lane) kind = absurd (omega (arith, kind))

pub begin_with_two : (shown : List Slot) → 2 ≤ length shown → ((i : ℕ) (slot : Slot) → get_elem? shown i ≡ some slot → IsShaped i slot) → BeginWithTwo shown
begin_with_two [] long shaped = absurd (omega (arith, long))
begin_with_two (a ∷ []) long shaped = absurd (omega (arith, long))
begin_with_two (a ∷ b ∷ lanes) long shaped = let list = list_of_kind a (shaped 0 a refl) in let pool = pool_of_kind b (shaped 1 b refl) in
    (list.0, pool.0, lanes, λ k. list.1 k ∷ pool.1 k ∷ lanes)

-- the last state, where the seat that has all places holds nothing
module _ (key : HallKey) (seat : HallSeat) (placed : 0 < seat.hand.note.places) (has : HasAllPlaces key seat) (free : seat.hand.holds ≡ []) (shown : List Slot) (count : ℕ)
    (hands : List (Hand Slot SeatNote)) (st : Stands Whole joined_note key seat shown count hands) where
  pub none_held : (slot : ℕ) → turn hands slot ≡ 1 → ⊥
  none_held slot held = let none = lone_is_free key seat placed has shown count hands st slot (λ holds. subst (Has slot) free holds) in absurd (omega (arith, held, none))

  pub first_two : BeginWithTwo shown
  first_two = begin_with_two shown (let sized = st.kept.0.sized in omega (arith, sized)) st.kept.0.shaped

  pub are_last : (list : ListSlot) (pool : PoolSlot) (lanes : List Slot) → shown ≡ slots.List list ∷ slots.Pool pool ∷ lanes → AreLast key seat list pool
  are_last list pool lanes is = record {
    lanes = lanes;
    count = count;
    notes = notes hands;
    holds = subst (λ (xs : List Slot). HallHolds key xs count (notes hands)) is st.kept.0;
    mine = notes_at hands seat.number seat.hand st.mine;
  }
