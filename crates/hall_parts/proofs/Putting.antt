-- A put back from which on all that a seat took shows what it is to be keeps the law of a hall.
use Rattle.std.proofs.Common.{◌≡◌, ℕ, ◌+◌, ◌<◌, ◌≤◌, List, [], ◌∷◌, length, set, if◌then◌else◌, refl, sym, ap, ◌∙◌, subst, arith, eq-eqb}
use Rattle.std.proofs.lemmas.Bool.{ne_eqb}
use mathlib.Core.Option.{some}
use lib.ListN.{get_elem?}
use Rattle.atomic_table.proofs.Lists.{set_else, set_again}
use Rattle.hall_parts.specs.HallNames.{DequeId, LaneSlot, ListSlot, PoolSlot, SeatNote, Slot, HallKey, HallSeat, IsGiven, with_hand, PutMay}
use Rattle.turn_table.specs.Hands.{Shows, showing, without_slot, renewed, shown_by, gave}
use Rattle.turn_table.specs.Law.{PutKeeps}
use Rattle.turn_table.proofs.NoteLaws.{put_writes}
use Rattle.turn_table.proofs.Left.{left_of_one, first_of_two, first_of_three}
use Rattle.turn_table.specs.Backs.{still, unchanged}
use Rattle.turn_table.proofs.Resting.{put_rests}
use Rattle.hall_slots.specs.Passed.Writing.{lane_slot}
use Rattle.hall_slots.specs.declared.slot.Slot.TheVariants as slots
use Rattle.hall_slots.specs.Law.{HallHolds, places_of, joined_note}
use Rattle.hall_slots.proofs.Keeping.{Whole}
use Rattle.hall_parts.specs.Writes.{parts, slots_with}
use Rattle.hall_parts.proofs.Holding.{written_halls_hold}
use Rattle.hall_parts.proofs.There.{slot_is, list_there, pool_there}
use Rattle.hall_parts.specs.Puts.{MayWrite, MayPutLane, MayPutPoolAndLane, MayPutListAndLane, MayPutAll, HasPut}

-- what is in a slot shows at it, and a part that is written as it is there is not written
module _ (shown : List Slot) (deque : DequeId) (lane : LaneSlot) where
  abbrev one : List Slot
  one = set shown (lane_slot deque) (slots.Lane lane)

  list_beside : (list : ListSlot) → get_elem? shown 0 ≡ some (slots.List list) → get_elem? one 0 ≡ some (slots.List list)
  list_beside list at = set_else shown (lane_slot deque) 0 (slots.Lane lane) (λ e. omega (arith, e)) ∙ at

  pool_beside : (pool : PoolSlot) → get_elem? shown 1 ≡ some (slots.Pool pool) → get_elem? one 1 ≡ some (slots.Pool pool)
  pool_beside pool at = set_else shown (lane_slot deque) 1 (slots.Lane lane) (λ e. omega (arith, e)) ∙ at

  pool_is_there : (list : ListSlot) (pool : PoolSlot) → get_elem? shown 1 ≡ some (slots.Pool pool) → slots_with shown deque (parts list pool lane) ≡ set one 0 (slots.List list)
  pool_is_there list pool at = ap (λ xs. set xs 0 (slots.List list)) (set_again one 1 (slots.Pool pool) (pool_beside pool at))

  list_is_there : (list : ListSlot) (pool : PoolSlot) → get_elem? shown 0 ≡ some (slots.List list) → slots_with shown deque (parts list pool lane) ≡ set one 1 (slots.Pool pool)
  list_is_there list pool at = set_again (set one 1 (slots.Pool pool)) 0 (slots.List list) (set_else one 1 0 (slots.Pool pool) (λ e. omega (arith, e)) ∙ list_beside list at)

  both_are_there : (list : ListSlot) (pool : PoolSlot) → get_elem? shown 0 ≡ some (slots.List list) → get_elem? shown 1 ≡ some (slots.Pool pool) → slots_with shown deque (parts list pool lane) ≡ one
  both_are_there list pool first second = list_is_there list pool first ∙ set_again one 1 (slots.Pool pool) (pool_beside pool second)

-- the order in which two slots are written is of no account
either_first : (shown : List Slot) (a b : Slot) → set (set shown 0 a) 1 b ≡ set (set shown 1 b) 0 a
either_first [] a b = refl
either_first (x ∷ []) a b = refl
either_first (x ∷ y ∷ rest) a b = refl

-- a slot shows what stands beside it
pub named_here : (n : ℕ) (lane found : Slot) → shown_by ((n + 2, lane) ∷ []) (n + 2) found ≡ lane
named_here n lane found = ap (λ b. if b then lane else found) (eq-eqb (n + 2) (n + 2) refl)

pub named_after : (n : ℕ) (list lane found : Slot) → shown_by ((0, list) ∷ (n + 2, lane) ∷ []) (n + 2) found ≡ lane
named_after n list lane found = ap (λ b. if b then list else shown_by ((n + 2, lane) ∷ []) (n + 2) found) (ne_eqb 0 (n + 2) (λ e. omega (arith, e))) ∙ named_here n lane found

-- a slot that is put back next is held no more
pub given_back : (before acted last : HallSeat) (note : SeatNote) (slot : ℕ) (holds left : List (ℕ × Slot)) → HasPut before note holds acted → IsGiven acted slot last
    → renewed unchanged (without_slot slot holds) ≡ left → HasPut before note left last
given_back before acted last note slot holds left has given is =
    given ∙ ap (λ (s : HallSeat). with_hand s (gave still unchanged s.hand slot)) has
    ∙ ap (λ (xs : List (ℕ × Slot)). with_hand before (record { seated = before.hand.seated; holds = xs; note = note; looks = before.hand.looks })) is

module _ (key : HallKey) (seat : HallSeat) (note : SeatNote) (f : ℕ → Slot → Slot) where
  -- a put back that writes what it may
  keeps : (slot : ℕ) (value : Slot) → 0 < note.places → PutMay HallHolds key seat slot value f note → PutKeeps Whole joined_note key seat slot value (λ hand. note) f
  keeps slot value placed may = put_rests places_of HallHolds joined_note key seat slot value (λ hand. note) f placed (put_writes HallHolds joined_note key seat slot value (λ hand. note) f may)

  pub has_put : (slot : ℕ) (left : List (ℕ × Slot)) → renewed f (without_slot slot seat.hand.holds) ≡ left → (last : HallSeat) → last ≡ with_hand seat (gave (λ hand. note) f seat.hand slot)
      → HasPut seat note left last
  has_put slot left left_is last is = is ∙ ap (λ (xs : List (ℕ × Slot)). with_hand seat (record { seated = seat.hand.seated; holds = xs; note = note; looks = seat.hand.looks })) left_is

  module _ (deque : DequeId) where
    -- the lane alone
    module _ (lane : LaneSlot) (may : MayPutLane key seat deque lane note) where
      pub lane_left : renewed f (without_slot (deque.0 + 2) seat.hand.holds) ≡ []
      lane_left = ap (λ (xs : List (ℕ × Slot)). renewed f (without_slot (deque.0 + 2) xs)) may.holds ∙ left_of_one f (deque.0 + 2) (deque.0 + 2) (slots.Lane may.lane_was) refl

      lane_may : PutMay HallHolds key seat (deque.0 + 2) (slots.Lane lane) f note
      lane_may shown count ns holds as_long shows mine =
          let all : Shows shown ((deque.0 + 2, slots.Lane may.lane_was) ∷ []) = subst (λ (xs : List (ℕ × Slot)). Shows shown xs) may.holds shows in
          let long : 2 ≤ length shown = (let sized = holds.sized in omega (arith, sized)) in
          let list = list_there shown long holds.shaped in
          let pool = pool_there shown long holds.shaped in
          let write : MayWrite key seat deque (parts list.0 pool.0 may.lane_was) (parts list.0 pool.0 lane) note = may.may list.0 pool.0 in
          subst (λ (xs : List Slot). HallHolds key xs count (set ns seat.number note))
          (both_are_there shown deque lane list.0 pool.0 list.1 pool.1 ∙ sym (ap (λ n. set shown n (slots.Lane lane)) (slot_is deque.0))
          ∙ sym (ap (λ (xs : List (ℕ × Slot)). showing shown ((deque.0 + 2, slots.Lane lane) ∷ xs)) lane_left))
          (written_halls_hold key seat deque (parts list.0 pool.0 may.lane_was) (parts list.0 pool.0 lane) note may.owner write.goes_on write.sound shown count ns holds
          (record { list = list.1; pool = pool.1; lane = ap (get_elem? shown) (sym (slot_is deque.0)) ∙ all.0 }) mine)

      pub lane_keeps : PutKeeps Whole joined_note key seat (deque.0 + 2) (slots.Lane lane) (λ hand. note) f
      lane_keeps = keeps (deque.0 + 2) (slots.Lane lane) may.placed lane_may

    -- the pool and the lane
    module _ (pool : PoolSlot) (lane : LaneSlot) (f_is : (found : Slot) → f (deque.0 + 2) found ≡ slots.Lane lane) (may : MayPutPoolAndLane key seat deque pool lane note) where
      pub pool_left : renewed f (without_slot 1 seat.hand.holds) ≡ (deque.0 + 2, slots.Lane lane) ∷ []
      pool_left = ap (λ (xs : List (ℕ × Slot)). renewed f (without_slot 1 xs)) may.holds
          ∙ first_of_two f 1 (deque.0 + 2) (slots.Pool may.pool_was) (slots.Lane may.lane_was) ∙ ap (λ (s : Slot). (deque.0 + 2, s) ∷ []) (f_is (slots.Lane may.lane_was))

      pool_may : PutMay HallHolds key seat 1 (slots.Pool pool) f note
      pool_may shown count ns holds as_long shows mine =
          let all : Shows shown ((1, slots.Pool may.pool_was) ∷ (deque.0 + 2, slots.Lane may.lane_was) ∷ []) = subst (λ (xs : List (ℕ × Slot)). Shows shown xs) may.holds shows in
          let long : 2 ≤ length shown = (let sized = holds.sized in omega (arith, sized)) in
          let list = list_there shown long holds.shaped in
          let write : MayWrite key seat deque (parts list.0 may.pool_was may.lane_was) (parts list.0 pool lane) note = may.may list.0 in
          subst (λ (xs : List Slot). HallHolds key xs count (set ns seat.number note))
          (list_is_there shown deque lane list.0 pool list.1 ∙ sym (ap (λ n. set (set shown n (slots.Lane lane)) 1 (slots.Pool pool)) (slot_is deque.0))
          ∙ sym (ap (λ (xs : List (ℕ × Slot)). showing shown ((1, slots.Pool pool) ∷ xs)) pool_left))
          (written_halls_hold key seat deque (parts list.0 may.pool_was may.lane_was) (parts list.0 pool lane) note may.owner write.goes_on write.sound shown count ns holds
          (record { list = list.1; pool = all.0; lane = ap (get_elem? shown) (sym (slot_is deque.0)) ∙ all.1.0 }) mine)

      pub pool_keeps : PutKeeps Whole joined_note key seat 1 (slots.Pool pool) (λ hand. note) f
      pool_keeps = keeps 1 (slots.Pool pool) may.placed pool_may

    -- the list and the lane
    module _ (list : ListSlot) (lane : LaneSlot) (f_is : (found : Slot) → f (deque.0 + 2) found ≡ slots.Lane lane) (may : MayPutListAndLane key seat deque list lane note) where
      pub list_left : renewed f (without_slot 0 seat.hand.holds) ≡ (deque.0 + 2, slots.Lane lane) ∷ []
      list_left = ap (λ (xs : List (ℕ × Slot)). renewed f (without_slot 0 xs)) may.holds
          ∙ first_of_two f 0 (deque.0 + 2) (slots.List may.list_was) (slots.Lane may.lane_was) ∙ ap (λ (s : Slot). (deque.0 + 2, s) ∷ []) (f_is (slots.Lane may.lane_was))

      list_may : PutMay HallHolds key seat 0 (slots.List list) f note
      list_may shown count ns holds as_long shows mine =
          let all : Shows shown ((0, slots.List may.list_was) ∷ (deque.0 + 2, slots.Lane may.lane_was) ∷ []) = subst (λ (xs : List (ℕ × Slot)). Shows shown xs) may.holds shows in
          let long : 2 ≤ length shown = (let sized = holds.sized in omega (arith, sized)) in
          let pool = pool_there shown long holds.shaped in
          let write : MayWrite key seat deque (parts may.list_was pool.0 may.lane_was) (parts list pool.0 lane) note = may.may pool.0 in
          subst (λ (xs : List Slot). HallHolds key xs count (set ns seat.number note))
          (pool_is_there shown deque lane list pool.0 pool.1 ∙ sym (ap (λ n. set (set shown n (slots.Lane lane)) 0 (slots.List list)) (slot_is deque.0))
          ∙ sym (ap (λ (xs : List (ℕ × Slot)). showing shown ((0, slots.List list) ∷ xs)) list_left))
          (written_halls_hold key seat deque (parts may.list_was pool.0 may.lane_was) (parts list pool.0 lane) note may.owner write.goes_on write.sound shown count ns holds
          (record { list = all.0; pool = pool.1; lane = ap (get_elem? shown) (sym (slot_is deque.0)) ∙ all.1.0 }) mine)

      pub list_keeps : PutKeeps Whole joined_note key seat 0 (slots.List list) (λ hand. note) f
      list_keeps = keeps 0 (slots.List list) may.placed list_may

    -- all three
    module _ (list : ListSlot) (pool : PoolSlot) (lane : LaneSlot) (first_is : (found : Slot) → f 0 found ≡ slots.List list)
        (f_is : (found : Slot) → f (deque.0 + 2) found ≡ slots.Lane lane) (may : MayPutAll key seat deque list pool lane note) where
      pub all_left : renewed f (without_slot 1 seat.hand.holds) ≡ (0, slots.List list) ∷ (deque.0 + 2, slots.Lane lane) ∷ []
      all_left = ap (λ (xs : List (ℕ × Slot)). renewed f (without_slot 1 xs)) may.holds
          ∙ first_of_three f 1 0 (deque.0 + 2) (slots.Pool may.pool_was) (slots.List may.list_was) (slots.Lane may.lane_was)
          ∙ (λ i. (0, first_is (slots.List may.list_was) i) ∷ (deque.0 + 2, f_is (slots.Lane may.lane_was) i) ∷ [])

      all_may : PutMay HallHolds key seat 1 (slots.Pool pool) f note
      all_may shown count ns holds as_long shows mine =
          let all : Shows shown ((1, slots.Pool may.pool_was) ∷ (0, slots.List may.list_was) ∷ (deque.0 + 2, slots.Lane may.lane_was) ∷ []) = subst (λ (xs : List (ℕ × Slot)). Shows shown xs) may.holds shows in
          subst (λ (xs : List Slot). HallHolds key xs count (set ns seat.number note))
          (sym (either_first (set shown (lane_slot deque) (slots.Lane lane)) (slots.List list) (slots.Pool pool))
          ∙ sym (ap (λ n. set (set (set shown n (slots.Lane lane)) 0 (slots.List list)) 1 (slots.Pool pool)) (slot_is deque.0))
          ∙ sym (ap (λ (xs : List (ℕ × Slot)). showing shown ((1, slots.Pool pool) ∷ xs)) all_left))
          (written_halls_hold key seat deque (parts may.list_was may.pool_was may.lane_was) (parts list pool lane) note may.owner may.may.goes_on may.may.sound shown count ns holds
          (record { list = all.1.0; pool = all.0; lane = ap (get_elem? shown) (sym (slot_is deque.0)) ∙ all.1.1.0 }) mine)

      pub all_keeps : PutKeeps Whole joined_note key seat 1 (slots.Pool pool) (λ hand. note) f
      all_keeps = keeps 1 (slots.Pool pool) may.placed all_may
