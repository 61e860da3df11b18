-- What a seat reads of the law in the slots that it holds.
use Rattle.std.proofs.Common.{◌≡◌, ℕ, zero, suc, List, [], ◌∷◌, sym, ap, subst}
use Rattle.std.specs.Prelude.{Some, slice_get}
use Rattle.std.proofs.lemmas.Option.{same_Some, none-some}
use mathlib.Core.Option.{some, some-injective, some-ne-none}
use lib.ListN.{get_elem?}
use Rattle.turn_table.specs.Hands.{Shows}
use Rattle.turn_table.specs.Law.{Stands, Meets}
use Rattle.hall_slots.specs.declared.slot.Slot.{Slot}
use Rattle.hall_slots.specs.declared.slot.Slot.TheVariants as slots
use Rattle.hall_slots.specs.declared.list_slot.ListSlot.{ListSlot}
use Rattle.hall_slots.specs.declared.pool_slot.PoolSlot.{PoolSlot}
use Rattle.hall_slots.specs.declared.lane_slot.LaneSlot.{LaneSlot}
use Rattle.hall_slots.specs.declared.key.HallKey.{HallKey}
use Rattle.hall_slots.specs.Law.{IsShaped, joined_note}
use Rattle.hall_slots.specs.Takes.{HallSeat, IsTaken}
use Rattle.hall_slots.proofs.Keeping.{Whole}

-- the two ways to read a list at a place say the same
pub at_of_get : {X : Type 0} (xs : List X) (i : ℕ) (x : X) → slice_get xs i ≡ Some x → get_elem? xs i ≡ some x
at_of_get [] i x at = absurd (none-some x at)
at_of_get (y ∷ xs) zero x at = ap (λ z. some z) (same_Some y x at)
at_of_get (y ∷ xs) (suc i) x at = at_of_get xs i x at

pub get_of_at : {X : Type 0} (xs : List X) (i : ℕ) (x : X) → get_elem? xs i ≡ some x → slice_get xs i ≡ Some x
get_of_at [] i x at = absurd (some-ne-none x (sym at))
get_of_at (y ∷ xs) zero x at = ap (λ z. Some z) (some-injective y x at)
get_of_at (y ∷ xs) (suc i) x at = get_of_at xs i x at

-- what was taken out of a slot is of its kind
pub shape_of : (key : HallKey) (before after : HallSeat) (slot : ℕ) (found : Slot) → IsTaken before slot found after → Meets Whole joined_note key after → IsShaped slot found
shape_of key before after slot found is meets = let st : Stands Whole joined_note key after meets.0 meets.1 meets.2 = meets.3 in
    let shows : Shows meets.0 after.hand.holds = st.fits.shows after.number after.hand st.mine in
    let all : Shows meets.0 ((slot, found) ∷ before.hand.holds) = subst (λ (s : HallSeat). Shows meets.0 s.hand.holds) is shows in
    st.kept.0.shaped slot found all.0

-- a fact of what a slot holds, if it is of this kind
abbrev pub IfList : (ListSlot → Type 0) → Slot → Type 0
IfList P (slots.List list) = P list
IfList P (slots.Pool pool) = Unit {0}
IfList P (slots.Lane lane) = Unit {0}

abbrev pub IfPool : (PoolSlot → Type 0) → Slot → Type 0
IfPool P (slots.List list) = Unit {0}
IfPool P (slots.Pool pool) = P pool
IfPool P (slots.Lane lane) = Unit {0}

abbrev pub IfLane : (LaneSlot → Type 0) → Slot → Type 0
IfLane P (slots.List list) = Unit {0}
IfLane P (slots.Pool pool) = Unit {0}
IfLane P (slots.Lane lane) = P lane
