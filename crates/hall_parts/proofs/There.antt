-- Which slots there are.
use Rattle.std.proofs.Common.{◌≡◌, suc-ne-zero, ℕ, suc, ◌+◌, ◌≤◌, List, [], ◌∷◌, length, refl, sym, arith}
use mathlib.Core.Option.{some}
use lib.ListN.{get_elem?}
use Rattle.hall_parts.specs.HallNames.{ListSlot, PoolSlot, Slot}
use Rattle.hall_slots.specs.declared.slot.Slot.TheVariants as slots
use Rattle.hall_slots.specs.Law.{IsShaped}

-- the slot of the lane of a deque comes after those of the list and of the pool
pub slot_is : (n : ℕ) → n + 2 ≡ suc (suc n)
slot_is n = omega arith

-- the first slot is the list, and the second the pool
pub list_there : (shown : List Slot) → 2 ≤ length shown → ((i : ℕ) (found : Slot) → get_elem? shown i ≡ some found → IsShaped i found)
    → (list : ListSlot) × (get_elem? shown 0 ≡ some (slots.List list))
list_there [] long shaped = absurd (omega (arith, long))
list_there (slots.List list ∷ rest) long shaped = (list, refl)
list_there (slots.Pool pool ∷ rest) long shaped = absurd (suc-ne-zero 0 (shaped 0 (slots.Pool pool) refl))
list_there (slots.Lane lane ∷ rest) long shaped = absurd (suc-ne-zero 1 (shaped 0 (slots.Lane lane) refl))

pub pool_there : (shown : List Slot) → 2 ≤ length shown → ((i : ℕ) (found : Slot) → get_elem? shown i ≡ some found → IsShaped i found)
    → (pool : PoolSlot) × (get_elem? shown 1 ≡ some (slots.Pool pool))
pool_there [] long shaped = absurd (omega (arith, long))
pool_there (a ∷ []) long shaped = absurd (omega (arith, long))
pool_there (a ∷ slots.List list ∷ rest) long shaped = absurd (suc-ne-zero 0 (sym (shaped 1 (slots.List list) refl)))
pool_there (a ∷ slots.Pool pool ∷ rest) long shaped = (pool, refl)
pool_there (a ∷ slots.Lane lane ∷ rest) long shaped = absurd (let kind : 2 ≡ 1 = shaped 1 (slots.Lane lane) refl in omega (arith, kind))
