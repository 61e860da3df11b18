-- The values of a row, on their way into the slots and out of them.
use Rattle.std.specs.Prelude.{◌≡◌, ℕ, ◌<◌, false, List, Option, option_to_list, flat_map, MatchOption, slice_index_or}
use mathlib.Core.Option.{some}
use lib.ListN.{get_elem?}
use Rattle.turn_table.specs.Rows.{turn_word}
use Rattle.core.specs.declared.slots.Slots.{Slots}
use Rattle.core.specs.Mem.Slots.{slots_filled, slots_len}

-- what the slots hold, in order
abbrev pub present : {V : Type 0} → List (Option V) → List V
present = flat_map option_to_list

-- the first of the first n slots whose turn word is not 0, or none
abbrev pub IsFirstTaken : List ℕ → ℕ → Option ℕ → Type 0
IsFirstTaken words n r = MatchOption r ((j : ℕ) → j < n → get_elem? words (turn_word j) ≡ some 0)
    (λ i. (i < n) × ((w : ℕ) × (get_elem? words (turn_word i) ≡ some w) × ¬ (w ≡ 0)) × ((j : ℕ) → j < i → get_elem? words (turn_word j) ≡ some 0))

-- no slot holds a value any more
abbrev pub IsEmpty : {X : Type 0} → Slots X → Type 0
IsEmpty slots = (k : ℕ) → k < slots_len slots → slice_index_or (slots_filled slots) k false ≡ false
