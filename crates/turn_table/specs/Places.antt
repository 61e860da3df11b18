-- Seats that share places, so that a seat without places holds nothing.
use Rattle.std.specs.Prelude.{◌≡◌, ◌≢◌, ℕ, List, []}
use mathlib.Core.Option.{some}
use lib.ListN.{get_elem?}
use Rattle.turn_table.specs.declared.hand.Hand.{Hand}
use Rattle.turn_table.specs.Notes.{OverNotes}

-- a hand whose note has no places holds no slot
abbrev pub Rests : {V N : Type 0} → (N → ℕ) → List (Hand V N) → Type 0
Rests {V} {N} places_in hands = (j : ℕ) (h : Hand V N) → get_elem? hands j ≡ some h → places_in h.note ≡ 0 → h.holds ≡ []

-- a law over what is shown, counted and noted, and beside it that hands without places hold nothing
abbrev pub WithPlaces : {K V N : Type 0} → (N → ℕ) → (K → List V → ℕ → List N → Type 0) → K → List V → ℕ → List (Hand V N) → Type 0
WithPlaces places_in P key shown count hands = OverNotes P key shown count hands × Rests places_in hands

-- the seats of all other numbers have no places
abbrev pub OthersHaveNone : {V N : Type 0} → (N → ℕ) → List (Hand V N) → ℕ → Type 0
OthersHaveNone {V} {N} places_in hands number =
    (j : ℕ) (h : Hand V N) → j ≢ number → get_elem? hands j ≡ some h → places_in h.note ≡ 0
