-- What callers may rely on.
use Rattle.std.specs.Prelude.{◌≡◌, ℕ, List}
use mathlib.Core.Option.{some}
use lib.ListN.{get_elem?}
use Rattle.turn_table.specs.declared.hand.Hand.{Hand}
use Rattle.turn_table.specs.Hands.{Has, turn}
use Rattle.turn_table.specs.Places.{Rests, OthersHaveNone}

-- Where no other seat has places, a seat finds each turn free that it does not hold.
abbrev pub LoneSeatsAreFree : Type 0 → Type 0 → Type 0
LoneSeatsAreFree V N =
    (places_in : N → ℕ) (hands : List (Hand V N)) (number : ℕ) (mine : Hand V N)
    → Rests places_in hands → get_elem? hands number ≡ some mine
    → OthersHaveNone places_in hands number → (i : ℕ) → ¬ Has i mine.holds → turn hands i ≡ 0
