-- The laws of sums of moves.
use Rattle.std.specs.Prelude.{◌≡◌, ℕ, zero, suc, List, [], ◌∷◌, ◌++◌, take, pos, ◌+ℤ◌, ◌≤ℤ◌, refl}
use Rattle.std.specs.Int.{int_max}
use Rattle.std.proofs.Common.{arith}
use Rattle.std.proofs.lemmas.Int.{ints, clamps, by_lt_z}
use Rattle.space_ledger.specs.declared.moved.Moved.{Moved}
use Rattle.space_ledger.specs.Sums.{total_change, highest, IsHighest}

-- one move more adds its change
pub total_change_push : (moves : List Moved) (moved : Moved) → total_change (moves ++ moved ∷ []) ≡ total_change moves +ℤ moved.change
total_change_push [] moved = omega (arith, ints)
total_change_push (first ∷ moves) moved = let rest = total_change_push moves moved in omega (arith, ints, rest)

-- and the highest sum stays, or is the new one
pub highest_push : (moves : List Moved) (moved : Moved) → highest (moves ++ moved ∷ []) ≡ int_max (highest moves) (total_change moves +ℤ moved.change)
highest_push [] moved = omega (arith, ints, clamps)
highest_push (first ∷ moves) moved = let rest = highest_push moves moved in omega (arith, ints, clamps, rest)

-- the sum of each prefix is at most the highest
pub never_above_highest : (moves : List Moved) (n : ℕ) → total_change (take n moves) ≤ℤ highest moves
never_above_highest [] zero = omega (arith, ints)
never_above_highest [] (suc n) = omega (arith, ints)
never_above_highest (first ∷ moves) zero = omega (arith, ints, clamps)
never_above_highest (first ∷ moves) (suc n) = let rest = never_above_highest moves n in omega (arith, ints, clamps, rest)

-- which one of them reaches
pub highest_is_reached : (moves : List Moved) → (n : ℕ) × (highest moves ≡ total_change (take n moves))
highest_is_reached [] = (0, refl)
highest_is_reached (first ∷ moves) =
    let rest : (n : ℕ) × (highest moves ≡ total_change (take n moves)) = highest_is_reached moves in
    by_lt_z (pos 0) (first.change +ℤ highest moves)
    (λ above. (suc rest.0, omega (arith, ints, clamps, rest.1)))
    (λ below. (0, omega (arith, ints, clamps)))

-- so it is the greatest
pub highest_is_greatest : (moves : List Moved) → IsHighest moves (highest moves)
highest_is_greatest moves = record { reached = highest_is_reached moves; never_above = never_above_highest moves }
