-- The peak of a list of actions is the greatest sum of a prefix.
use Rattle.std.proofs.Common.{◌≡◌, ℕ, zero, suc, List, [], ◌∷◌, take, ℤ, pos, ◌+ℤ◌, ◌≤ℤ◌, ◌<ℤ◌, refl, arith}
use Rattle.std.specs.Int.{int_max}
use Rattle.std.proofs.lemmas.Int.{ints, clamps, by_lt_z}
use Rattle.depth_first_list.specs.Actions.{Action, weight, live_words, peak}
use Rattle.depth_first_list.specs.Laws.{PeakIsHighest}

-- no prefix goes above it
peak_is_above : (l : List Action) (n : ℕ) → live_words (take n l) ≤ℤ peak l
peak_is_above [] zero = omega (arith, ints)
peak_is_above [] (suc n) = omega (arith, ints)
peak_is_above (x ∷ l) zero = above_none (weight x +ℤ peak l)
  where
    above_none : (z : ℤ) → pos 0 ≤ℤ int_max (pos 0) z
    above_none z = omega (arith, ints, clamps)
peak_is_above (x ∷ l) (suc n) = above_one (weight x) (live_words (take n l)) (peak l) (peak_is_above l n)
  where
    above_one : (w y z : ℤ) → y ≤ℤ z → (w +ℤ y) ≤ℤ int_max (pos 0) (w +ℤ z)
    above_one w y z h = omega (arith, ints, clamps)

-- and one reaches it
peak_is_reached : (l : List Action) → (n : ℕ) × (peak l ≡ live_words (take n l))
peak_is_reached [] = (0, refl)
peak_is_reached (x ∷ l) =
    let rest : (n : ℕ) × (peak l ≡ live_words (take n l)) = peak_is_reached l in
    by_lt_z (pos 0) (weight x +ℤ peak l)
    (λ above. (suc rest.0, greater (weight x) (peak l) (live_words (take rest.0 l)) rest.1 above))
    (λ below. (0, smaller (weight x +ℤ peak l) below))
  where
    greater : (w z y : ℤ) → z ≡ y → pos 0 <ℤ (w +ℤ z) → int_max (pos 0) (w +ℤ z) ≡ w +ℤ y
    greater w z y e above = omega (arith, ints, clamps)

    smaller : (z : ℤ) → z ≤ℤ pos 0 → int_max (pos 0) z ≡ pos 0
    smaller z below = omega (arith, ints, clamps)

pub peak_is_highest : (l : List Action) → PeakIsHighest l
peak_is_highest l = record { reached = peak_is_reached l; never_above = peak_is_above l }
