-- Facts of each element of a list, in another order, under a map, and by a lookup.
use Rattle.std.proofs.Common.{List, [], ◌∷◌, map, inl, inr, ap}
use Rattle.std.specs.List.Sorted.{IsPermutation}
use Rattle.std.proofs.lemmas.List.Sorted.{IsPermutation-sym}
use Rattle.open_periods.specs.Passed.Lists.{Among, Each}
use Rattle.open_periods.proofs.Passed.Lists.{each_from, each_among}
use Rattle.moment_laws.proofs.Reordered.{among_moved}

module _ {X : Type 0} where
  -- what holds of each element holds of each in another order
  pub each_moved : (P : X → Type 0) (xs ys : List X) → IsPermutation xs ys → Each P xs → Each P ys
  each_moved P xs ys moved all =
      each_from P ys (λ y there. each_among P y xs all (among_moved ys xs (IsPermutation-sym xs ys moved) y there))

-- what stands in a list stands in it under a map
pub among_mapped : {X Y : Type 0} (f : X → Y) (x : X) (xs : List X) → Among x xs → Among (f x) (map f xs)
among_mapped f x [] there = there
among_mapped f x (y ∷ xs) there = elim there [ inl same ↦ inl (ap f same) | inr later ↦ inr (among_mapped f x xs later) ]
