-- Words on lists.
use Rattle.std.specs.Prelude.{◌≡◌, ◌⊎◌, ℕ, ◌+◌, cond, nat_eq, List, [], ◌∷◌}

-- x stands in the list
abbrev pub Among : {X : Type 0} → X → List X → Type 0
Among x [] = ⊥
Among x (y ∷ ys) = (x ≡ y) ⊎ Among x ys

-- P holds of each element
abbrev pub Each : {X : Type 0} → (X → Type 0) → List X → Type 0
Each P [] = Unit {0}
Each P (x ∷ xs) = P x × Each P xs

-- no two elements are the same
abbrev pub Differ : {X : Type 0} → List X → Type 0
Differ [] = Unit {0}
Differ (x ∷ xs) = (¬ Among x xs) × Differ xs

-- the sum of f over the list
abbrev pub total : {X : Type 0} → (X → ℕ) → List X → ℕ
total f [] = 0
total f (x ∷ xs) = f x + total f xs

abbrev pub one_if_same : ℕ → ℕ → ℕ
one_if_same i j = cond (nat_eq i j) 1 0

-- how often a number stands in a list
abbrev pub times : ℕ → List ℕ → ℕ
times i js = total (one_if_same i) js
