-- What a source gives.
use Rattle.std.specs.Prelude.{◌≡◌, ℕ, List, [], ◌++◌, take, drop, Option, Some, None}

-- what a source that tells the bytes still to come gave in between: these bytes, from the front; what it told once
-- it tells from then on
abbrev pub Gives : Option (List ℕ) → Option (List ℕ) → List ℕ → Type 0
Gives None after bytes = Unit {0}
Gives (Some before) None bytes = ⊥
Gives (Some before) (Some after) bytes = before ≡ bytes ++ after

-- no byte is to come, where the source tells
abbrev pub IsSpent : Option (List ℕ) → Type 0
IsSpent None = Unit {0}
IsSpent (Some left) = left ≡ []

-- what is read of a source that tells the bytes still to come: all of them, or as many as are read at most
abbrev pub IsRead : (most : ℕ) → Option (List ℕ) → Option (List ℕ) → List ℕ → Type 0
IsRead most None after bytes = Unit {0}
IsRead most (Some before) None bytes = ⊥
IsRead most (Some before) (Some after) bytes = (bytes ≡ take most before) × (after ≡ drop most before)
