-- The order on labels. A label is the list of the ordinals of the forks from the root down to its thread.
use Rattle.std.specs.Prelude.{◌≡◌, ℕ, suc, ◌<◌, ◌≤◌, List, [], ◌∷◌, ◌++◌, ◌⊎◌}

-- a is before b: a goes on where b ends, or at the first place where they differ a has the smaller ordinal
abbrev pub Before : List ℕ → List ℕ → Type 0
Before [] b = ⊥
Before (x ∷ a) [] = Unit {0}
Before (x ∷ a) (y ∷ b) = (x < y) ⊎ ((x ≡ y) × Before a b)

-- the label of the fork `ordinal` of a thread
abbrev pub fork_of : List ℕ → ℕ → List ℕ
fork_of parent ordinal = parent ++ ordinal ∷ []

-- the label of a fork of `parent` from the fork `ordinal` on, or of a thread that stems from such a fork
abbrev pub StemsFromForkOn : List ℕ → ℕ → List ℕ → Type 0
StemsFromForkOn parent ordinal label =
    (fork : ℕ) × (below : List ℕ) × (ordinal ≤ fork) × (label ≡ parent ++ fork ∷ below)

-- a goes on where b ends
abbrev pub ProperlyExtends : List ℕ → List ℕ → Type 0
ProperlyExtends a b = (next : ℕ) × (rest : List ℕ) × (a ≡ b ++ next ∷ rest)

-- at the first place where both have an ordinal and these differ, a has the smaller one
abbrev pub FirstDiffersLower : List ℕ → List ℕ → Type 0
FirstDiffersLower a b =
    (same : List ℕ) × (lower : ℕ) × (higher : ℕ) × (a_rest : List ℕ) × (b_rest : List ℕ)
    × (lower < higher) × (a ≡ same ++ lower ∷ a_rest) × (b ≡ same ++ higher ∷ b_rest)

-- child stands directly before its parent: it is before it, and what stands between stems from a later fork
abbrev pub StandsDirectlyBefore : List ℕ → List ℕ → ℕ → Type 0
StandsDirectlyBefore child parent ordinal =
    Before child parent × ((label : List ℕ) → Before child label → Before label parent → StemsFromForkOn parent (suc ordinal) label)
