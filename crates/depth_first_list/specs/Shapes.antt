-- Trees of dummies: their shape, and the actions that they give.
use Rattle.std.specs.Prelude.{◌≡◌, ℕ, zero, suc, ◌+◌, ◌*◌, ◌/◌, ◌^◌, ◌<◌, ◌≤◌, Bool, true, false, nat_le, if◌then◌else◌, max, List, [], ◌∷◌, ◌++◌, length, count_by}
use Rattle.dag_order.specs.declared.kind.Kind.{Kind}
use Rattle.dag_order.specs.declared.kind.Kind.TheVariants.{Fork, Join, Dummy, End}

-- one dummy; or what a forked child runs, and what the thread then runs itself
pub data Shape : Type 0 where
  leaf : Shape
  forked : Shape → Shape → Shape

-- the actions in depth-first order: the child's stand directly after its Fork
abbrev pub actions : Shape → List Kind
actions leaf = Dummy ∷ []
actions (forked child own) = Fork ∷ (actions child ++ End ∷ (actions own ++ Join ∷ []))

-- how many dummies are its leaves
abbrev pub leaves : Shape → ℕ
leaves leaf = 1
leaves (forked child own) = leaves child + leaves own

-- how many forks stand above one another at most
abbrev pub depth : Shape → ℕ
depth leaf = 0
depth (forked child own) = max (suc (depth child)) (depth own)

-- the shape of the tree of n leaves: the child has n / 2 of them, rounded up, and the thread itself the others
abbrev pub IsShapeOf : ℕ → Shape → Type 0
IsShapeOf n leaf = n ≡ 1
IsShapeOf n (forked child own) = (1 < n) × IsShapeOf ((n + 1) / 2) child × IsShapeOf (n / 2) own

-- whether an action is a dummy
abbrev pub is_dummy : Kind → Bool
is_dummy Dummy = true
is_dummy other = false

-- a tree is halved until one leaf is left, at most `rounds` times
unfoldable pub halved : ℕ → ℕ → Shape
halved zero n = leaf
halved (suc rounds) n = if nat_le n 1 then leaf else forked (halved rounds ((n + 1) / 2)) (halved rounds (n / 2))

-- the shape of the tree of n leaves
unfoldable pub shape_of : ℕ → Shape
shape_of n = halved n n

-- what is known of the tree of n leaves: it has 4n - 3 actions, n of them dummies, and where n has at most d
-- binary digits after the first, or is 2 ^ d, at most d forks stand above one another
pub record HasCounts (n : ℕ) (shape : Shape) : Type 0 where
  pub all_actions : length (actions shape) + 3 ≡ 4 * n
  pub dummies : count_by is_dummy (actions shape) ≡ n
  pub forks_above : (d : ℕ) → n ≤ 2 ^ d → depth shape ≤ d
