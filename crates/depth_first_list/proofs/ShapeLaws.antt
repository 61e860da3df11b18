-- The laws of trees of dummies.
use Rattle.std.specs.Prelude.{◌≡◌, ℕ, zero, suc, ◌+◌, ◌*◌, ◌/◌, ◌^◌, ◌<◌, ◌≤◌, [], ◌∷◌, ◌++◌, length, count_by, refl, nat_le, cond, Bool, true, false, if◌then◌else◌}
use Rattle.std.proofs.Common.{sym, ◌∙◌, ap, arith, length-append}
use Rattle.std.proofs.lemmas.List.Sums.{sum_by-append, sum_by-cons}
use Rattle.std.proofs.Math.Nat.{pow-suc}
use borrow.Author.Tests.{leb-true, leb-false}
use Rattle.dag_order.specs.declared.kind.Kind.{Kind}
use Rattle.dag_order.specs.declared.kind.Kind.TheVariants.{Fork, Join, End}
use Rattle.depth_first_list.specs.Shapes.{Shape, leaf, forked, actions, leaves, depth, IsShapeOf, is_dummy, halved, shape_of, HasCounts}

-- a tree of n leaves has n leaves
pub leaves_of_shape : (n : ℕ) (shape : Shape) → IsShapeOf n shape → leaves shape ≡ n
leaves_of_shape n leaf is = sym is
leaves_of_shape n (forked child own) is =
    let c : leaves child ≡ (n + 1) / 2 = leaves_of_shape ((n + 1) / 2) child is.1 in
    let o : leaves own ≡ n / 2 = leaves_of_shape (n / 2) own is.2 in omega arith

-- it has 4n - 3 actions
pub actions_of_shape : (shape : Shape) → length (actions shape) + 3 ≡ 4 * leaves shape
actions_of_shape leaf = refl
actions_of_shape (forked child own) =
    let c = actions_of_shape child in let o = actions_of_shape own in
    omega (arith, c, o, length-append (actions child) (End ∷ (actions own ++ Join ∷ [])), length-append (actions own) (Join ∷ []))

-- n of them are dummies
pub dummies_of_shape : (shape : Shape) → count_by is_dummy (actions shape) ≡ leaves shape
dummies_of_shape leaf = refl
dummies_of_shape (forked child own) =
    let c = dummies_of_shape child in let o = dummies_of_shape own in
    let after = sum_by-append one_if_dummy (actions own) (Join ∷ []) in
    let ended = sum_by-cons one_if_dummy End (actions own ++ Join ∷ []) in
    let front = sum_by-append one_if_dummy (actions child) (End ∷ (actions own ++ Join ∷ [])) in
    let forked = sum_by-cons one_if_dummy Fork (actions child ++ End ∷ (actions own ++ Join ∷ [])) in
    omega (arith, c, o, after, ended, front, forked)
  where
    one_if_dummy : Kind → ℕ
    one_if_dummy kind = cond (is_dummy kind) 1 0

-- and at most d forks stand above one another, where n is at most 2 ^ d
pub depth_of_shape : (d n : ℕ) (shape : Shape) → IsShapeOf n shape → n ≤ 2 ^ d → depth shape ≤ d
depth_of_shape d n leaf is below = omega arith
depth_of_shape zero n (forked child own) is below = let many : 1 < n = is.0 in absurd (omega arith)
depth_of_shape (suc d) n (forked child own) is below =
    let twice : 2 ^ suc d ≡ 2 ^ d * 2 = pow-suc 2 d in
    let c : depth child ≤ d = depth_of_shape d ((n + 1) / 2) child is.1 (omega arith) in
    let o : depth own ≤ d = depth_of_shape d (n / 2) own is.2 (omega arith) in omega arith

-- one round of halving
halved_once : (n rounds : ℕ) → ((m : ℕ) → 1 ≤ m → m ≤ rounds + 1 → IsShapeOf m (halved rounds m)) → 1 ≤ n → n ≤ suc rounds + 1
    → (one : Bool) → nat_le n 1 ≡ one → IsShapeOf n (if one then leaf else forked (halved rounds ((n + 1) / 2)) (halved rounds (n / 2)))
halved_once n rounds further some few true is = let one : n ≤ 1 = leb-true n 1 is in omega arith
halved_once n rounds further some few false is =
    let many : 1 < n = leb-false n 1 is in
    (many, further ((n + 1) / 2) (omega arith) (omega arith), further (n / 2) (omega arith) (omega arith))

-- the tree that is halved often enough has its shape
pub shape_of_halved : (rounds n : ℕ) → 1 ≤ n → n ≤ rounds + 1 → IsShapeOf n (halved rounds n)
unfolding halved
shape_of_halved zero n some few = omega arith
shape_of_halved (suc rounds) n some few =
    halved_once n rounds (λ m. shape_of_halved rounds m) some few (nat_le n 1) refl

-- shape_of gives the tree of n leaves
pub shape_of_is_shape : (n : ℕ) → 1 ≤ n → IsShapeOf n (shape_of n)
unfolding shape_of
shape_of_is_shape n some = shape_of_halved n n some (omega arith)

-- which is the only one
pub one_shape : (n : ℕ) (shape other : Shape) → IsShapeOf n shape → IsShapeOf n other → shape ≡ other
one_shape n leaf leaf p q = refl
one_shape n leaf (forked child own) p q = let many : 1 < n = q.0 in absurd (omega arith)
one_shape n (forked child own) leaf p q = let many : 1 < n = p.0 in absurd (omega arith)
one_shape n (forked child own) (forked child' own') p q =
    ap (λ c. forked c own) (one_shape ((n + 1) / 2) child child' p.1 q.1) ∙ ap (λ o. forked child' o) (one_shape (n / 2) own own' p.2 q.2)

-- the tree of one leaf
pub shape_of_one : shape_of 1 ≡ leaf
shape_of_one = one_shape 1 (shape_of 1) leaf (shape_of_is_shape 1 (omega arith)) refl

-- the tree of more leaves
pub shape_of_more : (n : ℕ) → 1 < n → shape_of n ≡ forked (shape_of ((n + 1) / 2)) (shape_of (n / 2))
shape_of_more n many =
    one_shape n (shape_of n) (forked (shape_of ((n + 1) / 2)) (shape_of (n / 2))) (shape_of_is_shape n (omega arith))
    (many, shape_of_is_shape ((n + 1) / 2) (omega arith), shape_of_is_shape (n / 2) (omega arith))

-- what is known of it
pub counts_of_tree : (n : ℕ) → 1 ≤ n → HasCounts n (shape_of n)
counts_of_tree n some =
    let is : IsShapeOf n (shape_of n) = shape_of_is_shape n some in
    let size : leaves (shape_of n) ≡ n = leaves_of_shape n (shape_of n) is in
    record {
      all_actions = actions_of_shape (shape_of n) ∙ ap (λ k. 4 * k) size;
      dummies = dummies_of_shape (shape_of n) ∙ size;
      forks_above = λ d below. depth_of_shape d n (shape_of n) is below;
    }
