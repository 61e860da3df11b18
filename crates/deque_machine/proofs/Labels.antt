-- Labels of forks, and lists of labels that rise.
use Rattle.std.proofs.Common.{◌≡◌, ℕ, ◌⊎◌, List, [], ◌∷◌, ◌++◌, length, inl, inr, refl, sym, ap, subst, ◌∙◌, arith, length-append, append_assoc, append-nil}
use Rattle.dag_order.specs.LabelOrder.{fork_of, Before}
use Rattle.dag_order.specs.LabelLaws.{never_before_itself}
use Rattle.depth_first_run.specs.Passed.Facts.{StemsFrom}
use Rattle.deque_machine.specs.Lists.{Among, Each}
use Rattle.deque_machine.proofs.Lists.{each_left, each_right, each_join, each_without, each_among, same_head, same_tail, middle_is_not_nil, by_end}
use Rattle.deque_machine.specs.Moments.{Rises}

pub same_ends : (xs ys : List ℕ) (x y : ℕ) → xs ++ x ∷ [] ≡ ys ++ y ∷ [] → (xs ≡ ys) × (x ≡ y)
same_ends [] [] x y is = (refl, same_head x y [] [] is)
same_ends [] (b ∷ ys) x y is = absurd (middle_is_not_nil ys y [] (sym (same_tail x b [] (ys ++ y ∷ []) is)))
same_ends (a ∷ xs) [] x y is = absurd (middle_is_not_nil xs x [] (same_tail a y (xs ++ x ∷ []) [] is))
same_ends (a ∷ xs) (b ∷ ys) x y is =
    let rest : (xs ≡ ys) × (x ≡ y) = same_ends xs ys x y (same_tail a b (xs ++ x ∷ []) (ys ++ y ∷ []) is) in
    (ap (λ t. t ∷ xs) (same_head a b (xs ++ x ∷ []) (ys ++ y ∷ []) is) ∙ ap (λ t. b ∷ t) rest.0, rest.1)

-- a fork tells its parent and its ordinal
pub one_parent : (a b : List ℕ) (c d : ℕ) → fork_of a c ≡ fork_of b d → (a ≡ b) × (c ≡ d)
one_parent a b c d is = same_ends a b c d is

pub fork_is_not_root : (a : List ℕ) (c : ℕ) → ¬ (fork_of a c ≡ [])
fork_is_not_root a c is = middle_is_not_nil a c [] is

-- nor does the root stem from a fork
pub middle_of_fork : (a : List ℕ) (c : ℕ) → ¬ StemsFrom (fork_of a c) []
middle_of_fork a c stems = middle_is_not_nil a c stems.0 (sym (stems.1 ∙ append_assoc a (c ∷ []) stems.0))

pub fork_is_longer : (a : List ℕ) (c : ℕ) → ¬ (fork_of a c ≡ a)
fork_is_longer a c is = let more = length-append a (c ∷ []) in let same : length (fork_of a c) ≡ length a = ap length is in absurd (omega (arith, more, same))

-- what a fork stems from is the fork itself, or its parent stems from it
pub above_a_fork : (x parent : List ℕ) (c : ℕ) → StemsFrom x (fork_of parent c) → (x ≡ fork_of parent c) ⊎ StemsFrom x parent
above_a_fork x parent c stems = elim (by_end stems.0) [
  | inl none ↦ inl (sym (stems.1 ∙ ap (λ t. x ++ t) none ∙ append-nil x))
  | inr cut ↦ let is : parent ++ c ∷ [] ≡ (x ++ cut.0) ++ cut.1 ∷ [] = stems.1 ∙ ap (λ t. x ++ t) cut.2 ∙ sym (append_assoc x cut.0 (cut.1 ∷ [])) in
      inr (cut.0, (same_ends parent (x ++ cut.0) c cut.1 is).0)
]

-- what stems from a thread is the thread, or stems from one of its forks
pub below_a_thread : (thread x : List ℕ) → StemsFrom thread x → (x ≡ thread) ⊎ ((child : ℕ) × (below : List ℕ) × (x ≡ thread ++ child ∷ below))
below_a_thread thread x stems = by_rest stems.0 stems.1
  where
    by_rest : (rest : List ℕ) → x ≡ thread ++ rest → (x ≡ thread) ⊎ ((child : ℕ) × (below : List ℕ) × (x ≡ thread ++ child ∷ below))
    by_rest [] is = inl (is ∙ append-nil thread)
    by_rest (child ∷ below) is = inr (child, below, is)

pub stems_from_fork : (parent below : List ℕ) (child : ℕ) → StemsFrom (fork_of parent child) (parent ++ child ∷ below)
stems_from_fork parent below child = (below, sym (append_assoc parent (child ∷ []) below))

pub rises_left : (a b : List (List ℕ)) → Rises (a ++ b) → Rises a
rises_left [] b all = tt
rises_left (x ∷ a) b all = (each_left (Before x) a b all.0, rises_left a b all.1)

pub rises_right : (a b : List (List ℕ)) → Rises (a ++ b) → Rises b
rises_right [] b all = all
rises_right (x ∷ a) b all = rises_right a b all.1

-- what stands left of a label is before it
pub left_is_before : (a : List (List ℕ)) (t : List ℕ) (b : List (List ℕ)) → Rises (a ++ t ∷ b) → Each (λ x. Before x t) a
left_is_before [] t b all = tt
left_is_before (x ∷ a) t b all = ((each_right (Before x) a (t ∷ b) all.0).0, left_is_before a t b all.1)

pub right_is_behind : (a : List (List ℕ)) (t : List ℕ) (b : List (List ℕ)) → Rises (a ++ t ∷ b) → Each (Before t) b
right_is_behind a t b all = (rises_right a (t ∷ b) all).0

pub rises_without : (a : List (List ℕ)) (t : List ℕ) (b : List (List ℕ)) → Rises (a ++ t ∷ b) → Rises (a ++ b)
rises_without [] t b all = all.1
rises_without (x ∷ a) t b all = (each_without (Before x) a t b all.0, rises_without a t b all.1)

-- a label that what stands left is before, and that is before what stands right
pub rises_with : (a : List (List ℕ)) (t : List ℕ) (b : List (List ℕ)) → Rises (a ++ b) → Each (λ x. Before x t) a → Each (Before t) b → Rises (a ++ t ∷ b)
rises_with [] t b all left right = (right, all)
rises_with (x ∷ a) t b all left right =
    (each_join (Before x) a (t ∷ b) (each_left (Before x) a b all.0) (left.0, each_right (Before x) a b all.0), rises_with a t b all.1 left.1 right)

-- a label stands once
pub stands_once : (a : List (List ℕ)) (t : List ℕ) (b : List (List ℕ)) → Rises (a ++ t ∷ b) → ¬ Among t (a ++ b)
stands_once [] t b all there = never_before_itself t (each_among (Before t) t b all.0 there)
stands_once (x ∷ a) t b all there = elim there [
  | inl same ↦ never_before_itself x (subst (λ u. Before x u) same (each_right (Before x) a (t ∷ b) all.0).0)
  | inr later ↦ stands_once a t b all.1 later
]
