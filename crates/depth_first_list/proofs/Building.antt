-- For a run that is built action by action: one more thing done by the thread, behind what it has done.
use Rattle.std.proofs.Common.{◌≡◌, ℕ, Bool, true, false, nat_le, if◌then◌else◌, List, [], ◌∷◌, ◌++◌, refl, sym, subst, leb-true, leb-false}
use Rattle.dag_order.specs.LabelOrder.{fork_of}
use Rattle.depth_first_list.specs.Actions.{Deed, forks, joins, allocates, Action, record_words}
use Rattle.depth_first_list.specs.Runs.{Point, next_child, action_at_point, after_action, after_fork, after_join, after_tree, tree_run, tree_for, IsPlain, Runs, goes_on, acts, forks_a_child, joins_the_newest, allocates_behind_a_tree, RunsWhole}

-- a plain action more
pub acts_then : (k : ℕ) (label : List ℕ) (p q : Point) (l : List Action) (deed : Deed) (words : ℕ) → Runs k label p l q → IsPlain k deed words
    → Runs k label p (l ++ action_at_point label q deed words ∷ []) (after_action q)
acts_then k label p q l deed words run plain = goes_on label p q (after_action q) l (action_at_point label q deed words ∷ []) run (acts label q deed words plain)

-- the Fork of a child, by the child's whole run
pub forks_whole : (k : ℕ) (label : List ℕ) (p : Point) (child : List Action) → RunsWhole k (fork_of label (next_child p)) record_words child
    → Runs k label p (action_at_point label p (forks (next_child p)) record_words ∷ child) (after_fork p)
forks_whole k label p child whole =
    let P : List Action → Type 0 = λ l. Runs k label p (action_at_point label p (forks (next_child p)) record_words ∷ l) (after_fork p) in
    subst P (sym whole.is) (forks_a_child label p whole.last whole.below whole.runs whole.all_joined)

pub forks_then : (k : ℕ) (label : List ℕ) (p q : Point) (l child : List Action) → Runs k label p l q → RunsWhole k (fork_of label (next_child q)) record_words child
    → Runs k label p (l ++ action_at_point label q (forks (next_child q)) record_words ∷ child) (after_fork q)
forks_then k label p q l child run whole =
    goes_on label p q (after_fork q) l (action_at_point label q (forks (next_child q)) record_words ∷ child) run (forks_whole k label q child whole)

-- a Join more
pub joins_then : (k : ℕ) (label : List ℕ) (p q : Point) (l : List Action) (child : ℕ) (older : List ℕ) (words : ℕ) → Runs k label p l q → q.open_children ≡ child ∷ older
    → Runs k label p (l ++ action_at_point label q (joins child) words ∷ []) (after_join q older)
joins_then k label p q l child older words run is =
    goes_on label p q (after_join q older) l (action_at_point label q (joins child) words ∷ []) run (joins_the_newest label q child older words is)

-- an Alloc of any number of words: the tree of dummies first where the quota does not cover it
abbrev pub alloc_run : ℕ → List ℕ → Point → ℕ → List Action
alloc_run k label p words =
    if nat_le words k then action_at_point label p allocates words ∷ []
    else tree_run label p (tree_for k words) ++ action_at_point label (after_tree p (tree_for k words)) allocates words ∷ []

abbrev pub after_alloc : ℕ → Point → ℕ → Point
after_alloc k p words = if nat_le words k then after_action p else after_action (after_tree p (tree_for k words))

pub allocates_any : (k : ℕ) (label : List ℕ) (p : Point) (words : ℕ) → Runs k label p (alloc_run k label p words) (after_alloc k p words)
allocates_any k label p words = by_test (nat_le words k) refl
  where
    by_test : (small : Bool) → nat_le words k ≡ small
        → Runs k label p
        (if small then action_at_point label p allocates words ∷ []
        else tree_run label p (tree_for k words) ++ action_at_point label (after_tree p (tree_for k words)) allocates words ∷ [])
        (if small then after_action p else after_action (after_tree p (tree_for k words)))
    by_test true is = acts label p allocates words (leb-true words k is)
    by_test false is = allocates_behind_a_tree label p words (leb-false words k is)
