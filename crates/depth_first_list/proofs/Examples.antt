-- Worked examples of depth-first lists.
use Rattle.std.proofs.Common.{◌≡◌, ℕ, List, [], ◌∷◌, refl, arith}
use Rattle.std.specs.Prelude.{pos}
use Rattle.depth_first_list.specs.Shapes.{leaf, forked, shape_of, halved}
use Rattle.depth_first_list.specs.Actions.{Deed, forks, joins, allocates, releases, dummy, faults, ends, Action, live_words, peak}
use Rattle.depth_first_list.specs.Runs.{start, after_action, after_fork, after_join, after_tree, rests, goes_on, acts, forks_a_child, joins_the_newest, allocates_behind_a_tree, IsDepthFirst, tree_for}
use Rattle.depth_first_list.specs.Laws.{IsLarge, TreeStandsBefore}
use Rattle.depth_first_list.proofs.TreeLaws.{trees_stand_before}

abbrev act : List ℕ → ℕ → Deed → ℕ → Action
act label index deed words = record { label = label; index = index; deed = deed; words = words }

-- With a quota of 16 words a run allocates 40 numbers, which are 48 words and so want 3 dummies, and frees them.
abbrev pub large_alloc : List Action
large_alloc =
    act [] 0 (forks 1) 16
    ∷ act (1 ∷ []) 0 (forks 1) 16
    ∷ act (1 ∷ 1 ∷ []) 0 dummy 0
    ∷ act (1 ∷ 1 ∷ []) 1 ends 16
    ∷ act (1 ∷ []) 1 dummy 0
    ∷ act (1 ∷ []) 2 (joins 1) 0
    ∷ act (1 ∷ []) 3 ends 16
    ∷ act [] 1 dummy 0
    ∷ act [] 2 (joins 1) 0
    ∷ act [] 3 allocates 48
    ∷ act [] 4 releases 48
    ∷ act [] 5 ends 0
    ∷ []

pub three_leaves : tree_for 16 48 ≡ forked (forked leaf leaf) leaf
unfolding shape_of halved
three_leaves = refl

pub large_alloc_is_depth_first : IsDepthFirst 16 large_alloc
unfolding shape_of halved
large_alloc_is_depth_first = record {
  last = after_action (after_action (after_tree start (tree_for 16 48)));
  below = _;
  runs = goes_on [] start _ _ _ _ (allocates_behind_a_tree [] start 48 (omega arith)) (acts [] _ releases 48 tt);
  all_joined = refl;
  is = refl;
}

pub large_alloc_peak : peak large_alloc ≡ pos 48
large_alloc_peak = refl

pub large_alloc_gives_all_back : live_words large_alloc ≡ pos 0
large_alloc_gives_all_back = refl

-- With a quota of 32 words, 2 dummies do.
pub two_leaves : tree_for 32 48 ≡ forked leaf leaf
unfolding shape_of halved
two_leaves = refl

-- The root allocates 16 words and forks a child that ends with them. It forks a second child, meets a fault while it
-- holds 32 words, and joins the newer child first. The Join of the older one gives back the words that it brings.
abbrev pub fault_with_two_children : List Action
fault_with_two_children =
    act [] 0 allocates 16
    ∷ act [] 1 (forks 1) 16
    ∷ act (1 ∷ []) 0 ends 16
    ∷ act [] 2 allocates 32
    ∷ act [] 3 (forks 2) 16
    ∷ act (2 ∷ []) 0 ends 16
    ∷ act [] 4 faults 32
    ∷ act [] 5 (joins 2) 0
    ∷ act [] 6 (joins 1) 16
    ∷ act [] 7 ends 0
    ∷ []

pub fault_is_depth_first : IsDepthFirst 32 fault_with_two_children
fault_is_depth_first = record {
  last = after_join (after_join (after_action (after_fork (after_action (after_fork (after_action start))))) (1 ∷ [])) [];
  below = _;
  runs =
      goes_on [] start _ _ _ _ (acts [] start allocates 16 (omega arith))
      (goes_on [] _ _ _ _ _ (forks_a_child [] _ start [] (rests (1 ∷ []) start) refl)
      (goes_on [] _ _ _ _ _ (acts [] _ allocates 32 (omega arith))
      (goes_on [] _ _ _ _ _ (forks_a_child [] _ start [] (rests (2 ∷ []) start) refl)
      (goes_on [] _ _ _ _ _ (acts [] _ faults 32 tt)
      (goes_on [] _ _ _ _ _ (joins_the_newest [] _ 2 (1 ∷ []) 0 refl)
      (joins_the_newest [] _ 1 [] 16 refl))))));
  all_joined = refl;
  is = refl;
}

pub fault_peak : peak fault_with_two_children ≡ pos 64
fault_peak = refl

pub fault_gives_all_back : live_words fault_with_two_children ≡ pos 0
fault_gives_all_back = refl

-- A large allocation at the first place, with no dummy before it, is in no depth-first list.
pub never_without_dummies : (rest : List Action) → IsDepthFirst 16 (act [] 0 allocates 48 ∷ rest) → ⊥
never_without_dummies rest run =
    let large : IsLarge 16 (act [] 0 allocates 48 ∷ rest) 0 = (omega arith, refl, omega arith) in
    let tree : TreeStandsBefore 16 (act [] 0 allocates 48 ∷ rest) 0 =
    trees_stand_before 16 (act [] 0 allocates 48 ∷ rest) (omega arith) run 0 large in
    let before = tree.begins_before in omega arith
