-- The rules by which the actions of a run stand in depth-first order.
use Rattle.std.specs.Prelude.{◌≡◌, ℕ, suc, ◌≤◌, ◌<◌, List, [], ◌∷◌, ◌++◌}
use Rattle.dag_order.specs.LabelOrder.{fork_of}
use Rattle.depth_first_list.specs.Quotas.{dummies_of}
use Rattle.depth_first_list.specs.Shapes.{Shape, leaf, forked, shape_of}
use Rattle.depth_first_list.specs.Actions.{Deed, forks, joins, allocates, releases, dummy, faults, ends, Action, record_words}

-- Where a thread is: how many actions it has done, which is the index of its next one, how many forks it has
-- done, and the ordinals of its children that it has not joined, the newest first.
pub record Point : Type 0 where
  pub done : ℕ
  pub forks_done : ℕ
  pub open_children : List ℕ

-- where each thread begins
abbrev pub start : Point
start = record { done = 0; forks_done = 0; open_children = [] }

-- the ordinal of the next child
abbrev pub next_child : Point → ℕ
next_child p = suc p.forks_done

-- the next action of a thread at a point
abbrev pub action_at_point : List ℕ → Point → Deed → ℕ → Action
action_at_point label p deed words = record { label = label; index = p.done; deed = deed; words = words }

-- behind an action that neither forks nor joins
abbrev pub after_action : Point → Point
after_action p = record { done = suc p.done; forks_done = p.forks_done; open_children = p.open_children }

-- behind a Fork the new child is the newest open one
abbrev pub after_fork : Point → Point
after_fork p = record { done = suc p.done; forks_done = next_child p; open_children = next_child p ∷ p.open_children }

-- behind a Join the older children are open
abbrev pub after_join : Point → List ℕ → Point
after_join p older = record { done = suc p.done; forks_done = p.forks_done; open_children = older }

-- the action by which a thread ends and gives back the words of its record block
abbrev pub end_at : List ℕ → Point → ℕ → Action
end_at label p words = action_at_point label p ends words

-- where a thread is when it has run a tree of dummies
abbrev pub after_tree : Point → Shape → Point
after_tree p leaf = after_action p
after_tree p (forked child own) = after_join (after_tree (after_fork p) own) p.open_children

-- The actions of a tree of dummies: one Dummy; or a Fork, what the child runs and its End, what the thread runs
-- then itself, and the Join.
abbrev pub tree_run : List ℕ → Point → Shape → List Action
tree_run label p leaf = action_at_point label p dummy 0 ∷ []
tree_run label p (forked child own) =
    action_at_point label p (forks (next_child p)) record_words
    ∷ (tree_run (fork_of label (next_child p)) start child
    ++ (end_at (fork_of label (next_child p)) (after_tree start child) record_words
    ∷ (tree_run label (after_fork p) own
    ++ (action_at_point label (after_tree (after_fork p) own) (joins (next_child p)) 0 ∷ []))))

-- what a thread does by itself, with no tree before it: an Alloc that the quota covers, a Release or a Fault
abbrev pub IsPlain : ℕ → Deed → ℕ → Type 0
IsPlain k allocates words = words ≤ k
IsPlain k releases words = Unit {0}
IsPlain k faults words = Unit {0}
IsPlain k other words = ⊥

-- the tree of dummies before an Alloc that the quota does not cover
abbrev pub tree_for : ℕ → ℕ → Shape
tree_for k words = shape_of (dummies_of words k)

-- `Runs k label p actions q`: with a quota of k words the thread with this label goes from point p to point q,
-- and these are the actions of it and of the children that it forks, in depth-first order.
pub data Runs (k : ℕ) : List ℕ → Point → List Action → Point → Type 0 where
  -- it does nothing
  rests : (label : List ℕ) (p : Point) → Runs k label p [] p
  -- it does one thing after another
  goes_on : (label : List ℕ) (p q r : Point) (front back : List Action)
      → Runs k label p front q → Runs k label q back r → Runs k label p (front ++ back) r
  -- it does a plain action
  acts : (label : List ℕ) (p : Point) (deed : Deed) (words : ℕ)
      → IsPlain k deed words → Runs k label p (action_at_point label p deed words ∷ []) (after_action p)
  -- it forks a child, whose whole run follows: it begins at the start, leaves no child open, and ends; the Fork takes
  -- the words of its record block, and its End gives them back
  forks_a_child : (label : List ℕ) (p q : Point) (below : List Action)
      → Runs k (fork_of label (next_child p)) start below q → q.open_children ≡ []
      → Runs k label p
      (action_at_point label p (forks (next_child p)) record_words ∷ (below ++ end_at (fork_of label (next_child p)) q record_words ∷ []))
      (after_fork p)
  -- it joins its newest open child
  joins_the_newest : (label : List ℕ) (p : Point) (child : ℕ) (older : List ℕ) (words : ℕ)
      → p.open_children ≡ child ∷ older
      → Runs k label p (action_at_point label p (joins child) words ∷ []) (after_join p older)
  -- it runs a tree of dummies and directly then allocates what the quota does not cover
  allocates_behind_a_tree : (label : List ℕ) (p : Point) (words : ℕ)
      → k < words
      → Runs k label p
      (tree_run label p (tree_for k words) ++ action_at_point label (after_tree p (tree_for k words)) allocates words ∷ [])
      (after_action (after_tree p (tree_for k words)))

-- the whole run of a thread with a record block of so many words: from the start to a point with no open child,
-- and its End
pub record RunsWhole (k : ℕ) (label : List ℕ) (words : ℕ) (actions : List Action) : Type 0 where
  pub last : Point
  pub below : List Action
  pub runs : Runs k label start below last
  pub all_joined : last.open_children ≡ []
  pub is : actions ≡ below ++ end_at label last words ∷ []

-- the depth-first list of a run: the whole run of the root, which has no record block
abbrev pub IsDepthFirst : ℕ → List Action → Type 0
IsDepthFirst k actions = RunsWhole k [] 0 actions
