-- What holds of each depth-first list.
use Rattle.std.specs.Prelude.{◌≡◌, ◌↔◌, ℕ, zero, suc, ◌+◌, ◌-◌, ◌*◌, ◌≤◌, ◌<◌, List, [], ◌∷◌, ◌++◌, ◌⊎◌, length, map, cond, take, pos, neg_ℤ, ◌≤ℤ◌}
use Rattle.dag_order.specs.LabelOrder.{fork_of, Before}
use Rattle.depth_first_list.specs.Quotas.{dummies_of}
use Rattle.depth_first_list.specs.Shapes.{Shape, actions, is_dummy}
use Rattle.depth_first_list.specs.Actions.{Deed, forks, joins, allocates, releases, dummy, faults, ends, Action, record_words, kind_of, action_kind, live_words, peak}
use Rattle.depth_first_list.specs.Runs.{Point, tree_run, IsDepthFirst}
use Rattle.depth_first_list.specs.Facts.{label_at, index_at, deed_at, words_at, weight_at, StemsFrom, IsDone, IsLive, IsNext, HasDone}

-- the last action is the End of the root
abbrev pub RootEnds : List Action → Type 0
RootEnds l = (last : ℕ) × (length l ≡ suc last) × (label_at l last ≡ []) × (deed_at l last ≡ ends)

-- no two places have the same thread and index
abbrev pub NamesDiffer : List Action → Type 0
NamesDiffer l = (i j : ℕ) → i < length l → j < length l → label_at l i ≡ label_at l j → index_at l i ≡ index_at l j → i ≡ j

-- of two actions of one thread the later one has the greater index
abbrev pub IndexRises : List Action → Type 0
IndexRises l = (i j : ℕ) → j < length l → i < j → label_at l i ≡ label_at l j → index_at l i < index_at l j

-- before an action stand those of its thread with each smaller index
abbrev pub NoIndexIsSkipped : List Action → Type 0
NoIndexIsSkipped l = (j n : ℕ) → j < length l → n < index_at l j → (i : ℕ) × (i < j) × (label_at l i ≡ label_at l j) × (index_at l i ≡ n)

-- so an action has at least as many before it as its index says
abbrev pub IndexIsWithin : List Action → Type 0
IndexIsWithin l = (i : ℕ) → i < length l → index_at l i ≤ i

-- before an action of a forked thread, or of one that stems from it, stands the Fork
abbrev pub ForkStandsBefore : List Action → Type 0
ForkStandsBefore l = (i child : ℕ) (parent below : List ℕ) → i < length l → label_at l i ≡ parent ++ child ∷ below
    → (f : ℕ) × (f < i) × (label_at l f ≡ parent) × (deed_at l f ≡ forks child)

-- directly behind a Fork stands the first action of the child
abbrev pub ChildBeginsBehindFork : List Action → Type 0
ChildBeginsBehindFork l = (f child : ℕ) → f < length l → deed_at l f ≡ forks child
    → (suc f < length l) × (label_at l (suc f) ≡ fork_of (label_at l f) child) × (index_at l (suc f) ≡ 0)

-- all but a Fork, behind which its child acts, and an End, behind which its thread does nothing
abbrev pub IsAlone : Deed → Type 0
IsAlone (forks child) = ⊥
IsAlone (joins child) = Unit {0}
IsAlone allocates = Unit {0}
IsAlone releases = Unit {0}
IsAlone dummy = Unit {0}
IsAlone faults = Unit {0}
IsAlone ends = ⊥

-- a place has the action of this thread with this index
abbrev pub HasAction : List Action → ℕ → List ℕ → ℕ → Type 0
HasAction l i label index = (i < length l) × (label_at l i ≡ label) × (index_at l i ≡ index)

-- What stands at each next place, but for the first action of a child, directly behind its Fork: the root begins; behind an action that
-- is neither a Fork nor an End its thread goes on; and behind the End of a child the thread that forked it goes on from the Fork.
pub record NextPlaces (l : List Action) : Type 0 where
  pub begins : HasAction l 0 [] 0
  pub goes_on : (i : ℕ) → i < length l → IsAlone (deed_at l i) → HasAction l (suc i) (label_at l i) (suc (index_at l i))
  pub returns : (f child e : ℕ) → f < length l → deed_at l f ≡ forks child → e < length l → label_at l e ≡ fork_of (label_at l f) child
      → deed_at l e ≡ ends → HasAction l (suc e) (label_at l f) (suc (index_at l f))

-- Directly behind a Fork stand all actions of the child and of those that stem from it, and no others, up to
-- the End of the child.
abbrev pub ChildStandsTogether : List Action → Type 0
ChildStandsTogether l = (f child : ℕ) → f < length l → deed_at l f ≡ forks child
    → (e : ℕ) × (f < e) × (e < length l) × (label_at l e ≡ fork_of (label_at l f) child) × (deed_at l e ≡ ends)
    × ((i : ℕ) → i < length l → StemsFrom (fork_of (label_at l f) child) (label_at l i) ↔ ((f < i) × (i ≤ e)))

-- behind a Fork all of the child, with those that stem from it, stands before what the parent does next
abbrev pub ChildStandsBeforeParent : List Action → Type 0
ChildStandsBeforeParent l = (f i j child : ℕ) → i < length l → j < length l → f < j
    → deed_at l f ≡ forks child → label_at l j ≡ label_at l f → StemsFrom (fork_of (label_at l f) child) (label_at l i) → i < j

-- the forks of a thread have the ordinals 1, 2, and so on, in order and each once
pub record ForksAreInOrder (l : List Action) : Type 0 where
  pub from_one : (f child : ℕ) → f < length l → deed_at l f ≡ forks child → 0 < child
  pub rising : (f g child later : ℕ) → g < length l → f < g → label_at l f ≡ label_at l g
      → deed_at l f ≡ forks child → deed_at l g ≡ forks later → child < later
  pub none_skipped : (g child later : ℕ) → g < length l → deed_at l g ≡ forks later → 0 < child → child < later
      → (f : ℕ) × (f < g) × (label_at l f ≡ label_at l g) × (deed_at l f ≡ forks child)

-- so a Fork is at least as many actions from the beginning as its ordinal says
abbrev pub OrdinalIsWithin : List Action → Type 0
OrdinalIsWithin l = (f child : ℕ) → f < length l → deed_at l f ≡ forks child → child ≤ suc f

-- one Fork for each child
abbrev pub ForkedOnce : List Action → Type 0
ForkedOnce l = (f g child : ℕ) → f < length l → g < length l → label_at l f ≡ label_at l g
    → deed_at l f ≡ forks child → deed_at l g ≡ forks child → f ≡ g

-- each thread that acts has an End, not before the action
abbrev pub EachThreadEnds : List Action → Type 0
EachThreadEnds l = (i : ℕ) → i < length l → (e : ℕ) × (i ≤ e) × (e < length l) × (label_at l e ≡ label_at l i) × (deed_at l e ≡ ends)

-- behind its End a thread does nothing
abbrev pub EndIsLast : List Action → Type 0
EndIsLast l = (i e : ℕ) → i < length l → e < length l → label_at l i ≡ label_at l e → deed_at l e ≡ ends → i ≤ e

-- before a Join stand the Fork of the child, by the same thread, and then the End of the child
abbrev pub JoinStandsBehindChild : List Action → Type 0
JoinStandsBehindChild l = (j child : ℕ) → j < length l → deed_at l j ≡ joins child
    → (f e : ℕ) × (f < e) × (e < j) × (label_at l f ≡ label_at l j) × (deed_at l f ≡ forks child)
    × (label_at l e ≡ fork_of (label_at l j) child) × (deed_at l e ≡ ends)

-- a child that was forked later is joined earlier
abbrev pub JoinsTheNewest : List Action → Type 0
JoinsTheNewest l = (f g j child later : ℕ) → j < length l → f < g → g < j → deed_at l j ≡ joins child
    → label_at l f ≡ label_at l j → deed_at l f ≡ forks child → label_at l g ≡ label_at l j → deed_at l g ≡ forks later
    → (h : ℕ) × (g < h) × (h < j) × (label_at l h ≡ label_at l j) × (deed_at l h ≡ joins later)

-- each child is joined by the thread that forked it
abbrev pub EachChildIsJoined : List Action → Type 0
EachChildIsJoined l = (f child : ℕ) → f < length l → deed_at l f ≡ forks child
    → (j : ℕ) × (f < j) × (j < length l) × (label_at l j ≡ label_at l f) × (deed_at l j ≡ joins child)

-- and only once
abbrev pub JoinedOnce : List Action → Type 0
JoinedOnce l = (i j child : ℕ) → i < length l → j < length l → label_at l i ≡ label_at l j
    → deed_at l i ≡ joins child → deed_at l j ≡ joins child → i ≡ j

-- a Fork takes the words of a record block
abbrev pub ForksTakeRecords : List Action → Type 0
ForksTakeRecords l = (f child : ℕ) → f < length l → deed_at l f ≡ forks child
    → (words_at l f ≡ record_words) × (weight_at l f ≡ pos record_words)

-- the End of a forked thread gives them back
abbrev pub ChildEndsGiveBack : List Action → Type 0
ChildEndsGiveBack l = (e child : ℕ) (parent : List ℕ) → e < length l → deed_at l e ≡ ends → label_at l e ≡ fork_of parent child
    → (words_at l e ≡ record_words) × (weight_at l e ≡ neg_ℤ (pos record_words))

-- the root has no record block
abbrev pub RootEndIsWeightless : List Action → Type 0
RootEndIsWeightless l = (e : ℕ) → e < length l → deed_at l e ≡ ends → label_at l e ≡ [] → (words_at l e ≡ 0) × (weight_at l e ≡ pos 0)

-- a Dummy takes nothing
abbrev pub DummiesAreWeightless : List Action → Type 0
DummiesAreWeightless l = (i : ℕ) → i < length l → deed_at l i ≡ dummy → (words_at l i ≡ 0) × (weight_at l i ≡ pos 0)

-- an Alloc that a quota of k words does not cover
abbrev pub IsLarge : ℕ → List Action → ℕ → Type 0
IsLarge k l a = (a < length l) × (deed_at l a ≡ allocates) × (k < words_at l a)

-- how many dummies an Alloc wants
abbrev pub leaves_at : ℕ → List Action → ℕ → ℕ
leaves_at k l a = dummies_of (words_at l a) k

-- i is one of the 4n - 3 places directly before a, where the Alloc at a wants n dummies
abbrev pub IsInTreeOf : ℕ → List Action → ℕ → ℕ → Type 0
IsInTreeOf k l a i = (i < a) × (a + 3 ≤ i + 4 * leaves_at k l a)

-- how many of the n places from i on have a Dummy
abbrev pub dummies_from : List Action → ℕ → ℕ → ℕ
dummies_from l i zero = 0
dummies_from l i (suc n) = cond (is_dummy (kind_of (deed_at l i))) 1 0 + dummies_from l (suc i) n

-- what a tree of dummies is made of
abbrev pub IsOfTree : Deed → Type 0
IsOfTree (forks child) = Unit {0}
IsOfTree (joins child) = Unit {0}
IsOfTree allocates = ⊥
IsOfTree releases = ⊥
IsOfTree dummy = Unit {0}
IsOfTree faults = ⊥
IsOfTree ends = Unit {0}

-- The tree of a large Alloc stands directly before it: 4n - 3 actions of its thread and of those that stem from it,
-- n of them dummies, and no allocation among them.
pub record TreeStandsBefore (k : ℕ) (l : List Action) (a : ℕ) : Type 0 where
  pub first : ℕ
  pub size : first + 4 * leaves_at k l a ≡ a + 3
  pub begins_before : first < a
  pub dummies : dummies_from l first (a - first) ≡ leaves_at k l a
  pub of_tree : (i : ℕ) → first ≤ i → i < a → IsOfTree (deed_at l i)
  pub below : (i : ℕ) → first ≤ i → i < a → StemsFrom (label_at l a) (label_at l i)

abbrev pub TreesStandBefore : ℕ → List Action → Type 0
TreesStandBefore k l = (a : ℕ) → IsLarge k l a → TreeStandsBefore k l a

-- each Dummy is of the tree of a large Alloc
abbrev pub DummiesAreOfTrees : ℕ → List Action → Type 0
DummiesAreOfTrees k l = (i : ℕ) → i < length l → deed_at l i ≡ dummy → (a : ℕ) × IsLarge k l a × IsInTreeOf k l a i

-- and of one alone
abbrev pub TreesAreApart : ℕ → List Action → Type 0
TreesAreApart k l = (a b i : ℕ) → IsLarge k l a → IsLarge k l b → IsInTreeOf k l a i → IsInTreeOf k l b i → a ≡ b

-- where a large Alloc is done, its whole tree is
abbrev pub TreesAreDoneFirst : ℕ → List Action → Type 0
TreesAreDoneFirst k l = (done : ℕ → ℕ) → IsDone l done → (a i : ℕ) → IsLarge k l a → IsInTreeOf k l a i → 0 < done a → 0 < done i

-- a live thread has a first place that is not done
abbrev pub LiveHasNext : List Action → Type 0
LiveHasNext l = (done : ℕ → ℕ) (label : List ℕ) → IsLive l done label → (n : ℕ) × IsNext l done label n

-- where the End of a thread is done, all of it is, and all of the threads that stem from it
abbrev pub EndMeansAll : List Action → Type 0
EndMeansAll l = (done : ℕ → ℕ) → IsDone l done → (e i : ℕ) → e < length l → i < length l → deed_at l e ≡ ends → 0 < done e
    → StemsFrom (label_at l e) (label_at l i) → 0 < done i

-- where the root's End is done, everything is
abbrev pub RootEndMeansAll : List Action → Type 0
RootEndMeansAll l = (done : ℕ → ℕ) → IsDone l done → (e i : ℕ) → e < length l → i < length l → label_at l e ≡ [] → deed_at l e ≡ ends
    → 0 < done e → 0 < done i

-- the parent of a live thread is live, and so are those above
abbrev pub ParentsAreLive : List Action → Type 0
ParentsAreLive l = (done : ℕ → ℕ) → IsDone l done → (parent below : List ℕ) → IsLive l done (parent ++ below) → IsLive l done parent

-- where a thread's next action is the Join of a child, nothing that stems from a later fork of the thread is live
abbrev pub JoinsTheLastLive : List Action → Type 0
JoinsTheLastLive l = (done : ℕ → ℕ) → IsDone l done → (thread : List ℕ) (n child later : ℕ) (below : List ℕ)
    → IsNext l done thread n → deed_at l n ≡ joins child → child < later → IsLive l done (thread ++ later ∷ below) → ⊥

-- the next place of a thread is that whose index is the number of its actions that are done
abbrev pub NextIsOfItsIndex : List Action → Type 0
NextIsOfItsIndex l = (done : ℕ → ℕ) → IsDone l done → (label : List ℕ) (n : ℕ) → n < length l → label_at l n ≡ label
    → IsNext l done label n ↔ HasDone l done label (index_at l n)

-- of two live threads the one whose label is before the other's acts next earlier in the list
abbrev pub LabelsFollowTheList : List Action → Type 0
LabelsFollowTheList l = (done : ℕ → ℕ) → IsDone l done → (a b : List ℕ) (m n : ℕ) → IsLive l done a → IsLive l done b
    → IsNext l done a m → IsNext l done b n → Before a b → m < n

-- the first place that is not done is the next one of its thread, which is live
abbrev pub FirstMissingIsNext : List Action → Type 0
FirstMissingIsNext l = (done : ℕ → ℕ) → IsDone l done → (i : ℕ) → i < length l → done i ≡ 0 → ((j : ℕ) → j < i → 0 < done j)
    → IsLive l done (label_at l i) × IsNext l done (label_at l i) i

-- its thread stands before all other live threads
abbrev pub FirstMissingGoesFirst : List Action → Type 0
FirstMissingGoesFirst l = (done : ℕ → ℕ) → IsDone l done → (i : ℕ) → i < length l → done i ≡ 0 → ((j : ℕ) → j < i → 0 < done j)
    → (other : List ℕ) → IsLive l done other → (other ≡ label_at l i) ⊎ Before (label_at l i) other

-- and does not wait for a child: a child that it joins has ended
abbrev pub FirstMissingNeverWaits : List Action → Type 0
FirstMissingNeverWaits l = (done : ℕ → ℕ) → IsDone l done → (i child : ℕ) → i < length l → done i ≡ 0 → ((j : ℕ) → j < i → 0 < done j)
    → deed_at l i ≡ joins child → IsLive l done (fork_of (label_at l i) child) → ⊥

-- the kinds of a thread's actions in a tree of dummies are those of the tree
abbrev pub TreeRunsAsShaped : Type 0
TreeRunsAsShaped = (shape : Shape) (label : List ℕ) (p : Point) → map action_kind (tree_run label p shape) ≡ actions shape

-- the peak is the greatest sum of a prefix
pub record PeakIsHighest (l : List Action) : Type 0 where
  pub reached : (n : ℕ) × (peak l ≡ live_words (take n l))
  pub never_above : (n : ℕ) → live_words (take n l) ≤ℤ peak l

-- a fact holds of each depth-first list, whatever the quota
abbrev pub Always : (List Action → Type 0) → Type 0
Always Fact = (k : ℕ) (l : List Action) → IsDepthFirst k l → Fact l

-- a fact that speaks of a quota, which is not 0
abbrev pub AlwaysWithin : (ℕ → List Action → Type 0) → Type 0
AlwaysWithin Fact = (k : ℕ) (l : List Action) → 0 < k → IsDepthFirst k l → Fact k l
