-- Actions by their places in a list, from 0, and which of them are done.
use Rattle.std.specs.Prelude.{◌≡◌, ℕ, ◌+◌, ◌≤◌, ◌<◌, List, [], ◌++◌, length, get_or, ℤ}
use Rattle.dag_order.specs.LabelOrder.{fork_of}
use Rattle.depth_first_list.specs.Actions.{Deed, forks, joins, ends, Action, weight}

-- the action at a place; what it says where the list has no such place is never used
abbrev pub action_at : List Action → ℕ → Action
action_at l i = get_or l i (record { label = []; index = 0; deed = ends; words = 0 })

abbrev pub label_at : List Action → ℕ → List ℕ
label_at l i = (action_at l i).label

abbrev pub index_at : List Action → ℕ → ℕ
index_at l i = (action_at l i).index

abbrev pub deed_at : List Action → ℕ → Deed
deed_at l i = (action_at l i).deed

abbrev pub words_at : List Action → ℕ → ℕ
words_at l i = (action_at l i).words

-- by how much the words in use rise there
abbrev pub weight_at : List Action → ℕ → ℤ
weight_at l i = weight (action_at l i)

-- a label is that of a thread, or of one that stems from it
abbrev pub StemsFrom : List ℕ → List ℕ → Type 0
StemsFrom thread label = (below : List ℕ) × (label ≡ thread ++ below)

-- `done i` is how often the place i stands in the books of what was done by some moment. With an action those of its
-- thread before it are done, and the Forks of its thread and of those that this stems from, and with a Join the
-- End of the child.
pub record IsDone (l : List Action) (done : ℕ → ℕ) : Type 0 where
  pub earlier : (i j : ℕ) → i < j → j < length l → label_at l i ≡ label_at l j → 0 < done j → 0 < done i
  pub forked : (f i child : ℕ) → f < i → i < length l → deed_at l f ≡ forks child → StemsFrom (fork_of (label_at l f) child) (label_at l i)
      → 0 < done i → 0 < done f
  pub child_ended : (e j child : ℕ) → e < length l → j < length l → deed_at l j ≡ joins child
      → label_at l e ≡ fork_of (label_at l j) child → deed_at l e ≡ ends → 0 < done j → 0 < done e

-- a thread is live where it has a place in the list, the Forks above it are done, and its End is not
pub record IsLive (l : List Action) (done : ℕ → ℕ) (label : List ℕ) : Type 0 where
  pub acts : (i : ℕ) × (i < length l) × (label_at l i ≡ label)
  pub forked : (f child : ℕ) → f < length l → deed_at l f ≡ forks child → StemsFrom (fork_of (label_at l f) child) label → 0 < done f
  pub goes_on : (e : ℕ) → e < length l → label_at l e ≡ label → deed_at l e ≡ ends → done e ≡ 0

-- n is the first place of the thread that is not done
pub record IsNext (l : List Action) (done : ℕ → ℕ) (label : List ℕ) (n : ℕ) : Type 0 where
  pub inside : n < length l
  pub by : label_at l n ≡ label
  pub missing : done n ≡ 0
  pub earlier : (i : ℕ) → i < n → label_at l i ≡ label → 0 < done i

-- of a thread's actions the first `count` are done, and no others
pub record HasDone (l : List Action) (done : ℕ → ℕ) (label : List ℕ) (count : ℕ) : Type 0 where
  pub those : (i : ℕ) → i < length l → label_at l i ≡ label → index_at l i < count → 0 < done i
  pub no_more : (i : ℕ) → i < length l → label_at l i ≡ label → count ≤ index_at l i → done i ≡ 0
