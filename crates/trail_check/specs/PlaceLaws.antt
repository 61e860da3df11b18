-- Where each thread goes on in a depth-first list.
use Rattle.std.specs.Prelude.{◌≡◌, ◌↔◌, ℕ, suc, ◌≤◌, ◌<◌, List, length}
use Rattle.dag_order.specs.LabelOrder.{fork_of}
use Rattle.depth_first_list.specs.Actions.{forks, ends, Action}
use Rattle.depth_first_list.specs.Facts.{label_at, index_at, deed_at, StemsFrom}

-- the action at the place n is the next one of the thread that acts at the place i
pub record GoesOnAt (l : List Action) (i n : ℕ) : Type 0 where
  pub inside : n < length l
  pub same_thread : label_at l n ≡ label_at l i
  pub next_index : index_at l n ≡ suc (index_at l i)

-- directly after an action, unless it is a Fork or an End, is the next one of the same thread
abbrev pub NextFollows : List Action → Type 0
NextFollows l = (i : ℕ) → i < length l → ((child : ℕ) → ¬ (deed_at l i ≡ forks child)) → ¬ (deed_at l i ≡ ends)
    → GoesOnAt l i (suc i)

-- The actions after a Fork at the place f: up to the place `last` all actions of the child and of those that stem from it, and no others,
-- with the End of the child there; and then the next action of the parent.
pub record ChildThenParent (l : List Action) (f child : ℕ) : Type 0 where
  pub last : ℕ
  pub after : f < last
  pub of_child : label_at l last ≡ fork_of (label_at l f) child
  pub its_end : deed_at l last ≡ ends
  pub together : (i : ℕ) → i < length l → StemsFrom (fork_of (label_at l f) child) (label_at l i) ↔ ((f < i) × (i ≤ last))
  pub parent : GoesOnAt l f (suc last)

-- so it is after each Fork
abbrev pub ParentFollows : List Action → Type 0
ParentFollows l = (f child : ℕ) → f < length l → deed_at l f ≡ forks child → ChildThenParent l f child
