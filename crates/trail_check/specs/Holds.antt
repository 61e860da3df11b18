-- A deque in the middle of a list of deques.
use Rattle.std.specs.Prelude.{◌≡◌, ℕ, Option, List, ◌∷◌, ◌++◌}
use Rattle.deque_list.specs.declared.deque_id.DequeId.{DequeId}
use Rattle.deque_list.specs.Deques.{Deque}

-- a deque with its owner, or none, and its items
abbrev pub deque_with : DequeId → Option ℕ → List ℕ → Deque ℕ
deque_with id owner items = record { id = id; owner = owner; items = items }

-- a list has this deque, with others on both sides of it
pub record Holds (deques : List (Deque ℕ)) (id : DequeId) (owner : Option ℕ) (items : List ℕ) : Type 0 where
  pub left : List (Deque ℕ)
  pub right : List (Deque ℕ)
  pub deques_are : deques ≡ left ++ deque_with id owner items ∷ right

-- the list with these in the place of the deque
abbrev pub with_these : {deques : List (Deque ℕ)} {id : DequeId} {owner : Option ℕ} {items : List ℕ} → Holds deques id owner items
    → List (Deque ℕ) → List (Deque ℕ)
with_these h these = h.left ++ (these ++ h.right)
