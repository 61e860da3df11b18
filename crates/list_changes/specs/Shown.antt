-- The parts that a list of deques and a table of periods are, beside those that wait and the results that are kept.
use Rattle.std.specs.Prelude.{◌≡◌, ℕ, Option, Some, List, ◌∷◌, ◌++◌, map}
use Rattle.deque_list.specs.declared.deque_id.DequeId.{DequeId}
use Rattle.deque_list.specs.Deques.{Deque}
use Rattle.deque_list.specs.DequeLists.{ListView}
use Rattle.open_periods.specs.declared.table.PeriodTable.{PeriodTable}
use Rattle.open_periods.specs.Tables.{periods_of}
use Rattle.moment_shown.specs.Parts as parts

-- a deque, by what its items show
abbrev pub deque_shown : {T : Type 0} → (T → parts.Thread) → Deque T → parts.Deque
deque_shown shown deque = record { id = deque.id.0; owner = deque.owner; threads = map shown deque.items }

-- the parts
abbrev pub parts_of : {T : Type 0} → (T → parts.Thread) → List parts.Thread → List parts.Result → ListView T → PeriodTable → parts.Parts
parts_of shown waiting results list table = record {
  deques = map (deque_shown shown) list.deques;
  waiting = waiting;
  results = results;
  periods = periods_of table;
}

-- a deque with its owner, or none, and its items
abbrev pub deque_with : {T : Type 0} → DequeId → Option ℕ → List T → Deque T
deque_with id owner items = record { id = id; owner = owner; items = items }

-- a deque with an owner, or none, and the items that it has, in the middle of a list
pub record Holds {T : Type 0} (list : ListView T) (id : DequeId) (owner : Option ℕ) (items : List T) : Type 0 where
  pub left : List (Deque T)
  pub right : List (Deque T)
  pub deques_are : list.deques ≡ left ++ deque_with id owner items ∷ right

-- the deque of a worker, with the items that it has, in the middle of a list
abbrev pub Stands : {T : Type 0} → ListView T → (worker : ℕ) → DequeId → List T → Type 0
Stands list worker id items = Holds list id (Some worker) items

-- the deque in the middle has become these, and the rest is unchanged: the other deques, how many are allowed, and whether the list takes one
-- more deque without memory
pub record Becomes {T : Type 0} {before : ListView T} {id : DequeId} {owner : Option ℕ} {items : List T}
    (holds : Holds before id owner items) (after : ListView T) (middle : List (Deque T)) : Type 0 where
  pub deques : after.deques ≡ holds.left ++ (middle ++ holds.right)
  pub most : after.most ≡ before.most
  pub spare : after.spare ≡ before.spare

-- the deque in the middle was cut in two, which used the room for one more deque, and the other deques are unchanged
pub record IsCut {T : Type 0} {before : ListView T} {id : DequeId} {owner : Option ℕ} {items : List T}
    (holds : Holds before id owner items) (after : ListView T) (left right : Deque T) : Type 0 where
  pub deques : after.deques ≡ holds.left ++ left ∷ right ∷ holds.right
  pub most : after.most ≡ before.most

-- the parts in which the worker's deque has another thread on top of its items
abbrev pub parts_under : {T : Type 0} → (T → parts.Thread) → List parts.Thread → List parts.Result
    → {list : ListView T} {worker : ℕ} {id : DequeId} {items : List T} → Stands list worker id items → PeriodTable → parts.Thread → parts.Parts
parts_under shown waiting results {list} {worker} {id} {items} stands table top = record {
  deques = map (deque_shown shown) stands.left ++ record { id = id.0; owner = Some worker; threads = top ∷ map shown items }
      ∷ map (deque_shown shown) stands.right;
  waiting = waiting;
  results = results;
  periods = periods_of table;
}
