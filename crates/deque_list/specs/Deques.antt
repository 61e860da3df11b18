-- Deques as contracts see them.
use Rattle.std.specs.Prelude.{◌≡◌, ℕ, ◌≤◌, ◌⊎◌, List, length, map, Option, None, Some, slice_get, refl}
use Rattle.std.specs.Coded.{Coded, code_by, coded×, coded_ℕ, coded_list, coded_option}
use Rattle.deque_list.specs.declared.deque_id.DequeId.{DequeId}
use Rattle.deque_list.specs.declared.place.Place.{Place}

-- a deque's id, the worker that owns it, if any, and its items from top to bottom
pub record Deque (T : Type 0) : Type 0 where
  pub id : DequeId
  pub owner : Option ℕ
  pub items : List T

abbrev pub deque_code : {T : Type 0} → Coded T → Coded (Deque T)
deque_code {T} code =
    code_by (ℕ × (Option ℕ
    × List T)) (coded× coded_ℕ (coded× (coded_option coded_ℕ) (coded_list code))) (λ deque. (deque.id.0, (deque.owner, deque.items)))
    (λ p. record { id = record { 0 = p.0 }; owner = p.1.0; items = p.1.1 }) (λ _. refl)

-- the ids of the deques, from left to right
abbrev pub deque_ids : {T : Type 0} → List (Deque T) → List DequeId
deque_ids deques = map (λ deque. deque.id) deques

-- the place of a deque: its id and its owner
abbrev pub place_of : {T : Type 0} → Deque T → Place
place_of deque = record { id = deque.id; owner = deque.owner }

-- at this rank, from 0 at the left, stands this deque, which has this id
abbrev pub DequeAt : {T : Type 0} → List (Deque T) → DequeId → ℕ → Deque T → Type 0
DequeAt deques id rank deque = (slice_get deques rank ≡ Some deque) × (deque.id ≡ id)

-- the bottom item of the deque is ready to be taken: nobody owns it, or its owner has another item
abbrev pub IsReady : {T : Type 0} → Deque T → Type 0
IsReady deque = (deque.owner ≡ None) ⊎ (2 ≤ length deque.items)
