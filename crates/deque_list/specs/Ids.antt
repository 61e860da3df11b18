-- Which deques stand in the list.
use Rattle.std.specs.Prelude.{◌≡◌, ℕ, ◌<◌, List, map, Some, None, slice_get}
use Rattle.deque_list.specs.declared.deque_id.DequeId.{DequeId}
use Rattle.deque_list.specs.declared.place.Place.{Place}

-- the ids of the deques, from left to right
abbrev pub place_ids : List Place → List DequeId
place_ids places = map (λ place. place.id) places

-- the deque stands in the list
abbrev pub IsLive : List DequeId → DequeId → Type 0
IsLive ids id = (rank : ℕ) × (slice_get ids rank ≡ Some id)

-- no id stands at two ranks
abbrev pub IdsDiffer : List DequeId → Type 0
IdsDiffer ids = (r s : ℕ) (id : DequeId) → slice_get ids r ≡ Some id → slice_get ids s ≡ Some id → r ≡ s

-- the id that is written as this number
abbrev pub deque_id : ℕ → DequeId
deque_id n = record { 0 = n }

-- no deque has this id, and each smaller one has a deque
abbrev pub IsSmallestFree : List DequeId → DequeId → Type 0
IsSmallestFree ids id = (¬ IsLive ids id) × ((n : ℕ) → n < id.0 → IsLive ids (deque_id n))

-- the deque stands at this rank, from 0 at the left, and this is its place
abbrev pub StandsAt : List Place → DequeId → ℕ → Place → Type 0
StandsAt places id rank place = (slice_get places rank ≡ Some place) × (place.id ≡ id)

-- the place of the first deque of a list: it has the id 0 and no owner
abbrev pub first_place : Place
first_place = record { id = deque_id 0; owner = None }
