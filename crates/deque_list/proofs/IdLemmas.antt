-- The id at a rank.
use Rattle.std.proofs.Common.{◌≡◌, ℕ, zero, suc, List, [], ◌∷◌, Some, slice_get, get_or}
use Rattle.deque_list.specs.declared.deque_id.DequeId.{DequeId}
use Rattle.deque_list.specs.declared.place.Place.{Place}
use Rattle.deque_list.specs.Ids.{place_ids}

-- the id at a rank is that of the place at this rank
pub id_at : (places : List Place) (rank : ℕ) (default : Place) (id : DequeId) → slice_get (place_ids places) rank ≡ Some id → (get_or places rank default).id ≡ id
id_at [] rank default id is = cc
id_at (place ∷ places) zero default id is = cc
id_at (place ∷ places) (suc rank) default id is = id_at places rank default id is
