-- Places and their ids.
use Rattle.std.specs.Prelude.{◌≡◌, ℕ, zero, suc, List, [], ◌∷◌, Some, slice_get, slice_set, insert, remove, slice_index_or, refl}
use Rattle.std.proofs.Common.{sym, ◌∙◌, ap}
use Rattle.std.specs.Option.{option_map}
use Rattle.std.proofs.lemmas.Option.{slice_get-map, get_or_from_slice_get}
use Rattle.deque_list.specs.declared.deque_id.DequeId.{DequeId}
use Rattle.deque_list.specs.declared.place.Place.{Place}
use Rattle.deque_list.specs.Ids.{IdsDiffer, StandsAt, place_ids}

-- the id of what stands at a rank stands there among the ids
pub id_stands : (places : List Place) (id : DequeId) (rank : ℕ) (place : Place) → StandsAt places id rank place → slice_get (place_ids places) rank ≡ Some id
id_stands places id rank place stands =
    slice_get-map (λ p. p.id) places rank ∙ (ap (λ o. option_map (λ p. p.id) o) stands.0 ∙ ap (λ d. Some d) stands.1)

-- where ids differ, a deque stands at one rank with one place
pub one_place : (places : List Place) (id : DequeId) (rank other : ℕ) (place read : Place) → IdsDiffer (place_ids places) → slice_get (place_ids places) rank ≡ Some id
    → read ≡ slice_index_or places rank read → StandsAt places id other place → (other ≡ rank) × (place ≡ read)
one_place places id rank other place read differ here is stands =
    let same : other ≡ rank = differ other rank id (id_stands places id other place stands) here in
    let there : slice_get places rank ≡ Some place = ap (λ r. slice_get places r) (sym same) ∙ stands.0 in
    (same, sym (get_or_from_slice_get places rank place read there) ∙ sym is)

-- a place with the same id leaves the ids as they are
pub ids_unwritten : (places : List Place) (rank : ℕ) (place : Place) → slice_get (place_ids places) rank ≡ Some place.id → place_ids (slice_set places rank place) ≡ place_ids places
ids_unwritten [] rank place here = refl
ids_unwritten (first ∷ places) zero place here = let same : first.id ≡ place.id = cc in ap (λ id. id ∷ place_ids places) (sym same)
ids_unwritten (first ∷ places) (suc rank) place here = ap (λ ids. first.id ∷ ids) (ids_unwritten places rank place here)

-- the ids after an insertion and after a removal
pub ids_inserted : (places : List Place) (at : ℕ) (place : Place) → place_ids (insert places at place) ≡ insert (place_ids places) at place.id
ids_inserted places zero place = refl
ids_inserted [] (suc at) place = refl
ids_inserted (first ∷ places) (suc at) place = ap (λ ids. first.id ∷ ids) (ids_inserted places at place)

pub ids_removed : (places : List Place) (at : ℕ) → place_ids (remove places at) ≡ remove (place_ids places) at
ids_removed [] zero = refl
ids_removed [] (suc at) = refl
ids_removed (first ∷ places) zero = refl
ids_removed (first ∷ places) (suc at) = ap (λ ids. first.id ∷ ids) (ids_removed places at)
