-- A place in the middle of a list of places.
use Rattle.std.proofs.Common.{◌≡◌, ℕ, List, ◌∷◌, ◌++◌, length, ap, ◌∙◌}
use Rattle.std.specs.Prelude.{Option, None, slice_get, slice_set, remove}
use Rattle.std.specs.Option.{option_map}
use Rattle.std.proofs.Common.{refl}
use Rattle.std.proofs.lemmas.Option.{slice_get-map}
use Rattle.deque_list.specs.declared.deque_id.DequeId.{DequeId}
use Rattle.deque_list.specs.declared.place.Place.{Place}
use Rattle.deque_list.specs.Ids.{IsLive, StandsAt, place_ids}
use Rattle.open_periods.proofs.Sorting.{get_middle}
use Rattle.list_changes.proofs.Putting.{set_middle}
use Rattle.list_changes.proofs.Leaving.{remove_middle}
use Rattle.list_changes.specs.Parts.{Has, place_with}

module _ {places : List Place} {id : DequeId} {owner : Option ℕ} (has : Has places id owner) where
  pub at_rank : StandsAt places id (length has.left) (place_with id owner)
  at_rank = (ap (λ ps. slice_get ps (length has.left)) has.places_are ∙ get_middle has.left (place_with id owner) has.right, refl)

  pub live : IsLive (place_ids places) id
  live = (length has.left, slice_get-map (λ p. Place.id p) places (length has.left) ∙ ap (option_map (λ p. Place.id p)) at_rank.0)

  -- without its owner
  pub unowned : (next : List Place) → ((rank : ℕ) (place : Place) → StandsAt places id rank place
      → next ≡ slice_set places rank (record place { owner = None })) → next ≡ has.left ++ place_with id None ∷ has.right
  unowned next clause = clause (length has.left) (place_with id owner) at_rank
      ∙ ap (λ ps. slice_set ps (length has.left) (place_with id None)) has.places_are
      ∙ set_middle has.left (place_with id owner) (place_with id None) has.right

  -- and gone
  pub gone : (next : List Place) → ((rank : ℕ) (place : Place) → StandsAt places id rank place → next ≡ remove places rank)
      → next ≡ has.left ++ has.right
  gone next clause = clause (length has.left) (place_with id owner) at_rank
      ∙ ap (λ ps. remove ps (length has.left)) has.places_are ∙ remove_middle has.left (place_with id owner) has.right
