-- The place of a deque in a list.
use Rattle.std.proofs.Common.{◌≡◌, ◌≢◌, ◌⊎◌, List, [], ◌∷◌, ◌++◌, inl, inr, refl, ap}
use Rattle.std.proofs.lemmas.Bool.{cases_eq}
use Rattle.hall_parts.specs.HallNames.{DequeId, Each}
use Rattle.deque_list.specs.declared.place.Place.{Place}

-- a place with this id, and what is left and right of it
pub record IsAmong (places : List Place) (id : DequeId) : Type 0 where
  pub left : List Place
  pub place : Place
  pub right : List Place
  pub are : places ≡ left ++ place ∷ right
  pub same : place.id.0 ≡ id.0

pub find : (id : DequeId) (places : List Place) → IsAmong places id ⊎ Each (λ place. place.id ≢ id) places
find id [] = inr tt
find id (place ∷ places) = elim (cases_eq place.id.0 id.0) [
  | inl same ↦ inl (record { left = []; place = place; right = places; are = refl; same = same })
  | inr other ↦ elim (find id places) [
    | inl there ↦ inl (record { left = place ∷ there.left; place = there.place; right = there.right; are = ap (λ ps. place ∷ ps) there.are; same = there.same })
    | inr none ↦ inr ((λ same. other (ap (λ (i : DequeId). i.0) same)), none)
  ]
]
