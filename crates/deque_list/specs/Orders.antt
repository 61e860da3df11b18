-- What contracts see of an order.
use Rattle.std.specs.Prelude.{ℕ, ◌≤◌, ◌<◌, List, length, refl, Option}
use Rattle.std.specs.Coded.{Coded, code_by, coded×, coded_ℕ, coded_list, coded_option}
use Rattle.language_limits.specs.declared.TheConstants.{MOST_ENTRIES}
use Rattle.deque_list.specs.declared.deque_id.DequeId.{DequeId}
use Rattle.deque_list.specs.declared.place.Place.{Place}
use Rattle.deque_list.specs.Ids.{IsLive, IdsDiffer, place_ids}

-- the places from left to right, and how many are allowed
pub record OrderView : Type 0 where
  pub places : List Place
  pub most : ℕ

abbrev pub place_code : Coded Place
place_code =
    code_by (ℕ × Option ℕ) (coded× coded_ℕ (coded_option coded_ℕ)) (λ place. (place.id.0, place.owner))
    (λ p. record { id = record { 0 = p.0 }; owner = p.1 }) (λ _. refl)

-- an order is stored as the pair of its parts
abbrev pub order_code : Coded OrderView
order_code =
    code_by (List Place × ℕ) (coded× (coded_list place_code) coded_ℕ) (λ order. (order.places, order.most))
    (λ p. record { places = p.0; most = p.1 }) (λ _. refl)

-- the ids differ, each is below the number that is allowed, and so are not more than that
pub record IsLawful (order : OrderView) : Type 0 where
  pub differ : IdsDiffer (place_ids order.places)
  pub below : (id : DequeId) → IsLive (place_ids order.places) id → id.0 < order.most
  pub within : length order.places ≤ order.most
  pub few : order.most ≤ MOST_ENTRIES
