-- A list of deques after a deque came in or left.
use Rattle.std.proofs.Common.{◌≡◌, ◌≢◌, ℕ, ◌+◌, ◌<◌, ◌≤◌, zero, suc, List, [], ◌∷◌, length, map, Option, Some, None, slice_get, sym, ◌∙◌, ap, arith}
use Rattle.std.specs.Prelude.{slice_set, slice_index_or, insert, remove}
use Rattle.std.proofs.lemmas.Option.{slice_get_within}
use Rattle.std.proofs.lemmas.List.{map-set, get_or-set_other}
use Rattle.deque_list.specs.declared.deque_id.DequeId.{DequeId}
use Rattle.deque_list.specs.declared.place.Place.{Place}
use Rattle.deque_list.specs.Lanes.{LaneView}
use Rattle.deque_list.specs.LaneTables.{LaneTable}
use Rattle.deque_list.specs.Ids.{IsLive, IsSmallestFree, StandsAt, place_ids}
use Rattle.deque_list.proofs.PlaceLaws.{id_stands}
use Rattle.deque_list.specs.Orders.{OrderView}
use Rattle.deque_list.specs.Deques.{Deque, DequeAt, deque_ids}
use Rattle.deque_list.specs.DequeLists.{ListView, list_view, lane_room, room_of, deque_at, IsKept, SameElsewhere}
use Rattle.deque_list.proofs.DequeLaws.{deque_inserted, deque_removed, same_id, ids_of_deques}
use Rattle.deque_list.proofs.KeptLemmas.{kept_inserted, kept_removed, still_prepared}
use Rattle.deque_list.proofs.ViewLemmas.{place_of_live, place_shown, ids_shown}

-- the rooms of other lanes stay where one lane is written
rooms_elsewhere : {T : Type 0} (old new : List (Option (LaneView T))) (id other : DequeId) (lane : Option (LaneView T)) → new ≡ slice_set old id.0 lane → other ≢ id
    → slice_index_or (map room_of new) other.0 0 ≡ slice_index_or (map room_of old) other.0 0
rooms_elsewhere old new id other lane is differs =
    ap (λ lanes. slice_index_or (map room_of lanes) other.0 0) is
    ∙ (ap (λ rooms. slice_index_or rooms other.0 0) (map-set room_of old id.0 lane)
    ∙ get_or-set_other (map room_of old) id.0 other.0 (room_of lane) 0 (λ same. differs (same_id other id same)))

-- a list is not longer after a removal
length_removed : {X : Type 0} (xs : List X) (at : ℕ) → length (remove xs at) ≤ length xs
length_removed [] zero = omega arith
length_removed [] (suc at) = omega arith
length_removed (x ∷ xs) zero = omega arith
length_removed (x ∷ xs) (suc at) = let rest = length_removed xs at in omega arith

module _ {T : Type 0} (order : OrderView) (table : LaneTable T) (next : Option (LaneView T)) (list : ListView T) (shown : list_view order table next ≡ list) (kept : IsKept order table next)
    (order' : OrderView) (table' : LaneTable T) (most : order'.most ≡ order.most) where
  module _ (of id : DequeId) (owner : Option ℕ) (lane : LaneView T)
      (places : (rank : ℕ) (place : Place) → StandsAt order.places of rank place → order'.places ≡ insert order.places (rank + 1) (record { id = id; owner = owner }))
      (smallest : IsSmallestFree (place_ids order.places) id) (below : id.0 < order.most) (lanes : table'.lanes ≡ slice_set table.lanes id.0 (Some lane)) where
    -- order and lanes belong together
    pub inserted_kept : IsLive (place_ids order.places) of → IsKept order' table' None
    inserted_kept live =
        let found = place_of_live order.places of live in
        let here : slice_get (place_ids order.places) found.0 ≡ Some of = id_stands order.places of found.0 found.1 found.2 in
        let within : found.0 < length (place_ids order.places) = slice_get_within (place_ids order.places) found.0 of here in
        kept_inserted order order' table table' next (found.0 + 1) (record { id = id; owner = owner }) lane kept (omega arith) smallest.0 below
        (places found.0 found.1 found.2) most lanes

    -- the new deque stands to the right of the other
    pub inserted_shown : (rank : ℕ) (deque : Deque T) → DequeAt list.deques of rank deque
        → map (deque_at table'.lanes) order'.places ≡ insert list.deques (rank + 1) (record { id = id; owner = owner; items = lane.items })
    inserted_shown rank deque at =
        let found = place_shown order table next list shown of rank deque at in
        let place : Place = record { id = id; owner = owner } in
        let in_lanes : id.0 < length table.lanes = let long = kept.long in omega arith in
        ap (λ l. map (deque_at l) order'.places) lanes
        ∙ (ap (λ p. map (deque_at (slice_set table.lanes id.0 (Some lane))) p) (places rank found.0 found.1)
        ∙ (deque_inserted table.lanes order.places (rank + 1) place lane smallest.0 in_lanes
        ∙ ap (λ l. insert l.deques (rank + 1) (record { id = id; owner = owner; items = lane.items })) shown))

    -- its id is the one that came in
    pub inserted_ids : ((rank : ℕ) → slice_get (place_ids order.places) rank ≡ Some of → place_ids order'.places ≡ insert (place_ids order.places) (rank + 1) id)
        → (rank : ℕ) → slice_get (deque_ids list.deques) rank ≡ Some of
        → deque_ids (map (deque_at table'.lanes) order'.places) ≡ insert (deque_ids list.deques) (rank + 1) id
    inserted_ids ids rank here =
        let seen = ids_shown order table next list shown in
        ids_of_deques table'.lanes order'.places
        ∙ (ids rank (ap (λ i. slice_get i rank) (sym seen) ∙ here) ∙ ap (λ i. insert i (rank + 1) id) (sym seen))

    -- the other lanes keep their room
    pub inserted_others : (other : DequeId) → other ≢ id → lane_room (list_view order' table' None) other ≡ lane_room list other
    inserted_others other differs = rooms_elsewhere table.lanes table'.lanes id other (Some lane) lanes differs ∙ ap (λ l. lane_room l other) shown

  module _ (id : DequeId) (places : (rank : ℕ) (place : Place) → StandsAt order.places id rank place → order'.places ≡ remove order.places rank)
      (lanes : table'.lanes ≡ slice_set table.lanes id.0 None) where
    -- there are not more places
    fewer : (rank : ℕ) (place : Place) → StandsAt order.places id rank place → length order'.places ≤ length order.places
    fewer rank place at = let is = ap (λ p. length p) (places rank place at) in let less = length_removed order.places rank in omega (arith, is, less)

    pub removed_kept : IsLive (place_ids order.places) id → table.room ≤ table'.room → IsKept order' table' next
    removed_kept live room =
        let found = place_of_live order.places id live in
        kept_removed order order' table table' next found.0 id kept (id_stands order.places id found.0 found.1 found.2) (places found.0 found.1 found.2) most lanes
        (still_prepared order order' table table' next (fewer found.0 found.1 found.2) most room kept.prepared)

    -- the deque is gone
    pub removed_shown : (rank : ℕ) (deque : Deque T) → DequeAt list.deques id rank deque → map (deque_at table'.lanes) order'.places ≡ remove list.deques rank
    removed_shown rank deque at =
        let found = place_shown order table next list shown id rank deque at in
        ap (λ l. map (deque_at l) order'.places) lanes
        ∙ (ap (λ p. map (deque_at (slice_set table.lanes id.0 None)) p) (places rank found.0 found.1)
        ∙ (deque_removed table.lanes order.places rank id kept.differ (id_stands order.places id rank found.0 found.1) ∙ ap (λ l. remove l.deques rank) shown))

    -- and its id
    pub removed_ids : ((rank : ℕ) → slice_get (place_ids order.places) rank ≡ Some id → place_ids order'.places ≡ remove (place_ids order.places) rank)
        → (rank : ℕ) → slice_get (deque_ids list.deques) rank ≡ Some id → deque_ids (map (deque_at table'.lanes) order'.places) ≡ remove (deque_ids list.deques) rank
    removed_ids ids rank here =
        let seen = ids_shown order table next list shown in
        ids_of_deques table'.lanes order'.places ∙ (ids rank (ap (λ i. slice_get i rank) (sym seen) ∙ here) ∙ ap (λ i. remove i rank) (sym seen))

    pub removed_rest : SameElsewhere list (list_view order' table' next) id
    removed_rest = record {
      most = most ∙ ap (λ l. l.most) shown;
      spare = ap (λ l. l.spare) shown;
      others = λ other differs. rooms_elsewhere table.lanes table'.lanes id other None lanes differs ∙ ap (λ l. lane_room l other) shown;
    }
