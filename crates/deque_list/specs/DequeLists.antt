-- What contracts see of a list of deques.
use Rattle.std.specs.Prelude.{◌≡◌, ◌≢◌, ℕ, ◌<◌, ◌≤◌, List, [], length, map, Option, None, Some, is_some, slice_get, slice_index_or, if◌then◌else◌, refl}
use Rattle.std.specs.Coded.{Coded, code_by, coded×, coded_ℕ, coded_list}
use Rattle.language_limits.specs.declared.TheConstants.{MOST_ENTRIES}
use Rattle.deque_list.specs.declared.deque_id.DequeId.{DequeId}
use Rattle.deque_list.specs.declared.place.Place.{Place}
use Rattle.deque_list.specs.Lanes.{LaneView}
use Rattle.deque_list.specs.LaneTables.{LaneTable, HasLane}
use Rattle.deque_list.specs.Ids.{IsLive, IdsDiffer, deque_id, place_ids}
use Rattle.deque_list.specs.Orders.{OrderView}
use Rattle.deque_list.specs.Deques.{Deque, deque_code, deque_ids}

-- the deques from left to right, how many are allowed, whether the list takes one more deque without memory
-- (1, else 0), and for each id how many more items its lane takes without memory
pub record ListView (T : Type 0) : Type 0 where
  pub deques : List (Deque T)
  pub most : ℕ
  pub spare : ℕ
  pub rooms : List ℕ

-- a list is stored as the tuple of its parts
abbrev pub list_code : {T : Type 0} → Coded T → Coded (ListView T)
list_code {T} code =
    code_by (List (Deque T)
    × (ℕ × (ℕ × List ℕ))) (coded× (coded_list (deque_code code)) (coded× coded_ℕ (coded× coded_ℕ (coded_list coded_ℕ))))
    (λ list. (list.deques, (list.most, (list.spare, list.rooms))))
    (λ p. record { deques = p.0; most = p.1.0; spare = p.1.1.0; rooms = p.1.1.1 }) (λ _. refl)

-- how many more items the lane of a deque takes without memory
abbrev pub lane_room : {T : Type 0} → ListView T → DequeId → ℕ
lane_room list id = slice_index_or list.rooms id.0 0

-- the items of the lane of an id
abbrev pub lane_items : {T : Type 0} → Option (LaneView T) → List T
lane_items None = []
lane_items (Some lane) = lane.items

abbrev pub room_of : {T : Type 0} → Option (LaneView T) → ℕ
room_of None = 0
room_of (Some lane) = lane.spare

-- the deque at a place
abbrev pub deque_at : {T : Type 0} → List (Option (LaneView T)) → Place → Deque T
deque_at lanes place = record { id = place.id; owner = place.owner; items = lane_items (slice_index_or lanes place.id.0 None) }

-- the list whose order, lanes and prepared lane these are
abbrev pub list_view : {T : Type 0} → OrderView → LaneTable T → Option (LaneView T) → ListView T
list_view order table next = record {
  deques = map (deque_at table.lanes) order.places;
  most = order.most;
  spare = if is_some next then 1 else 0;
  rooms = map room_of table.lanes;
}

-- a prepared lane is empty and has room, and so has the table; and one more deque is allowed
abbrev pub IsPrepared : {T : Type 0} → OrderView → LaneTable T → Option (LaneView T) → Type 0
IsPrepared order table None = Unit {0}
IsPrepared order table (Some lane) = (lane.items ≡ []) × (1 ≤ lane.spare) × (length order.places < order.most) × (1 ≤ table.room)

-- just the ids of the order have lanes
pub record IsKept {T : Type 0} (order : OrderView) (table : LaneTable T) (next : Option (LaneView T)) : Type 0 where
  pub differ : IdsDiffer (place_ids order.places)
  pub live : (id : DequeId) → IsLive (place_ids order.places) id → HasLane table id.0
  pub free : (n : ℕ) → n < order.most → ¬ IsLive (place_ids order.places) (deque_id n) → slice_get table.lanes n ≡ Some None
  pub long : length table.lanes ≡ order.most
  pub prepared : IsPrepared order table next

-- What holds of every list: the ids differ, each is below the number that is allowed, there are not more deques
-- than that, and a deque is prepared only where one more is allowed.
pub record IsLawfulList {T : Type 0} (list : ListView T) : Type 0 where
  pub differ : IdsDiffer (deque_ids list.deques)
  pub below : (id : DequeId) → IsLive (deque_ids list.deques) id → id.0 < list.most
  pub within : length list.deques ≤ list.most
  pub few : list.most ≤ MOST_ENTRIES
  pub at_most_one : list.spare ≤ 1
  pub prepared : list.spare ≡ 1 → length list.deques < list.most

-- the numbers beside the deques stay
pub record SameRoom {T : Type 0} (old new : ListView T) : Type 0 where
  pub most : new.most ≡ old.most
  pub spare : new.spare ≡ old.spare
  pub rooms : new.rooms ≡ old.rooms

-- the numbers beside the deques stay, but for the room of one lane
pub record SameElsewhere {T : Type 0} (old new : ListView T) (id : DequeId) : Type 0 where
  pub most : new.most ≡ old.most
  pub spare : new.spare ≡ old.spare
  pub others : (other : DequeId) → other ≢ id → lane_room new other ≡ lane_room old other
