-- A list of deques after one lane was written.
use Rattle.std.proofs.Common.{◌≡◌, ℕ, ◌<◌, List, length, map, Option, Some, None, slice_get, sym, ◌∙◌, ap, inl, inr, refl}
use Rattle.std.specs.Prelude.{slice_set, slice_index_or}
use Rattle.std.specs.Option.{option_map}
use Rattle.std.proofs.lemmas.Option.{slice_get-map, slice_get_within, get_or_from_slice_get}
use Rattle.std.proofs.lemmas.List.{map-set, get_or-set_other, get_or-set_same}
use Rattle.deque_list.specs.declared.deque_id.DequeId.{DequeId}
use Rattle.deque_list.specs.Lanes.{LaneView}
use Rattle.deque_list.specs.LaneTables.{LaneTable}
use Rattle.deque_list.specs.TableLends.{with_lane}
use Rattle.deque_list.specs.Ids.{IsLive}
use Rattle.deque_list.specs.Orders.{OrderView}
use Rattle.deque_list.specs.Deques.{Deque, DequeAt, deque_ids}
use Rattle.deque_list.specs.DequeLists.{ListView, list_view, lane_items, lane_room, room_of, deque_at, IsKept, IsPrepared, SameElsewhere}
use Rattle.deque_list.proofs.DequeLaws.{lane_written, same_deque, same_id, ids_of_deques}
use Rattle.deque_list.proofs.ListLaws.{same_map}
use Rattle.deque_list.proofs.RankLaws.{written_stands, same_or_other}
use Rattle.deque_list.proofs.KeptLemmas.{kept_written}
use Rattle.deque_list.proofs.ViewLemmas.{live_in_order, ids_shown}

-- the room that is seen of a lane
room_at : {T : Type 0} (lanes : List (Option (LaneView T))) (n : ℕ) (lane : LaneView T) → slice_get lanes n ≡ Some (Some lane) → slice_index_or (map room_of lanes) n 0 ≡ lane.spare
room_at lanes n lane here = get_or_from_slice_get (map room_of lanes) n lane.spare 0 (slice_get-map room_of lanes n ∙ ap (λ o. option_map room_of o) here)

module _ {T : Type 0} (order : OrderView) (table : LaneTable T) (next : Option (LaneView T)) (list : ListView T) (shown : list_view order table next ≡ list)
    (id : DequeId) (old new : LaneView T) (kept : IsKept order table next) (live : IsLive (deque_ids list.deques) id) (here : slice_get table.lanes id.0 ≡ Some (Some old)) where
  within : id.0 < length table.lanes
  within = slice_get_within table.lanes id.0 (Some old) here

  still : (n : Option (LaneView T)) → IsPrepared order table n → IsPrepared order (with_lane table id.0 new) n
  still None prepared = tt
  still (Some lane) prepared = prepared

  -- order and lanes belong together
  pub kept_after : IsKept order (with_lane table id.0 new) next
  kept_after = kept_written order table (with_lane table id.0 new) next id new kept (live_in_order order table next list shown id live) refl (still next kept.prepared)

  -- the deque has the lane's items
  pub deques_after : (rank : ℕ) (deque : Deque T) → DequeAt list.deques id rank deque
      → map (deque_at (slice_set table.lanes id.0 (Some new))) order.places ≡ slice_set list.deques rank (record deque { items = new.items })
  deques_after rank deque at =
      lane_written table.lanes order.places id new rank deque kept.differ within (ap (λ l. slice_get l.deques rank) shown ∙ at.0, at.1)
      ∙ ap (λ l. slice_set l.deques rank (record deque { items = new.items })) shown

  -- where the items stay, the deques stay
  pub deques_stay : new.items ≡ old.items → map (deque_at (slice_set table.lanes id.0 (Some new))) order.places ≡ list.deques
  deques_stay items =
      same_map (deque_at (slice_set table.lanes id.0 (Some new))) (deque_at table.lanes) order.places (λ r p is. elim (same_or_other p.id.0 id.0) [
        | inl same ↦ ap (λ i. record { id = p.id; owner = p.owner; items = i }) (
            ap (λ n. lane_items (slice_index_or (slice_set table.lanes id.0 (Some new)) n None)) same
            ∙ (ap (λ l. lane_items l) (get_or-set_same table.lanes id.0 (Some new) None within)
            ∙ (items ∙ (ap (λ l. lane_items l) (sym (get_or_from_slice_get table.lanes id.0 (Some old) None here))
            ∙ ap (λ n. lane_items (slice_index_or table.lanes n None)) (sym same)))))
        | inr other ↦ same_deque table.lanes id.0 (Some new) p other
      ])
      ∙ ap (λ l. l.deques) shown

  -- the ids stay
  pub ids_after : deque_ids (map (deque_at (slice_set table.lanes id.0 (Some new))) order.places) ≡ deque_ids list.deques
  ids_after = ids_of_deques (slice_set table.lanes id.0 (Some new)) order.places ∙ sym (ids_shown order table next list shown)

  -- the room of the lane, before and after
  pub room_before : lane_room list id ≡ old.spare
  room_before = ap (λ l. lane_room l id) (sym shown) ∙ room_at table.lanes id.0 old here

  pub room_after : lane_room (list_view order (with_lane table id.0 new) next) id ≡ new.spare
  room_after = room_at (slice_set table.lanes id.0 (Some new)) id.0 new (written_stands table.lanes id.0 (Some new) within)

  -- all else stays
  pub rest_after : SameElsewhere list (list_view order (with_lane table id.0 new) next) id
  rest_after = record {
    most = ap (λ l. l.most) shown;
    spare = ap (λ l. l.spare) shown;
    others = λ other differs.
        ap (λ rooms. slice_index_or rooms other.0 0) (map-set room_of table.lanes id.0 (Some new))
        ∙ (get_or-set_other (map room_of table.lanes) id.0 other.0 new.spare 0 (λ same. differs (same_id other id same)) ∙ ap (λ l. lane_room l other) shown);
  }
