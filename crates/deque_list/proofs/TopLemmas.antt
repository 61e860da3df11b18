-- A list of deques after the top item of a deque was written.
use Rattle.std.proofs.Common.{◌≡◌, ℕ, zero, suc, List, [], ◌∷◌, map, Option, Some, None, slice_get, sym, ◌∙◌, ap, refl, true, false, Bool}
use Rattle.std.specs.Prelude.{slice_set, slice_index_or, nat_eq, if◌then◌else◌}
use Rattle.std.specs.Option.{option_map}
use Rattle.std.proofs.lemmas.Option.{slice_get-map, slice_get_within, get_or_from_slice_get}
use Rattle.std.proofs.lemmas.List.{map-set, get_or-set_same}
use borrow.Author.Tests.{eqb-true, eqb-false}
use Rattle.deque_list.specs.declared.deque_id.DequeId.{DequeId}
use Rattle.deque_list.specs.declared.place.Place.{Place}
use Rattle.deque_list.specs.Lanes.{LaneView}
use Rattle.deque_list.specs.LaneTables.{LaneTable}
use Rattle.deque_list.specs.LaneLends.{with_top}
use Rattle.deque_list.specs.TableLends.{with_lane}
use Rattle.deque_list.specs.ListLends.{with_top_item, with_top_at}
use Rattle.deque_list.specs.Orders.{OrderView}
use Rattle.deque_list.specs.Deques.{Deque}
use Rattle.deque_list.specs.DequeLists.{ListView, list_view, lane_items, room_of, deque_at}
use Rattle.deque_list.proofs.DequeLaws.{same_deque}
use Rattle.deque_list.proofs.ListLaws.{same_map}

-- writing what stands there changes nothing
rewritten : {X : Type 0} (xs : List X) (n : ℕ) (x : X) → slice_get xs n ≡ Some x → slice_set xs n x ≡ xs
rewritten [] n x here = refl
rewritten (y ∷ xs) zero x here = let same : y ≡ x = cc in ap (λ z. z ∷ xs) (sym same)
rewritten (y ∷ xs) (suc n) x here = ap (λ ys. y ∷ ys) (rewritten xs n x here)

mapped_twice : {X Y Z : Type 0} (f : Y → Z) (g : X → Y) (xs : List X) → map (λ x. f (g x)) xs ≡ map f (map g xs)
mapped_twice f g [] = refl
mapped_twice f g (x ∷ xs) = ap (λ ys. f (g x) ∷ ys) (mapped_twice f g xs)

module _ {T : Type 0} (order : OrderView) (table : LaneTable T) (next : Option (LaneView T)) (list : ListView T) (shown : list_view order table next ≡ list)
    (id : DequeId) (lane : LaneView T) (here : slice_get table.lanes id.0 ≡ Some (Some lane)) where
  -- a lane that is written as it was leaves all as it was
  pub none_shown : list_view order (with_lane table id.0 lane) next ≡ list
  none_shown = ap (λ lanes. list_view order (record table { lanes = lanes }) next) (rewritten table.lanes id.0 (Some lane) here) ∙ shown

  -- the deque at a place after its lane got another top item
  top_at_place : (top : T) (place : Place) → deque_at (slice_set table.lanes id.0 (Some (with_top lane top))) place ≡ with_top_item id top (deque_at table.lanes place)
  top_at_place top place = go (nat_eq place.id.0 id.0) refl
    where
      go : (b : Bool) → nat_eq place.id.0 id.0 ≡ b → deque_at (slice_set table.lanes id.0 (Some (with_top lane top))) place
          ≡ (if b then (record (deque_at table.lanes place) { items = slice_set (deque_at table.lanes place).items 0 top }) else deque_at table.lanes place)
      go true is =
          let same : place.id.0 ≡ id.0 = eqb-true place.id.0 id.0 is in
          ap (λ items. record { id = place.id; owner = place.owner; items = items }) (
          ap (λ n. lane_items (slice_index_or (slice_set table.lanes id.0 (Some (with_top lane top))) n None)) same
          ∙ (ap (λ l. lane_items l) (get_or-set_same table.lanes id.0 (Some (with_top lane top)) None (slice_get_within table.lanes id.0 (Some lane) here))
          ∙ (ap (λ l. slice_set (lane_items l) 0 top) (sym (get_or_from_slice_get table.lanes id.0 (Some lane) None here))
          ∙ ap (λ n. slice_set (lane_items (slice_index_or table.lanes n None)) 0 top) (sym same))))
      go false is = same_deque table.lanes id.0 (Some (with_top lane top)) place (eqb-false place.id.0 id.0 is)

  -- the list after the top item was written
  pub top_shown : (top : T) → list_view order (with_lane table id.0 (with_top lane top)) next ≡ with_top_at list id top
  top_shown top =
      let make : List (Deque T) → List ℕ → ListView T = λ (deques : List (Deque T)) (rooms : List ℕ). record (list_view order table next) { deques = deques; rooms = rooms } in
      let deques : map (deque_at (slice_set table.lanes id.0 (Some (with_top lane top)))) order.places ≡ map (with_top_item id top) (map (deque_at table.lanes) order.places) =
      same_map (deque_at (slice_set table.lanes id.0 (Some (with_top lane top)))) (λ p. with_top_item id top (deque_at table.lanes p)) order.places (λ r p is. top_at_place top p)
      ∙ mapped_twice (with_top_item id top) (deque_at table.lanes) order.places in
      let rooms : map room_of (slice_set table.lanes id.0 (Some (with_top lane top))) ≡ map room_of table.lanes =
      map-set room_of table.lanes id.0 (Some (with_top lane top))
      ∙ rewritten (map room_of table.lanes) id.0 lane.spare (slice_get-map room_of table.lanes id.0 ∙ ap (λ o. option_map room_of o) here) in
      ap (λ d. make d (map room_of (slice_set table.lanes id.0 (Some (with_top lane top))))) deques
      ∙ (ap (λ r. make (map (with_top_item id top) (map (deque_at table.lanes) order.places)) r) rooms ∙ ap (λ l. with_top_at l id top) shown)
