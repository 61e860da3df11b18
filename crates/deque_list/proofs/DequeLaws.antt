-- How a list of deques changes with its order and its lanes.
use Rattle.std.specs.Prelude.{◌≡◌, ◌≢◌, ℕ, zero, suc, ◌<◌, List, [], ◌∷◌, length, map, Option, None, Some, slice_get, slice_set, slice_index_or, insert, remove, refl}
use Rattle.std.proofs.Common.{sym, ◌∙◌, ap, inl, inr}
use Rattle.std.specs.Option.{option_map}
use Rattle.std.proofs.lemmas.Option.{slice_get-map, slice_get_within}
use Rattle.std.proofs.lemmas.List.{get_or-set_same, get_or-set_other, map-set}
use Rattle.deque_list.specs.declared.deque_id.DequeId.{DequeId}
use Rattle.deque_list.specs.declared.place.Place.{Place}
use Rattle.deque_list.specs.Lanes.{LaneView}
use Rattle.deque_list.specs.Ids.{IsLive, IdsDiffer, StandsAt, place_ids}
use Rattle.deque_list.specs.Deques.{Deque, DequeAt, deque_ids}
use Rattle.deque_list.specs.DequeLists.{lane_items, deque_at}
use Rattle.deque_list.proofs.RankLaws.{written_stands, others_unwritten, same_or_other}
use Rattle.deque_list.proofs.ListLaws.{same_by_rank, same_map, map_inserted, map_removed}
use Rattle.deque_list.proofs.PlaceLaws.{id_stands, ids_removed}
use Rattle.deque_list.proofs.IdLaws.{removed_is_gone}

-- what stands in a mapped list is made of what stands in the list
pub mapped_at : {X Y : Type 0} (f : X → Y) (xs : List X) (rank : ℕ) (y : Y) → slice_get (map f xs) rank ≡ Some y → (x : X) × (slice_get xs rank ≡ Some x) × (y ≡ f x)
mapped_at f [] rank y here = cc
mapped_at f (x ∷ xs) zero y here = let is : f x ≡ y = cc in (x, refl, sym is)
mapped_at f (x ∷ xs) (suc rank) y here = mapped_at f xs rank y here

-- functions that agree on what is there give the same
agree_at : {X Y : Type 0} (f g : X → Y) (o : Option X) → ((x : X) → o ≡ Some x → f x ≡ g x) → option_map f o ≡ option_map g o
agree_at f g None each = refl
agree_at f g (Some x) each = ap (λ y. Some y) (each x refl)

-- ids of the same number are the same
pub same_id : (a b : DequeId) → a.0 ≡ b.0 → a ≡ b
same_id a b same = λ i. record { 0 = same i }

module _ {T : Type 0} where
  -- the ids of the deques are those of the places
  pub ids_of_deques : (lanes : List (Option (LaneView T))) (places : List Place) → deque_ids (map (deque_at lanes) places) ≡ place_ids places
  ids_of_deques lanes [] = refl
  ids_of_deques lanes (place ∷ places) = ap (λ ids. place.id ∷ ids) (ids_of_deques lanes places)

  -- a deque is made of its place and its lane
  pub place_of_deque : (lanes : List (Option (LaneView T))) (places : List Place) (id : DequeId) (rank : ℕ) (deque : Deque T) → DequeAt (map (deque_at lanes) places) id rank deque
      → (place : Place) × StandsAt places id rank place × (deque ≡ deque_at lanes place)
  place_of_deque lanes places id rank deque at =
      let made = mapped_at (deque_at lanes) places rank deque at.0 in
      (made.0, (made.1, ap (λ d. d.id) (sym made.2) ∙ at.1), made.2)

  -- the other places do not see a lane that is written
  pub same_deque : (lanes : List (Option (LaneView T))) (n : ℕ) (lane : Option (LaneView T)) (place : Place) → place.id.0 ≢ n → deque_at (slice_set lanes n lane) place ≡ deque_at lanes place
  same_deque lanes n lane place other =
      ap (λ items. record { id = place.id; owner = place.owner; items = items }) (ap (λ l. lane_items l) (get_or-set_other lanes n place.id.0 lane None other))

  -- a lane is written: its deque has other items, and nothing else changes
  pub lane_written : (lanes : List (Option (LaneView T))) (places : List Place) (id : DequeId) (lane : LaneView T) (rank : ℕ) (deque : Deque T)
      → IdsDiffer (place_ids places) → id.0 < length lanes → DequeAt (map (deque_at lanes) places) id rank deque
      → map (deque_at (slice_set lanes id.0 (Some lane))) places ≡ slice_set (map (deque_at lanes) places) rank (record deque { items = lane.items })
  lane_written lanes places id lane rank deque differ within at =
      let old : List (Deque T) = map (deque_at lanes) places in
      let written : Deque T = record deque { items = lane.items } in
      let new : Place → Deque T = deque_at (slice_set lanes id.0 (Some lane)) in
      let found = place_of_deque lanes places id rank deque at in
      let in_old : rank < length old = slice_get_within old rank deque at.0 in
      let at_id : slice_index_or (slice_set lanes id.0 (Some lane)) found.0.id.0 None ≡ Some lane =
      ap (λ d. slice_index_or (slice_set lanes id.0 (Some lane)) d.0 None) found.1.1 ∙ get_or-set_same lanes id.0 (Some lane) None within in
      let with_items : Deque T → Deque T = λ (d : Deque T). record d { items = lane.items } in
      let holding : Option (LaneView T) → Deque T = λ (l : Option (LaneView T)). record { id = found.0.id; owner = found.0.owner; items = lane_items l } in
      let made : new found.0 ≡ written = ap holding at_id ∙ ap with_items (sym found.2) in
      let here : slice_get (map new places) rank ≡ Some written =
      slice_get-map new places rank ∙ (ap (λ o. option_map new o) found.1.0 ∙ ap (λ d. Some d) made) in
      let unchanged : (r : ℕ) → r ≢ rank → option_map new (slice_get places r) ≡ option_map (deque_at lanes) (slice_get places r) = λ r other.
      agree_at new (deque_at lanes) (slice_get places r) (λ place is. same_deque lanes id.0 (Some lane) place (λ same.
      other (differ r rank id (id_stands places id r place (is, same_id place.id id same)) (id_stands places id rank found.0 found.1)))) in
      same_by_rank (map new places) (slice_set old rank written) (λ r. elim (same_or_other r rank) [
        | inl is ↦ ap (λ k. slice_get (map new places) k) is ∙ (here ∙ (sym (written_stands old rank written in_old) ∙ ap (λ k. slice_get (slice_set old rank written) k) (sym is)))
        | inr other ↦ slice_get-map new places r ∙ (unchanged r other ∙ (sym (slice_get-map (deque_at lanes) places r) ∙ sym (others_unwritten old rank written r other)))
      ])

  -- a deque comes in: it has its lane's items, and the others stay
  pub deque_inserted : (lanes : List (Option (LaneView T))) (places : List Place) (at : ℕ) (place : Place) (lane : LaneView T) → ¬ IsLive (place_ids places) place.id → place.id.0 < length lanes
      → map (deque_at (slice_set lanes place.id.0 (Some lane))) (insert places at place)
      ≡ insert (map (deque_at lanes) places) at (record { id = place.id; owner = place.owner; items = lane.items })
  deque_inserted lanes places at place lane fresh within =
      let new : Place → Deque T = deque_at (slice_set lanes place.id.0 (Some lane)) in
      let holding : Option (LaneView T) → Deque T = λ (l : Option (LaneView T)). record { id = place.id; owner = place.owner; items = lane_items l } in
      let others : map new places ≡ map (deque_at lanes) places = same_map new (deque_at lanes) places (λ r p is.
      same_deque lanes place.id.0 (Some lane) p (λ same. fresh (r, id_stands places place.id r p (is, same_id p.id place.id same)))) in
      map_inserted new places at place ∙ (ap (λ deques. insert deques at (new place)) others
      ∙ ap (λ l. insert (map (deque_at lanes) places) at (holding l)) (get_or-set_same lanes place.id.0 (Some lane) None within))

  -- a deque leaves, with its lane: the others stay
  pub deque_removed : (lanes : List (Option (LaneView T))) (places : List Place) (rank : ℕ) (id : DequeId) → IdsDiffer (place_ids places) → slice_get (place_ids places) rank ≡ Some id
      → map (deque_at (slice_set lanes id.0 None)) (remove places rank) ≡ remove (map (deque_at lanes) places) rank
  deque_removed lanes places rank id differ here =
      let new : Place → Deque T = deque_at (slice_set lanes id.0 None) in
      same_map new (deque_at lanes) (remove places rank) (λ r p is.
      same_deque lanes id.0 None p (λ same. removed_is_gone (place_ids places) rank id differ here
      (r, ap (λ ids. slice_get ids r) (sym (ids_removed places rank)) ∙ id_stands (remove places rank) id r p (is, same_id p.id id same))))
      ∙ map_removed (deque_at lanes) places rank

  -- a deque gets another owner
  pub owner_written : (lanes : List (Option (LaneView T))) (places : List Place) (id : DequeId) (owner : Option ℕ) (rank : ℕ) (deque : Deque T) (place : Place)
      → deque ≡ deque_at lanes place
      → map (deque_at lanes) (slice_set places rank (record place { owner = owner })) ≡ slice_set (map (deque_at lanes) places) rank (record deque { owner = owner })
  owner_written lanes places id owner rank deque place is =
      let owned : Deque T → Deque T = λ (d : Deque T). record d { owner = owner } in
      map-set (deque_at lanes) places rank (record place { owner = owner }) ∙ ap (λ d. slice_set (map (deque_at lanes) places) rank (owned d)) (sym is)

  -- a live deque stands at a rank
  pub deque_of_live : (deques : List (Deque T)) (id : DequeId) → IsLive (deque_ids deques) id → (rank : ℕ) × (deque : Deque T) × DequeAt deques id rank deque
  deque_of_live deques id live = let found = mapped_at (λ deque. deque.id) deques live.0 id live.1 in (live.0, found.0, (found.1, sym found.2))
