-- What is seen of a list of deques, and what it is made of.
use Rattle.std.proofs.Common.{◌≡◌, ℕ, ◌≤◌, ◌<◌, List, [], ◌∷◌, length, map, Option, Some, None, slice_get, sym, ◌∙◌, ap, subst, inl, inr, arith, refl}
use Rattle.std.specs.Prelude.{slice_set, slice_index_or, is_some, true, false, IsTrue, nat_le, ◌↔◌, if◌then◌else◌}
use borrow.Author.Tests.{leb-true}
use Rattle.std.proofs.lemmas.Bool.{le-leb}
use Rattle.std.proofs.lemmas.Option.{get_or_from_slice_get, slice_get-map}
use Rattle.std.proofs.lemmas.List.{length-map}
use Rattle.std.specs.Option.{option_map}
use Rattle.deque_list.specs.declared.deque_id.DequeId.{DequeId}
use Rattle.deque_list.specs.declared.place.Place.{Place}
use Rattle.deque_list.specs.Lanes.{LaneView}
use Rattle.deque_list.specs.LaneTables.{LaneTable, HasLane}
use Rattle.deque_list.specs.Ids.{IsLive, IdsDiffer, StandsAt, place_ids}
use Rattle.deque_list.specs.Orders.{OrderView, IsLawful}
use Rattle.deque_list.specs.Deques.{Deque, DequeAt, IsReady, deque_ids, place_of}
use Rattle.deque_list.specs.DequeLists.{ListView, list_view, lane_items, deque_at, IsKept, IsPrepared, IsLawfulList}
use Rattle.deque_list.proofs.DequeLaws.{mapped_at, ids_of_deques, place_of_deque, owner_written}
use Rattle.deque_list.proofs.KeptLemmas.{kept_same, still_prepared}

-- where a live deque stands
pub place_of_live : (places : List Place) (id : DequeId) → IsLive (place_ids places) id → (rank : ℕ) × (place : Place) × StandsAt places id rank place
place_of_live places id live = let found = mapped_at (λ place. place.id) places live.0 id live.1 in (live.0, found.0, (found.1, sym found.2))

module _ {T : Type 0} (order : OrderView) (table : LaneTable T) (next : Option (LaneView T)) (list : ListView T) (shown : list_view order table next ≡ list) where
  -- the ids that are seen are those of the order
  pub ids_shown : deque_ids list.deques ≡ place_ids order.places
  ids_shown = ap (λ l. deque_ids l.deques) (sym shown) ∙ ids_of_deques table.lanes order.places

  pub live_in_order : (id : DequeId) → IsLive (deque_ids list.deques) id → IsLive (place_ids order.places) id
  live_in_order id live = let P : List DequeId → Type 0 = λ ids. IsLive ids id in subst P ids_shown live

  -- a live deque has a lane
  pub lane_of_live : (id : DequeId) → IsKept order table next → IsLive (deque_ids list.deques) id → HasLane table id.0
  lane_of_live id kept live = kept.live id (live_in_order id live)

  -- a deque that is seen stands at a place of the order
  pub place_shown : (id : DequeId) (rank : ℕ) (deque : Deque T) → DequeAt list.deques id rank deque → (place : Place) × StandsAt order.places id rank place × (deque ≡ deque_at table.lanes place)
  place_shown id rank deque at = place_of_deque table.lanes order.places id rank deque (ap (λ l. slice_get l.deques rank) shown ∙ at.0, at.1)

  -- its items are those of its lane
  pub items_shown : (id : DequeId) (rank : ℕ) (deque : Deque T) (lane : LaneView T) → DequeAt list.deques id rank deque → slice_get table.lanes id.0 ≡ Some (Some lane) → deque.items ≡ lane.items
  items_shown id rank deque lane at here =
      let found = place_shown id rank deque at in
      ap (λ d. d.items) found.2
      ∙ (ap (λ i. lane_items (slice_index_or table.lanes i.0 None)) found.1.1 ∙ ap (λ l. lane_items l) (get_or_from_slice_get table.lanes id.0 (Some lane) None here))

  -- the order after a deque got another owner
  pub owner_kept : (order' : OrderView) → IsKept order table next → place_ids order'.places ≡ place_ids order.places → order'.most ≡ order.most → IsKept order' table next
  owner_kept order' kept ids most =
      let long : length order'.places ≡ length order.places =
      sym (length-map order'.places (λ place. place.id)) ∙ (ap (λ i. length i) ids ∙ length-map order.places (λ place. place.id)) in
      kept_same order order' table table next next ids most refl (still_prepared order order' table table next (omega arith) most (omega arith) kept.prepared) kept

  -- the ids that are seen after the ids of the order stayed
  pub owner_ids : (order' : OrderView) → place_ids order'.places ≡ place_ids order.places → deque_ids (map (deque_at table.lanes) order'.places) ≡ deque_ids list.deques
  owner_ids order' ids = ids_of_deques table.lanes order'.places ∙ (ids ∙ sym ids_shown)

  pub owner_shown : (order' : OrderView) (id : DequeId) (owner : Option ℕ)
      → ((rank : ℕ) (place : Place) → StandsAt order.places id rank place → order'.places ≡ slice_set order.places rank (record place { owner = owner }))
      → (rank : ℕ) (deque : Deque T) → DequeAt list.deques id rank deque → map (deque_at table.lanes) order'.places ≡ slice_set list.deques rank (record deque { owner = owner })
  owner_shown order' id owner changed rank deque at =
      let found = place_shown id rank deque at in
      ap (λ p. map (deque_at table.lanes) p) (changed rank found.0 found.1)
      ∙ (owner_written table.lanes order.places id owner rank deque found.0 found.2 ∙ ap (λ l. slice_set l.deques rank (record deque { owner = owner })) shown)

-- what is not some value is none
pub none_from : {X : Type 0} (o : Option X) → is_some o ≡ false → o ≡ None
none_from None is = refl
none_from (Some x) is = cc

-- a deque whose owner is known is ready where it has two items
pub ready_by_items : {T : Type 0} (deque : Deque T) (owner : Option ℕ) (items : List T) (n : ℕ) → owner ≡ deque.owner → is_some owner ≡ true → deque.items ≡ items → n ≡ length items
    → IsTrue (nat_le 2 n) ↔ IsReady deque
ready_by_items deque owner items n owned some are long =
    let same : length deque.items ≡ n = ap length are ∙ sym long in (
      λ test. let two : 2 ≤ n = leb-true 2 n test in inr (omega arith),
      λ ready. elim ready [
        | inl none ↦ let clash : is_some deque.owner ≡ true = ap (λ o. is_some o) (sym owned) ∙ some in cc
        | inr two ↦ le-leb 2 n (omega arith)
      ],
    )

-- a list of one element is that element
pub only_one : {X : Type 0} (xs : List X) (x : X) → length xs ≡ 1 → slice_get xs 0 ≡ Some x → xs ≡ x ∷ []
only_one [] x one here = cc
only_one (y ∷ []) x one here = let same : y ≡ x = cc in ap (λ z. z ∷ []) same
only_one (y ∷ z ∷ xs) x one here = absurd (omega arith)

-- the first of the ids is that of the first deque
pub first_id : {T : Type 0} (deques : List (Deque T)) (deque : Deque T) (id : DequeId) → slice_get deques 0 ≡ Some deque → slice_get (deque_ids deques) 0 ≡ Some id → deque.id ≡ id
first_id [] deque id here first = cc
first_id (d ∷ deques) deque id here first = let same : d ≡ deque = cc in let is : d.id ≡ id = cc in ap (λ x. x.id) (sym same) ∙ is

-- what a place shows of the deque at a rank
pub place_seen : {T : Type 0} (order : OrderView) (table : LaneTable T) (next : Option (LaneView T)) (list : ListView T) → list_view order table next ≡ list → (rank : ℕ)
    → slice_get order.places rank ≡ option_map place_of (slice_get list.deques rank)
place_seen order table next list shown rank =
    go (slice_get order.places rank) ∙ (ap (λ o. option_map place_of o) (sym (slice_get-map (deque_at table.lanes) order.places rank)) ∙ ap (λ l. option_map place_of (slice_get l.deques rank)) shown)
  where
    go : (o : Option Place) → o ≡ option_map place_of (option_map (deque_at table.lanes) o)
    go None = refl
    go (Some place) = refl

-- the list is lawful where its order is
pub kept_is_lawful : {T : Type 0} (order : OrderView) (table : LaneTable T) (next : Option (LaneView T)) (list : ListView T) → list_view order table next ≡ list → IsKept order table next → IsLawful order
    → IsLawfulList list
kept_is_lawful {T} order table next list shown kept lawful =
    let P : ListView T → Type 0 = λ l. IsLawfulList l in
    let ids : deque_ids (map (deque_at table.lanes) order.places) ≡ place_ids order.places = ids_of_deques table.lanes order.places in
    let long : length (map (deque_at table.lanes) order.places) ≡ length order.places = length-map order.places (deque_at table.lanes) in
    let Differ : List DequeId → Type 0 = λ i. IdsDiffer i in
    let within = lawful.within in
    let few = lawful.few in
    subst P shown (record {
      differ = subst Differ (sym ids) lawful.differ;
      below = λ id live. let Q : List DequeId → Type 0 = λ i. IsLive i id in lawful.below id (subst Q ids live);
      within = omega arith;
      few = few;
      at_most_one = one next;
      prepared = ready next kept.prepared;
    })
  where
    one : (n : Option (LaneView T)) → (if is_some n then 1 else 0) ≤ 1
    one None = omega arith
    one (Some lane) = omega arith

    ready : (n : Option (LaneView T)) → IsPrepared order table n → ◌≡◌ {A = ℕ} (if is_some n then 1 else 0) 1 → length (map (deque_at table.lanes) order.places) < order.most
    ready None prepared is = absurd (omega arith)
    ready (Some lane) prepared is = omega (arith, prepared.2, length-map order.places (deque_at table.lanes))

-- the deque at the rank of a place
pub deque_of_place : {T : Type 0} (order : OrderView) (table : LaneTable T) (next : Option (LaneView T)) (list : ListView T) → list_view order table next ≡ list → (rank : ℕ) (place : Place)
    → slice_get order.places rank ≡ Some place → slice_get list.deques rank ≡ Some (deque_at table.lanes place)
deque_of_place order table next list shown rank place is =
    ap (λ l. slice_get l.deques rank) (sym shown) ∙ (slice_get-map (deque_at table.lanes) order.places rank ∙ ap (λ o. option_map (deque_at table.lanes) o) is)
