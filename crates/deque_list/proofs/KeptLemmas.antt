-- The order and the lanes of a list belong together after each change.
use Rattle.std.proofs.Common.{◌≡◌, ℕ, ◌<◌, ◌≤◌, List, length, Option, Some, None, slice_get, sym, ◌∙◌, ap, subst, inl, inr, arith, length-set}
use Rattle.std.specs.Prelude.{slice_set, insert, remove, replicate, [], ◌∷◌, zero, suc, refl}
use Rattle.std.proofs.lemmas.List.{length-replicate}
use Rattle.std.proofs.lemmas.Option.{slice_get_within}
use Rattle.deque_list.specs.declared.deque_id.DequeId.{DequeId}
use Rattle.deque_list.specs.declared.place.Place.{Place}
use Rattle.deque_list.specs.Lanes.{LaneView}
use Rattle.deque_list.specs.LaneTables.{LaneTable}
use Rattle.deque_list.specs.Ids.{IsLive, IdsDiffer, deque_id, first_place, place_ids}
use Rattle.deque_list.proofs.IdLaws.{live_stays, new_is_live, live_before, differ_inserted, differ_removed, removed_is_gone, live_remains, lived_before}
use Rattle.deque_list.proofs.PlaceLaws.{ids_inserted, ids_removed}
use Rattle.deque_list.specs.Orders.{OrderView}
use Rattle.deque_list.specs.DequeLists.{IsKept, IsPrepared}
use Rattle.deque_list.proofs.RankLaws.{written_stands, others_unwritten, same_or_other}

module _ {T : Type 0} where
  -- a live deque's id has a lane
  pub live_within : (order : OrderView) (table : LaneTable T) (next : Option (LaneView T)) (id : DequeId) → IsKept order table next → IsLive (place_ids order.places) id → id.0 < length table.lanes
  live_within order table next id kept live = let has = kept.live id live in slice_get_within table.lanes id.0 (Some has.0) has.1

  -- the ids and the lanes stay
  pub kept_same : (order order' : OrderView) (table table' : LaneTable T) (next next' : Option (LaneView T)) → place_ids order'.places ≡ place_ids order.places → order'.most ≡ order.most
      → table'.lanes ≡ table.lanes → IsPrepared order' table' next' → IsKept order table next → IsKept order' table' next'
  kept_same order order' table table' next next' ids most lanes prepared kept =
      let Differ : List DequeId → Type 0 = λ i. IdsDiffer i in
      record {
        differ = subst Differ (sym ids) kept.differ;
        live = λ id live. let P : List DequeId → Type 0 = λ i. IsLive i id in let has = kept.live id (subst P ids live) in (has.0, ap (λ l. slice_get l id.0) lanes ∙ has.1);
        free = λ n below dead. let P : List DequeId → Type 0 = λ i. IsLive i (deque_id n) in
            ap (λ l. slice_get l n) lanes ∙ kept.free n (omega arith) (λ live. dead (subst P (sym ids) live));
        long = ap (λ l. length l) lanes ∙ (kept.long ∙ sym most);
        prepared = prepared;
      }

  -- the lane of a live deque is written
  pub kept_written : (order : OrderView) (table table' : LaneTable T) (next : Option (LaneView T)) (id : DequeId) (lane : LaneView T) → IsKept order table next → IsLive (place_ids order.places) id
      → table'.lanes ≡ slice_set table.lanes id.0 (Some lane) → IsPrepared order table' next → IsKept order table' next
  kept_written order table table' next id lane kept live lanes prepared =
      let within : id.0 < length table.lanes = live_within order table next id kept live in
      record {
        differ = kept.differ;
        live = λ other lives. elim (same_or_other other.0 id.0) [
          | inl same ↦ (lane, ap (λ l. slice_get l other.0) lanes ∙ (ap (λ n. slice_get (slice_set table.lanes id.0 (Some lane)) n) same ∙ written_stands table.lanes id.0 (Some lane) within))
          | inr differs ↦ let has = kept.live other lives in (has.0, ap (λ l. slice_get l other.0) lanes ∙ (others_unwritten table.lanes id.0 (Some lane) other.0 differs ∙ has.1))
        ];
        free = λ n below dead. ap (λ l. slice_get l n) lanes ∙ (others_unwritten table.lanes id.0 (Some lane) n
            (λ same. let P : ℕ → Type 0 = λ m. IsLive (place_ids order.places) (deque_id m) in dead (subst P (sym same) live)) ∙ kept.free n below dead);
        long = ap (λ l. length l) lanes ∙ (length-set table.lanes id.0 (Some lane) ∙ kept.long);
        prepared = prepared;
      }

  -- a deque comes in
  pub kept_inserted : (order order' : OrderView) (table table' : LaneTable T) (next : Option (LaneView T)) (at : ℕ) (place : Place) (lane : LaneView T) → IsKept order table next
      → at ≤ length (place_ids order.places) → ¬ IsLive (place_ids order.places) place.id → place.id.0 < order.most
      → order'.places ≡ insert order.places at place → order'.most ≡ order.most → table'.lanes ≡ slice_set table.lanes place.id.0 (Some lane) → IsKept order' table' None
  kept_inserted order order' table table' next at place lane kept within fresh below places most lanes =
      let id : DequeId = place.id in
      let ids : List DequeId = place_ids order.places in
      let ids_are : place_ids order'.places ≡ insert ids at id = ap (λ p. place_ids p) places ∙ ids_inserted order.places at place in
      let Differ : List DequeId → Type 0 = λ i. IdsDiffer i in
      let in_lanes : id.0 < length table.lanes = let long = kept.long in omega arith in
      record {
        differ = subst Differ (sym ids_are) (differ_inserted ids at id within kept.differ fresh);
        live = λ other lives. let P : List DequeId → Type 0 = λ i. IsLive i other in elim (same_or_other other.0 id.0) [
          | inl same ↦ (lane, ap (λ l. slice_get l other.0) lanes ∙ (ap (λ n. slice_get (slice_set table.lanes id.0 (Some lane)) n) same ∙ written_stands table.lanes id.0 (Some lane) in_lanes))
          | inr differs ↦ let was : IsLive ids other = elim (live_before ids at id other within (subst P ids_are lives)) [
            | inl is ↦ absurd (differs (ap (λ d. d.0) is))
            | inr old ↦ old
          ] in
              let has = kept.live other was in (has.0, ap (λ l. slice_get l other.0) lanes ∙ (others_unwritten table.lanes id.0 (Some lane) other.0 differs ∙ has.1))
        ];
        free = λ n small dead. let P : List DequeId → Type 0 = λ i. IsLive i (deque_id n) in
            ap (λ l. slice_get l n) lanes ∙ (others_unwritten table.lanes id.0 (Some lane) n
            (λ same. let Q : ℕ → Type 0 = λ m. IsLive (insert ids at id) (deque_id m) in dead (subst P (sym ids_are) (subst Q (sym same) (new_is_live ids at id within))))
            ∙ kept.free n (omega arith) (λ was. dead (subst P (sym ids_are) (live_stays ids at id (deque_id n) within was))));
        long = ap (λ l. length l) lanes ∙ (length-set table.lanes id.0 (Some lane) ∙ (kept.long ∙ sym most));
        prepared = tt;
      }

  -- a deque leaves
  pub kept_removed : (order order' : OrderView) (table table' : LaneTable T) (next : Option (LaneView T)) (rank : ℕ) (id : DequeId) → IsKept order table next
      → slice_get (place_ids order.places) rank ≡ Some id → order'.places ≡ remove order.places rank → order'.most ≡ order.most → table'.lanes ≡ slice_set table.lanes id.0 None
      → IsPrepared order' table' next → IsKept order' table' next
  kept_removed order order' table table' next rank id kept here places most lanes prepared =
      let ids : List DequeId = place_ids order.places in
      let ids_are : place_ids order'.places ≡ remove ids rank = ap (λ p. place_ids p) places ∙ ids_removed order.places rank in
      let Differ : List DequeId → Type 0 = λ i. IdsDiffer i in
      let in_lanes : id.0 < length table.lanes = live_within order table next id kept (rank, here) in
      record {
        differ = subst Differ (sym ids_are) (differ_removed ids rank kept.differ);
        live = λ other lives. let P : List DequeId → Type 0 = λ i. IsLive i other in let was : IsLive (remove ids rank) other = subst P ids_are lives in
            let has = kept.live other (lived_before ids rank other was) in (
              has.0,
              ap (λ l. slice_get l other.0) lanes ∙ (others_unwritten table.lanes id.0 None other.0
                  (λ same. let Q : ℕ → Type 0 = λ m. IsLive (remove ids rank) (deque_id m) in removed_is_gone ids rank id kept.differ here (subst Q same was)) ∙ has.1),
            );
        free = λ n small dead. let P : List DequeId → Type 0 = λ i. IsLive i (deque_id n) in elim (same_or_other n id.0) [
          | inl same ↦ ap (λ l. slice_get l n) lanes ∙ (ap (λ m. slice_get (slice_set table.lanes id.0 None) m) same ∙ written_stands table.lanes id.0 None in_lanes)
          | inr differs ↦ ap (λ l. slice_get l n) lanes ∙ (others_unwritten table.lanes id.0 None n differs
              ∙ kept.free n (omega arith) (λ was. dead (subst P (sym ids_are) (live_remains ids rank id (deque_id n) here was (λ same. differs (ap (λ d. d.0) same))))))
        ];
        long = ap (λ l. length l) lanes ∙ (length-set table.lanes id.0 None ∙ (kept.long ∙ sym most));
        prepared = prepared;
      }

none_everywhere : {X : Type 0} (most n : ℕ) → n < most → slice_get {X = Option X} (replicate most None) n ≡ Some None
none_everywhere zero n below = absurd (omega arith)
none_everywhere (suc most) zero below = refl
none_everywhere (suc most) (suc n) below = none_everywhere most n (omega arith)

-- a list of one deque with the id 0
pub kept_first : {T : Type 0} (order : OrderView) (table : LaneTable T) (most : ℕ) (lane : LaneView T) → 1 ≤ most → order.places ≡ first_place ∷ [] → order.most ≡ most
    → table.lanes ≡ slice_set (replicate most None) 0 (Some lane) → IsKept order table None
kept_first {T} order table most lane some places is lanes =
    let no_order : OrderView = record { places = []; most = most } in
    let no_lanes : LaneTable T = record { lanes = replicate most None; room = 0 } in
    let none : IsKept no_order no_lanes None = record {
      differ = λ r s id at_r at_s. cc;
      live = λ id live. let clash = live.1 in cc;
      free = λ n below dead. none_everywhere most n below;
      long = length-replicate most None;
      prepared = tt;
    } in
    kept_inserted no_order order no_lanes table None 0 first_place lane none (omega arith) (λ live. let clash = live.1 in cc) some places is lanes

-- what is prepared stays so where room grows and deques leave
pub still_prepared : {T : Type 0} (order order' : OrderView) (table table' : LaneTable T) (next : Option (LaneView T)) → length order'.places ≤ length order.places → order'.most ≡ order.most
    → table.room ≤ table'.room → IsPrepared order table next → IsPrepared order' table' next
still_prepared order order' table table' None few most room prepared = tt
still_prepared order order' table table' (Some lane) few most room prepared = (prepared.0, prepared.1, omega (arith, prepared.2), omega (arith, prepared.3))

-- the table got more room
pub kept_grown : {T : Type 0} (order : OrderView) (table table' : LaneTable T) (next : Option (LaneView T)) → table'.lanes ≡ table.lanes
    → table.room ≤ table'.room → IsKept order table next → IsKept order table' next
kept_grown order table table' next lanes room kept =
    kept_same order order table table' next next refl refl lanes (still_prepared order order table table' next (omega arith) refl room kept.prepared) kept

-- a lane was prepared
pub kept_prepared : {T : Type 0} (order : OrderView) (table table' : LaneTable T) (next next' : Option (LaneView T)) (lane : LaneView T) → table'.lanes ≡ table.lanes → next' ≡ Some lane → lane.items ≡ []
    → 1 ≤ lane.spare → length order.places < order.most → 1 ≤ table'.room → IsKept order table next → IsKept order table' next'
kept_prepared {T} order table table' next next' lane lanes is empty spare few room kept =
    let P : Option (LaneView T) → Type 0 = λ n. IsPrepared order table' n in
    kept_same order order table table' next next' refl refl lanes (subst P (sym is) (empty, spare, few, room)) kept
