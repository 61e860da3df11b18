-- A written lane is seen at its own deque alone, and each id is that of one deque.
use Rattle.std.proofs.Common.{◌≡◌, ◌≢◌, ℕ, zero, suc, ◌+◌, ◌<◌, ◌≤◌, List, [], ◌∷◌, ◌++◌, map, length, refl, sym, ap, ◌∙◌, arith, append_assoc, inl, inr, length-set}
use Rattle.std.specs.Prelude.{slice_set}
use Rattle.std.proofs.lemmas.List.{get_or-set_same, get_or-set_other}
use Rattle.deque_list.specs.declared.deque_id.DequeId.{DequeId}
use Rattle.deque_list.specs.declared.place.Place.{Place}
use Rattle.deque_machine.specs.Lists.{Each, total, one_if_same}
use Rattle.deque_machine.proofs.Lists.{total_middle, total_append, one_same, one_cases}
use Rattle.deque_machine.specs.Moments.{Moment, with_id}
use Rattle.deque_machine.specs.Machine.{Setting}
use Rattle.deque_machine.specs.LawfulOrder.{IsLawful}
use Rattle.moment_laws.specs.Passed.Parts.{deque_shown}
use Rattle.moment_laws.specs.Passed.Standing.{Shows}
use Rattle.hall_machine.specs.Values.{LaneShown, Hall, no_lane, lane_at, deque_at, run_by, running_at, running, parts_of}
use Rattle.hall_machine.specs.Standing.{HasLane}

pub lane_written : (lanes : List LaneShown) (id : DequeId) (lane : LaneShown) → id.0 < length lanes → lane_at (slice_set lanes id.0 lane) id ≡ lane
lane_written lanes id lane inside = get_or-set_same lanes id.0 lane no_lane inside

pub lane_beside : (lanes : List LaneShown) (id other : DequeId) (lane : LaneShown) → other.0 ≢ id.0 → lane_at (slice_set lanes id.0 lane) other ≡ lane_at lanes other
lane_beside lanes id other lane apart = get_or-set_other lanes id.0 other.0 lane no_lane apart

module _ {X : Type 0} where
  -- what is written twice is what was written last
  pub written_twice : (xs : List X) (i : ℕ) (x y : X) → slice_set (slice_set xs i x) i y ≡ slice_set xs i y
  written_twice [] i x y = refl
  written_twice (z ∷ xs) zero x y = refl
  written_twice (z ∷ xs) (suc i) x y = ap (λ t. z ∷ t) (written_twice xs i x y)

-- a place has another id
abbrev pub IsElsewhere : ℕ → Place → Type 0
IsElsewhere id place = place.id.0 ≢ id

-- there deques, periods and lanes are as they were
module _ (lanes : List LaneShown) (id : DequeId) (lane : LaneShown) where
  pub deques_beside : (places : List Place) → Each (IsElsewhere id.0) places → map (deque_at (slice_set lanes id.0 lane)) places ≡ map (deque_at lanes) places
  deques_beside [] apart = refl
  deques_beside (place ∷ right) apart = λ i.
      record { id = place.id.0; owner = place.owner; threads = LaneShown.threads (lane_beside lanes id place.id lane apart.0 i) } ∷ deques_beside right apart.1 i

  pub running_beside : (places : List Place) → Each (IsElsewhere id.0) places → running (slice_set lanes id.0 lane) places ≡ running lanes places
  running_beside [] apart = refl
  running_beside (place ∷ right) apart = λ i.
      run_by place.owner (LaneShown.period (lane_beside lanes id place.id lane apart.0 i)) ++ running_beside right apart.1 i

  pub has_lane_beside : (place : Place) → IsElsewhere id.0 place → HasLane lanes place → HasLane (slice_set lanes id.0 lane) place
  has_lane_beside place apart has = record {
    inside = let were = has.inside in let long = length-set lanes id.0 lane in omega (arith, were, long);
    runs = λ worker owner. let run = has.runs worker owner in (run.0, ap (λ t. LaneShown.period t) (lane_beside lanes id place.id lane apart) ∙ run.1);
  }

  pub lanes_beside : (places : List Place) → Each (IsElsewhere id.0) places → Each (HasLane lanes) places → Each (HasLane (slice_set lanes id.0 lane)) places
  lanes_beside [] apart have = tt
  lanes_beside (place ∷ right) apart have = (has_lane_beside place apart.0 have.0, lanes_beside right apart.1 have.1)

pub running_append : (lanes : List LaneShown) (left right : List Place) → running lanes (left ++ right) ≡ running lanes left ++ running lanes right
running_append lanes [] right = refl
running_append lanes (place ∷ left) right =
    ap (λ t. running_at lanes place ++ t) (running_append lanes left right) ∙ sym (append_assoc (running_at lanes place) (running lanes left) (running lanes right))

-- ---- ids

abbrev has_id : ℕ → Place → ℕ
has_id id place = one_if_same id place.id.0

ids_counted : (lanes : List LaneShown) (id : ℕ) (places : List Place) → with_id id (map deque_shown (map (deque_at lanes) places)) ≡ total (has_id id) places
ids_counted lanes id [] = refl
ids_counted lanes id (place ∷ right) = ap (λ n. has_id id place + n) (ids_counted lanes id right)

none_has : (id : ℕ) (places : List Place) → total (has_id id) places ≡ 0 → Each (IsElsewhere id) places
none_has id [] none = tt
none_has id (place ∷ right) none = elim (one_cases id place.id.0) [
  | inl same ↦ let one = same.1 in absurd (omega (arith, none, one))
  | inr other ↦ (λ e. other.0 (sym e), none_has id right (omega (arith, none)))
]

-- at a lawful moment the deques beside one have other ids
pub apart : (s : Setting) (h : Hall) (m : Moment) → IsLawful s m → Shows s.quota s.list (parts_of h) m → (left : List Place) (place : Place) (right : List Place)
    → h.list.places ≡ left ++ place ∷ right → Each (IsElsewhere place.id.0) (left ++ right)
apart s h m lawful shows left place right are =
    let id : ℕ = place.id.0 in
    let counted : with_id id m.deques ≡ total (has_id id) (left ++ place ∷ right) =
    ap (with_id id) shows.deques ∙ ids_counted h.lanes id h.list.places ∙ ap (total (has_id id)) are in
    let few : with_id id m.deques ≤ 1 = lawful.order.ids_differ id in
    let middle = total_middle (has_id id) left place right in
    let one : has_id id place ≡ 1 = one_same id id refl in
    let both = total_append (has_id id) left right in
    none_has id (left ++ right) (omega (arith, counted, few, middle, one, both))
