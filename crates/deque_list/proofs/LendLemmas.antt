-- What a table of lanes is after a lane was written.
use Rattle.std.proofs.Common.{◌≡◌, ℕ, ◌-◌, ◌<◌, List, length, map, Option, None, Some, IsSome, slice_get, ◌∙◌, ap, arith, true, cond, inl, inr}
use Rattle.std.specs.Prelude.{slice_set, is_some}
use Rattle.std.proofs.lemmas.List.Sums.{sum_by-set}
use Rattle.std.proofs.lemmas.Bool.{cases_lt}
use Rattle.std.proofs.Math.ListN.{get_or-eq_default}
use Rattle.slab.specs.Slab.{Slab, get, slab_len, with_value}
use Rattle.deque_list.specs.Lanes.{LaneView}
use Rattle.deque_list.specs.LaneTables.{LaneTable, stored, IsKeyed}
use Rattle.deque_list.specs.TableLends.{with_lane}
use Rattle.deque_list.proofs.TableLemmas.{table_written}

-- a key with a value is within the slots
filled_within : {L : Type 0} (slab : Slab L) (key : ℕ) → IsSome (get slab key) → key < length slab.slots
filled_within slab key filled =
    elim (cases_lt key (length slab.slots)) [
      | inl within ↦ within
      | inr past ↦ let empty : get slab key ≡ None = get_or-eq_default slab.slots None past in let is : is_some (get slab key) ≡ true = filled in cc
    ]

-- a write keeps the number of values
count_kept : {L : Type 0} (slab : Slab L) (key : ℕ) (lane : L) → IsSome (get slab key) → slab_len (with_value slab key lane) ≡ slab_len slab
count_kept slab key lane filled =
    let step = sum_by-set (λ slot. cond (is_some slot) 1 0) slab.slots key (Some lane) None (filled_within slab key filled) in
    let one : ℕ = 1 in let none : ℕ = 0 in
    let was : cond (is_some (get slab key)) one none ≡ one = ap (λ b. cond b one none) filled in omega (arith, step, was)

-- the table after the lane of an id was written
pub table_lent : {T : Type 0} (slab : Slab (LaneView T)) (keys : List (Option ℕ)) (id key : ℕ) (lane : LaneView T) (table : LaneTable T) → IsKeyed slab keys → slice_get keys id ≡ Some (Some key)
    → ◌≡◌ {A = LaneTable T} (record { lanes = map (stored slab) keys; room = slab.capacity - slab_len slab }) table
    → ◌≡◌ {A = LaneTable T} (record { lanes = map (stored (with_value slab key lane)) keys; room = slab.capacity - slab_len (with_value slab key lane) }) (with_lane table id lane)
table_lent {T} slab keys id key lane table keyed here is =
    let make : List (Option (LaneView T)) → ℕ → LaneTable T = λ (lanes : List (Option (LaneView T))) (n : ℕ). record { lanes = lanes; room = slab.capacity - n } in
    ap (λ lanes. make lanes (slab_len (with_value slab key lane))) (table_written slab keys id key lane keyed here)
    ∙ (ap (λ n. make (slice_set (map (stored slab) keys) id (Some lane)) n) (count_kept slab key lane (keyed.filled id key here))
    ∙ ap (λ t. with_lane t id lane) is)
