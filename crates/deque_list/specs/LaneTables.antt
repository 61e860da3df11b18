-- The lanes of the deques, by their ids.
use Rattle.std.specs.Prelude.{◌≡◌, ℕ, List, Option, None, Some, IsSome, slice_get, refl}
use Rattle.std.specs.Coded.{Coded, code_by, coded×, coded_ℕ, coded_list, coded_option}
use Rattle.slab.specs.Slab.{Slab, get}
use Rattle.deque_list.specs.Lanes.{LaneView, lane_code}

-- the lane of each id, where a deque has it, and how many more lanes it takes without memory
pub record LaneTable (T : Type 0) : Type 0 where
  pub lanes : List (Option (LaneView T))
  pub room : ℕ

-- a table is stored as the pair of its parts
abbrev pub table_code : {T : Type 0} → Coded T → Coded (LaneTable T)
table_code {T} code =
    code_by (List (Option (LaneView T))
    × ℕ) (coded× (coded_list (coded_option (lane_code code))) coded_ℕ) (λ table. (table.lanes, table.room))
    (λ p. record { lanes = p.0; room = p.1 }) (λ _. refl)

-- what is stored under a key, if there is one
abbrev pub stored : {L : Type 0} → Slab L → Option ℕ → Option L
stored slab None = None
stored slab (Some key) = get slab key

-- each key has a value, and is that of one id
pub record IsKeyed {L : Type 0} (slab : Slab L) (keys : List (Option ℕ)) : Type 0 where
  pub differ : (i j key : ℕ) → slice_get keys i ≡ Some (Some key) → slice_get keys j ≡ Some (Some key) → i ≡ j
  pub filled : (i key : ℕ) → slice_get keys i ≡ Some (Some key) → IsSome (get slab key)

-- there is a lane for this id
abbrev pub HasLane : {T : Type 0} → LaneTable T → ℕ → Type 0
HasLane {T} table id = (lane : LaneView T) × (slice_get table.lanes id ≡ Some (Some lane))
