-- What a table of lanes ends as, where one lane is lent for writing.
use Rattle.std.specs.Prelude.{ℕ, Some, slice_set}
use Rattle.std.specs.Borrow.{Lends, Fml, RattleType, MutBor}
use Rattle.deque_list.specs.Lanes.{LaneView}
use Rattle.deque_list.specs.LaneTables.{LaneTable}
use Rattle.deque_list.specs.contracts.lane.Lane.{the_row as lane_row}
use Rattle.deque_list.specs.contracts.lanes.Lanes.{the_row}

-- the table with another lane for an id
abbrev pub with_lane : {T : Type 0} → LaneTable T → ℕ → LaneView T → LaneTable T
with_lane table id lane = record table { lanes = slice_set table.lanes id (Some lane) }

-- the id has the last lane that was written through the result
abbrev pub lends_lane : (T : RattleType) → MutBor (LaneTable T.Denot) → ℕ → MutBor (LaneView T.Denot) → Fml
lends_lane T s id r = Lends (the_row T) (lane_row T) s r (with_lane s.now id)
