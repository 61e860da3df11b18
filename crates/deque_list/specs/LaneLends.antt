-- What a lane ends as, where its top item is lent for writing.
use Rattle.std.specs.Prelude.{Option, slice_set}
use Rattle.std.specs.Borrow.{LendsIf, Fml, RattleType, MutBor}
use Rattle.deque_list.specs.Lanes.{LaneView}
use Rattle.deque_list.specs.contracts.lane.Lane.{the_row}

-- the lane with another top item
abbrev pub with_top : {T : Type 0} → LaneView T → T → LaneView T
with_top lane top = record lane { items = slice_set lane.items 0 top }

-- the top item is the last one written through the result, and with no item the lane stays as it is
abbrev pub lends_top : (T : RattleType) → MutBor (LaneView T.Denot) → Option (MutBor T.Denot) → Fml
lends_top T s r = LendsIf (the_row T) T s r (with_top s.now) s.now
