-- By what a seat puts back that did nothing a hall goes on, and an action without words leaves the pool as it is.
use Rattle.std.specs.Prelude.{◌≡◌, false, None, Some}
use Rattle.hall_parts.specs.HallNames.{DequeId, LaneSlot, ListSlot, PoolSlot, pool_shown, lane_shown, HallKey, HallSeat, ActionId, ThreadId}
use Rattle.play_rules.specs.declared.stop.Stop.TheVariants.{OutOfMemory}
use Rattle.hall_slots.specs.Passed.NextVariants as nexts
use Rattle.hall_slots.specs.Passed.Thread.{Thread}
use Rattle.hall_parts.specs.Here.{TakesWords}
use Rattle.hall_parts.specs.Joins.{ReleasesNothing}
use Rattle.hall_parts.specs.Writes.{parts, MayBecome}
use Rattle.hall_parts.specs.EventParts.{MayGoOn}

-- where the lane shows what it showed, and the seat notes nothing new, or that memory was wanting
abbrev pub StatementsMayCome : Type 0
StatementsMayCome = (key : HallKey) (seat : HallSeat) (deque : DequeId) (list : ListSlot) (pool : PoolSlot) (lane_was lane : LaneSlot)
    → lane_shown lane ≡ lane_shown lane_was → MayBecome key seat deque (parts list pool lane_was) (parts list pool lane) seat.hand.note

abbrev pub WantsOfMemoryMayCome : Type 0
WantsOfMemoryMayCome = (key : HallKey) (seat : HallSeat) (deque : DequeId) (list : ListSlot) (pool : PoolSlot) (lane_was lane : LaneSlot)
    → MayGoOn seat deque → seat.hand.note.counting ≡ false → seat.hand.note.found ≡ None → lane_shown lane ≡ lane_shown lane_was
    → MayBecome key seat deque (parts list pool lane_was) (parts list pool lane) (record seat.hand.note { found = Some OutOfMemory })

-- a Join that releases nothing takes nothing from any pool
abbrev pub NothingIsTaken : Type 0
NothingIsTaken = (child : ThreadId) (top : Thread) (name : ActionId) (pool : PoolSlot) → ReleasesNothing top
    → TakesWords (nexts.Join child) top name (pool_shown pool) (pool_shown pool)
