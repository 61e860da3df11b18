-- There is memory for an action in a lane.
use Rattle.std.specs.Prelude.{ℕ, Option, None, Some}
use Rattle.hall_parts.specs.Here.{HasRoomIn}
use Rattle.hall_slots.specs.declared.lane_slot.Running.{Running}

-- A period runs there that has room for an action and a birth, where a list for so many births is ready for the first one.
abbrev pub HasRoomToRun : (ready : ℕ) → Option Running → Type 0
HasRoomToRun ready None = ⊥
HasRoomToRun ready (Some running) = HasRoomIn running.period ready
