-- What the slots of a hall show, and what a seat's note says of it.
use Rattle.std.specs.Prelude.{ℕ, map, pos}
use Rattle.std.specs.Option.{option_map}
use Rattle.deque_machine.specs.Play as play
use Rattle.open_periods.specs.Periods.{Period, open_shown, closed_shown}
use Rattle.space_ledger.specs.BooksList.{books_list}
use Rattle.space_ledger.specs.MovesList.{moves_list}
use Rattle.thread_frames.specs.Shown.{thread_shown}
use Rattle.play_rules.specs.declared.stop.Stop.{Stop as AnyStop}
use Rattle.play_rules.specs.declared.stop.Stop.TheVariants.{ArenaFull, DequesFull, StepsSpent, OutOfMemory}
use Rattle.thread_frames.specs.Kept.{waiting_shown, result_kept}
use Rattle.play_rules.specs.declared.ends.RunEnd.{RunEnd}
use Rattle.play_rules.specs.declared.ends.RunEnd.TheVariants.{Finished, Stopped}
use Rattle.hall_machine.specs.Values.{Stop, by_rule, no_memory, End, finished, stopped}
use Rattle.hall_machine.specs.Values.{ListShown, PoolShown, LaneShown, Value, of_list, of_pool, of_lane}
use Rattle.hall_machine.specs.Steps.{Told, stole, did, waited, gave_up, halted}
use Rattle.hall_machine.specs.Views.{View}
use Rattle.hall_slots.specs.declared.event.Event.{Event}
use Rattle.hall_slots.specs.declared.event.Event.TheVariants.{Stole, Did, Suspended, GaveUp, Halted}
use Rattle.hall_slots.specs.declared.list_slot.ListSlot.{ListSlot}
use Rattle.hall_slots.specs.declared.pool_slot.PoolSlot.{PoolSlot}
use Rattle.hall_slots.specs.declared.lane_slot.Running.{Running}
use Rattle.hall_slots.specs.declared.lane_slot.LaneSlot.{LaneSlot}
use Rattle.hall_slots.specs.declared.slot.Slot.{Slot}
use Rattle.hall_slots.specs.declared.slot.Slot.TheVariants as slots
use Rattle.hall_slots.specs.declared.seat_note.SeatNote.{SeatNote}

-- a stop, and an end, which does not show at which fault the root finished
abbrev pub stop_shown : AnyStop → Stop
stop_shown (ArenaFull live asked) = by_rule (play.arena_full (pos live) asked)
stop_shown (DequesFull deques) = by_rule (play.deques_full deques)
stop_shown (StepsSpent limit) = by_rule (play.steps_spent limit)
stop_shown OutOfMemory = no_memory

abbrev pub end_shown : RunEnd → End
end_shown (Finished finish) = finished
end_shown (Stopped stop) = stopped (stop_shown stop)

-- the list
abbrev pub list_shown : ListSlot → ListShown
list_shown slot = record {
  places = slot.part.order.places;
  crew = slot.crew.items;
  waiting = map waiting_shown slot.part.waiting.entries;
  results = map result_kept slot.part.results.entries;
  closed = map closed_shown (books_list slot.part.books);
  begun = slot.part.begun;
  kept = option_map end_shown slot.end;
}

-- the pool
abbrev pub pool_shown : PoolSlot → PoolShown
pool_shown slot = record { live = slot.pool.live; moves = moves_list slot.moves }

-- a lane, with the period that runs in it for a worker
abbrev pub running_shown : Running → Period
running_shown running = open_shown running.worker running.period

abbrev pub lane_shown : LaneSlot → LaneShown
lane_shown slot = record { threads = map thread_shown slot.lane.items; period = option_map running_shown slot.running }

-- a slot
abbrev pub value_of : Slot → Value
value_of (slots.List list) = of_list (list_shown list)
value_of (slots.Pool pool) = of_pool (pool_shown pool)
value_of (slots.Lane lane) = of_lane (lane_shown lane)

-- of which kind a slot is: the list, the pool, or a lane
abbrev pub kind_of : Slot → ℕ
kind_of (slots.List list) = 0
kind_of (slots.Pool pool) = 1
kind_of (slots.Lane lane) = 2

-- what a seat was told, and its note
abbrev pub told_shown : Event → Told
told_shown (Stole deque period) = stole deque.0 period
told_shown (Did name) = did name
told_shown (Suspended thread) = waited thread
told_shown (GaveUp deque) = gave_up deque.0
told_shown (Halted end) = halted (end_shown end)

abbrev pub view_of : SeatNote → View
view_of note = record {
  worker = note.worker;
  places = note.places;
  left = note.left;
  deque = note.deque;
  found = option_map stop_shown note.found;
  answered = option_map end_shown note.answered;
  counting = note.counting;
  yielded = note.yielded;
  enters = note.enters;
  mine = map told_shown note.mine;
}
