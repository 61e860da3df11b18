-- The names of what is in a hall (its slots, its seats and what they show), for the files that need many of them.
pub use Rattle.hall_slots.specs.declared.key.HallKey.{HallKey}
pub use Rattle.hall_slots.specs.declared.list_slot.ListSlot.{ListSlot}
pub use Rattle.hall_slots.specs.declared.slot.Slot.{Slot}
pub use Rattle.hall_slots.specs.declared.lane_slot.LaneSlot.{LaneSlot}
pub use Rattle.hall_slots.specs.declared.seat_note.SeatNote.{SeatNote}
pub use Rattle.hall_slots.specs.declared.event.Event.{Event}
pub use Rattle.hall_slots.specs.Takes.{HallSeat, HasAllPlaces, IsGiven, IsPlaced, IsRefused, IsTaken, MeetsLaw}
pub use Rattle.hall_slots.specs.Keys.{quota_of, table_of, terms_of}
pub use Rattle.hall_slots.specs.Shown.{end_shown, lane_shown, list_shown, running_shown, stop_shown, told_shown, value_of, view_of}
pub use Rattle.hall_slots.specs.Passed.Lists.{Each}
pub use Rattle.turn_table.specs.Tables.{IsSeatOf, key_of, slot_count}
pub use Rattle.deque_list.specs.declared.deque_id.DequeId.{DequeId}
pub use Rattle.hall_slots.specs.Sound.{EndIsSound, IsLaneOf, LanesAreInUse, ListIsSound, PartsAreSound, ThreadsAreAtPoints, thread_that_waits, threads_in}
pub use Rattle.hall_slots.specs.Sound.{threads_of}
pub use Rattle.hall_slots.specs.Passed.Values.{Hall, LaneShown, ListShown, Value, by_rule, deque_at, deque_of, deques_of, lane_at, lane_in, of_lane}
pub use Rattle.hall_slots.specs.Passed.Terms.{Terms, machine_of}
pub use Rattle.turn_table.specs.Seats.{with_hand}
pub use Rattle.turn_table.specs.Notes.{HasAs, PutMay, notes}
