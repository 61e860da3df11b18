-- The names of what is in a hall (its slots, its seats and its threads), for the files that need many of them.
pub use Rattle.hall_slots.specs.declared.key.HallKey.{HallKey}
pub use Rattle.hall_slots.specs.declared.list_slot.ListSlot.{ListSlot}
pub use Rattle.hall_slots.specs.declared.slot.Slot.{Slot}
pub use Rattle.hall_slots.specs.declared.lane_slot.LaneSlot.{LaneSlot}
pub use Rattle.hall_slots.specs.declared.lane_slot.Running.{Running}
pub use Rattle.hall_slots.specs.declared.pool_slot.PoolSlot.{PoolSlot}
pub use Rattle.hall_slots.specs.declared.seat_note.SeatNote.{SeatNote}
pub use Rattle.hall_slots.specs.declared.event.Event.{Event}
pub use Rattle.hall_slots.specs.Takes.{AreTaken, HallSeat, HasAllPlaces, IsGiven, IsRefused, IsTaken, MeetsLaw}
pub use Rattle.hall_slots.specs.Keys.{IsKey, quota_of, table_of, terms_of}
pub use Rattle.hall_slots.specs.Shown.{end_shown, lane_shown, list_shown, pool_shown, running_shown, stop_shown, told_shown, value_of, view_of}
pub use Rattle.hall_slots.specs.Passed.Lists.{Each}
pub use Rattle.turn_table.specs.Tables.{IsSeatOf, key_of, slot_count}
pub use Rattle.deque_list.specs.declared.deque_id.DequeId.{DequeId}
pub use Rattle.hall_slots.specs.Sound.{EndIsSound, IsLaneOf, LanesAreInUse, ListIsSound, PartsAreSound, PoolIsSound, ThreadsAreAtPoints, thread_that_waits}
pub use Rattle.hall_slots.specs.Sound.{threads_in, threads_of}
pub use Rattle.hall_slots.specs.Passed.Values.{End, Hall, LaneShown, ListShown, PoolShown, Stop, by_rule, finished, lane_at, no_lane, no_memory, open_for}
pub use Rattle.hall_slots.specs.Passed.Terms.{Terms, machine_of}
pub use Rattle.hall_slots.specs.Passed.States.{Setting}
pub use Rattle.turn_table.specs.Seats.{with_hand}
pub use Rattle.turn_table.specs.Notes.{HasAs, NoteMay, PutMay, notes}
pub use Rattle.dag_order.specs.declared.thread_id.ThreadId.{ThreadId}
pub use Rattle.dag_order.specs.declared.action_id.ActionId.{ActionId}
pub use Rattle.thread_map.specs.Kept.{KeepsTheSame, Kept, id_code, kept_under}
pub use Rattle.thread_frames.specs.declared.thread.Thread.{Thread}
pub use Rattle.thread_frames.specs.declared.next.Next.{Next}
pub use Rattle.thread_frames.specs.declared.ended.Ended.{Ended}
pub use Rattle.thread_frames.specs.Views.{Child, children_of, done_of, ended_label, ended_words, forks_of, held_by, join_words_of, label_of, newest}
pub use Rattle.thread_frames.specs.Views.{next_of, ordinal_of, released_by, result_of, thread_words, words_asked}
pub use Rattle.thread_frames.specs.Points.{IsAtPoint, IsPlaced, IsResult}
pub use Rattle.thread_frames.specs.Actions.{IsAlloc, IsDummy, IsEnd, IsFault, IsFork, IsJoin, IsOfTheList, IsRelease, IsSame, IsStill, JoinsNewest}
pub use Rattle.thread_frames.specs.Actions.{TellsJoin, TellsWords, deed_of, is_there}
pub use Rattle.thread_frames.specs.Children.{IsAwaited, IsOnlyNewest, IsResultFor, delivered_if, either_of, is_delivered, same_id, with_delivered}
pub use Rattle.thread_frames.specs.Shown.{child_shown, result_shown, thread_shown}
