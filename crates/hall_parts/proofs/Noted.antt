-- What an event wrote may be put back.
use Rattle.std.proofs.Common.{◌≡◌, ◌<◌, ◌≤◌}
use Rattle.hall_parts.specs.HallNames.{DequeId, LaneSlot, ListSlot, PoolSlot, SeatNote, HallKey, table_of, quota_of, HallSeat}
use Rattle.hall_slots.specs.Passed.DepthFirstListActions.{record_words}
use Rattle.hall_slots.specs.Passed.ThreadFramesPoints.{IsAtPoint}
use Rattle.hall_parts.specs.Writes.{Parts, parts, IsShort, StaySound}
use Rattle.hall_parts.specs.EventParts.{MayGoOn}
use Rattle.hall_parts.specs.Puts.{note_of, MayWrite, MayPutLane, MayPutPoolAndLane, MayPutListAndLane, MayPutAll}
use Rattle.hall_parts.specs.Staying.{NotesOn, AllAtPoints, StaysSoundPool}
use Rattle.hall_parts.specs.Taken.{its_lane, pool_and_lane, list_and_lane, all_three}
use Rattle.hall_parts.specs.Writing.{DoesEvent, counts}
use Rattle.hall_parts.specs.declared.noting.Noting.{Noting}
use Rattle.hall_parts.specs.declared.noting.Noting.TheVariants.{Same, Found, Does, Yields, Leaves, Closes, Halts}
use Rattle.hall_parts.proofs.Deciding.{events_may_come}
use Rattle.hall_parts.proofs.Staying.{all_at, lanes_stay_sound}
use Rattle.hall_parts.proofs.Taken.{owner_of}

module _ (key : HallKey) (seat : HallSeat) (deque : DequeId) (noting : Noting) (quota : record_words ≤ quota_of key) (goes : MayGoOn seat deque)
    (counting : seat.hand.note.counting ≡ counts noting) where
  abbrev note : SeatNote
  note = note_of seat.hand.note noting

  abbrev Does_it : (was now : Parts) → Type 0
  Does_it was now = DoesEvent key seat.hand.note.worker deque was now noting

  placed_by : (n : Noting) → 0 < (note_of seat.hand.note n).places
  placed_by Same = goes.placed
  placed_by (Found stop) = goes.placed
  placed_by (Does event owned) = goes.placed
  placed_by (Yields id) = goes.placed
  placed_by (Leaves id) = goes.placed
  placed_by (Closes id end) = goes.placed
  placed_by (Halts stop end) = goes.placed

  writes : (was now : Parts) → Does_it was now → StaySound key seat deque was now note → MayWrite key seat deque was now note
  writes was now does sound = record { goes_on = events_may_come key seat deque was now noting quota goes counting does; sound = sound }

  -- into the lane, or into the pool and the lane
  module _ (on : NotesOn seat.hand.note note) (lane_was lane : LaneSlot) (points : AllAtPoints key lane) where
    lane_sound : (list : ListSlot) (pool_was pool : PoolSlot) → StaysSoundPool key pool_was pool
        → StaySound key seat deque (parts list pool_was lane_was) (parts list pool lane) note
    lane_sound list pool_was pool sound = lanes_stay_sound key seat deque list pool_was pool lane_was lane note on sound
        (all_at (IsAtPoint (table_of key) (quota_of key)) (IsShort note list.part.order.places list.part.order.places) lane.lane.items points)

    pub lane_may : seat.hand.holds ≡ its_lane deque lane_was
        → ((list : ListSlot) (pool : PoolSlot) → Does_it (parts list pool lane_was) (parts list pool lane)) → MayPutLane key seat deque lane note
    lane_may holds does = record {
      lane_was = lane_was;
      holds = holds;
      owner = owner_of seat deque goes;
      placed = placed_by noting;
      may = λ list pool. writes (parts list pool lane_was) (parts list pool lane) (does list pool) (lane_sound list pool pool (λ s. s));
    }

    pub pool_may : (pool_was pool : PoolSlot) → seat.hand.holds ≡ pool_and_lane deque pool_was lane_was
        → ((list : ListSlot) → Does_it (parts list pool_was lane_was) (parts list pool lane)) → StaysSoundPool key pool_was pool
        → MayPutPoolAndLane key seat deque pool lane note
    pool_may pool_was pool holds does sound = record {
      pool_was = pool_was;
      lane_was = lane_was;
      holds = holds;
      owner = owner_of seat deque goes;
      placed = placed_by noting;
      may = λ list. writes (parts list pool_was lane_was) (parts list pool lane) (does list) (lane_sound list pool_was pool sound);
    }

  -- and into the list
  module _ (lane_was lane : LaneSlot) (list_was list : ListSlot) where
    pub list_may : seat.hand.holds ≡ list_and_lane deque list_was lane_was
        → ((pool : PoolSlot) → Does_it (parts list_was pool lane_was) (parts list pool lane))
        → ((pool : PoolSlot) → StaySound key seat deque (parts list_was pool lane_was) (parts list pool lane) note)
        → MayPutListAndLane key seat deque list lane note
    list_may holds does sound = record {
      list_was = list_was;
      lane_was = lane_was;
      holds = holds;
      owner = owner_of seat deque goes;
      placed = placed_by noting;
      may = λ pool. writes (parts list_was pool lane_was) (parts list pool lane) (does pool) (sound pool);
    }

    pub all_may : (pool_was pool : PoolSlot) → seat.hand.holds ≡ all_three deque list_was pool_was lane_was
        → Does_it (parts list_was pool_was lane_was) (parts list pool lane)
        → StaySound key seat deque (parts list_was pool_was lane_was) (parts list pool lane) note
        → MayPutAll key seat deque list pool lane note
    all_may pool_was pool holds does sound = record {
      list_was = list_was;
      pool_was = pool_was;
      lane_was = lane_was;
      holds = holds;
      owner = owner_of seat deque goes;
      placed = placed_by noting;
      may = writes (parts list_was pool_was lane_was) (parts list pool lane) does sound;
    }
