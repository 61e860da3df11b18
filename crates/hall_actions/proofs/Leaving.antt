-- What an owner wrote that leaves, that is answered an end, or that keeps its stop, may be put back.
use Rattle.std.proofs.Common.{◌≡◌, ◌≢◌, ◌⊎◌, ℕ, ◌≤◌, List, ◌∷◌, inl, inr, refl, sym, ◌∙◌}
use Rattle.std.proofs.lemmas.Option.{none-some}
use Rattle.std.specs.Prelude.{None, Some}
use Rattle.hall_parts.specs.HallNames.{DequeId, table_of, quota_of, HallSeat, HallKey, LaneSlot, ListSlot, PoolSlot, SeatNote, Thread}
use Rattle.depth_first_list.specs.Actions.{record_words}
use Rattle.hall_parts.specs.EventParts.{IsAtAction, MayPause}
use Rattle.hall_parts.specs.Leaving.{IsLeft, with_end}
use Rattle.hall_parts.specs.Passed.RunEnd.{RunEnd}
use Rattle.hall_parts.specs.Passed.Stop.{Stop}
use Rattle.hall_parts.specs.Passed.StopVariants.{OutOfMemory}
use Rattle.hall_parts.specs.Puts.{note_of, MayPutListAndLane}
use Rattle.hall_parts.specs.Rooms.{HasMoreBooks, HasMoreRoom}
use Rattle.hall_parts.specs.Staying.{AllAtPoints}
use Rattle.hall_parts.specs.Taken.{list_and_lane}
use Rattle.hall_parts.specs.Writes.{Parts, parts, IsShort, StaySound}
use Rattle.hall_parts.specs.declared.noting.Noting.TheVariants.{Same, Yields, Leaves, Halts}
use Rattle.hall_parts.proofs.Leaving.{owners_may_leave, writers_may_be_answered, stops_may_be_kept}
use Rattle.hall_parts.proofs.Pauses.{yields_do}
use Rattle.hall_parts.proofs.Staying.{all_at, given_up_stays_sound}
use Rattle.hall_parts.proofs.Taken.{owner_of}
use Rattle.hall_slots.specs.ListCalls.{end_kept, ShowsUnowned, HasNoOwner, KeepsRest}
use Rattle.hall_slots.specs.Passed.Period.{Period as OpenPeriod}
use Rattle.hall_slots.specs.Passed.ThreadFramesPoints.{IsAtPoint}
use Rattle.hall_slots.proofs.Halts.{kept_before, finished_before}
use Rattle.hall_actions.proofs.Notable.{nothing_may_be_noted}
use Rattle.hall_actions.proofs.Returned.{goes_more, same_pool, stay}
use Rattle.hall_actions.specs.Pauses.{CanClose}
use Rattle.hall_actions.proofs.Roomier.{has_from, rest_from, shows_unowned_from, unowned_from}

-- the list in which the deque has no owner, without the worker of the seat
pub leaves_may : (key : HallKey) (seat : HallSeat) (deque : DequeId) → MayPause seat deque → record_words ≤ quota_of key
    → seat.hand.note.enters ≡ None → seat.hand.note.found ≢ Some OutOfMemory → (was now given list : ListSlot) (lane_was lane : LaneSlot)
    (top : Thread) (under : List Thread) (holder : ℕ) (period : OpenPeriod) → IsAtAction lane_was top under holder period
    → seat.hand.holds ≡ list_and_lane deque was lane_was → HasMoreBooks was now → CanClose deque now
    → HasNoOwner deque now.part.order.places given.part.order.places → KeepsRest now given
    → ShowsUnowned now given deque (record { worker = holder; period = period }) → lane.lane.items ≡ top ∷ under → lane.running ≡ None
    → AllAtPoints key lane → IsLeft seat.hand.note.worker seat.hand.note.found given list
    → MayPutListAndLane key seat deque list lane (note_of seat.hand.note (Leaves deque))
leaves_may key seat deque may quota nobody calm was now given list lane_was lane top under holder period at holds more closes places rest shows_it
    items idle points left = record {
      list_was = was;
      lane_was = lane_was;
      holds = holds;
      owner = owner_of seat deque may.goes;
      placed = may.goes.placed;
      may = λ pool. owners_may_leave key seat deque (parts was pool lane_was) (parts given pool lane) list quota may nobody calm left
          (yields_do key seat.hand.note.worker deque (parts was pool lane_was) (parts given pool lane) top under holder period at refl idle items
          (shows_unowned_from was now given deque (record { worker = holder; period = period }) more shows_it))
          (given_up_stays_sound key seat deque was given pool lane_was lane (note_of seat.hand.note (Yields deque)) closes.owner
          (record { worker = refl; left = refl; answered = refl; found = λ stop is. is })
          (has_from was now deque closes.owner more.deques closes.has) (unowned_from was now given deque more.deques places)
          (rest_from was now given deque more.deques more.waiting more.results rest) idle points);
    }

-- what may be put back may be so with the answer that this end is kept
pub answered_may : (key : HallKey) (seat : HallSeat) (deque : DequeId) (list : ListSlot) (lane : LaneSlot) (note : SeatNote) (end : RunEnd)
    → list.end ≡ Some end → MayPutListAndLane key seat deque list lane note
    → MayPutListAndLane key seat deque list lane (record note { answered = Some end })
answered_may key seat deque list lane note end kept put = record {
  list_was = put.list_was;
  lane_was = put.lane_was;
  holds = put.holds;
  owner = put.owner;
  placed = put.placed;
  may = λ pool. writers_may_be_answered key seat deque (parts put.list_was pool put.lane_was) (parts list pool lane) note end put.placed kept
      (put.may pool);
}

-- the list that was taken, perhaps with more room, in which the stop of the seat is kept unless an end is
module _ (key : HallKey) (seat : HallSeat) (deque : DequeId) (may : MayPause seat deque) (stop : Stop)
    (cause : (seat.hand.note.found ≡ Some stop) ⊎ ((seat.hand.note.found ≡ None) × (stop ≡ OutOfMemory))) (was now : ListSlot) (lane : LaneSlot)
    (more : HasMoreRoom was now) (holds : seat.hand.holds ≡ list_and_lane deque was lane) (points : AllAtPoints key lane) where
  abbrev end : RunEnd
  end = end_kept was.end stop

  abbrev kept : ListSlot
  kept = record now { end = Some end }

  abbrev note : SeatNote
  note = record seat.hand.note { found = Some stop }

  abbrev middle : PoolSlot → Parts
  middle pool = with_end (parts was pool lane) end

  more_now : HasMoreRoom (record was { end = Some end }) kept
  more_now = record {
    deques = record {
      order = more.deques.order;
      closed = more.deques.closed;
      begun = more.deques.begun;
      crew = more.deques.crew;
      end = refl;
    };
    waiting = more.waiting;
    results = more.results;
  }

  found_before : (other : Stop) → seat.hand.note.found ≡ Some other → Some stop ≡ Some other
  found_before other is = elim cause [ inl found ↦ sym found ∙ is | inr finds ↦ absurd (none-some other (sym finds.0 ∙ is)) ]

  stays_sound : (pool : PoolSlot) → StaySound key seat deque (parts was pool lane) (parts kept pool lane) note
  stays_sound pool =
      let s = stay key seat deque (middle pool) (parts kept pool lane) Same more_now (same_pool pool)
      (record { goes = may.goes; same = refl; points = points }) (nothing_may_be_noted key seat deque (middle pool)) in record {
        pool = s.pool;
        list = λ sound. s.list (record { most = sound.most; waiting = sound.waiting; under_ids = sound.under_ids; results = sound.results });
        waiting = s.waiting;
        becomes = s.becomes;
        points = all_at (IsAtPoint (table_of key) (quota_of key)) (IsShort note was.part.order.places now.part.order.places) lane.lane.items points;
        ends = λ e is. s.ends e (kept_before was.end stop e is);
        finished = λ finish is. elim (s.finished finish is) [
          | inl before ↦ inl (finished_before was.end stop finish before)
          | inr ends ↦ inr ends
        ];
        worker = refl;
        left = inl refl;
        answered = λ e is. inl is;
        found = found_before;
      }

  pub halts_may : MayPutListAndLane key seat deque kept lane (note_of seat.hand.note (Halts stop end))
  halts_may = answered_may key seat deque kept lane note end refl (record {
    list_was = was;
    lane_was = lane;
    holds = holds;
    owner = owner_of seat deque may.goes;
    placed = may.goes.placed;
    may = λ pool. record {
      goes_on = goes_more key seat deque (parts was pool lane) (middle pool) (parts kept pool lane) more_now (same_pool pool) refl note
          (stops_may_be_kept key seat deque (parts was pool lane) stop may cause);
      sound = stays_sound pool;
    };
  })
