-- A lane in which nothing was decided may be put back.
use Rattle.std.proofs.Common.{inr, refl, sym, ◌∙◌, subst}
use Rattle.std.specs.Prelude.{Some}
use Rattle.hall_parts.specs.HallNames.{DequeId, LaneSlot, SeatNote, HallKey, table_of, quota_of, HallSeat}
use Rattle.hall_parts.specs.Writes.{IsShort}
use Rattle.play_rules.specs.declared.stop.Stop.TheVariants.{OutOfMemory}
use Rattle.std.proofs.lemmas.Option.{none-some}
use Rattle.hall_slots.specs.Passed.ThreadFramesPoints.{IsAtPoint}
use Rattle.hall_slots.specs.Passed.HallMachinePoints.{LaneAtPoints}
use Rattle.hall_parts.proofs.Quiet.{statements_may_come, wants_of_memory_may_come}
use Rattle.hall_parts.proofs.Staying.{all_at, lanes_stay_sound}
use Rattle.hall_parts.specs.Puts.{MayPutLane}
use Rattle.hall_parts.specs.Own.{IsStillThere, IsShortThere}
use Rattle.hall_parts.proofs.Taken.{owner_of}

module _ (key : HallKey) (seat : HallSeat) (deque : DequeId) (lane : LaneSlot) where
  pub still_there : IsStillThere key seat deque lane → MayPutLane key seat deque lane seat.hand.note
  still_there j = record {
    lane_was = j.lane_was;
    holds = j.holds;
    owner = record { placed = j.placed; owns = j.owns };
    placed = j.placed;
    may = λ list pool. record {
      goes_on = statements_may_come key seat deque list pool j.lane_was lane j.same;
      sound = lanes_stay_sound key seat deque list pool pool j.lane_was lane seat.hand.note (record { worker = refl; left = refl; answered = refl; found = λ stop is. is }) (λ s. s)
          (all_at (IsAtPoint (table_of key) (quota_of key)) (IsShort seat.hand.note list.part.order.places list.part.order.places) lane.lane.items j.points);
    };
  }

  abbrev short_note : SeatNote
  short_note = record seat.hand.note { found = Some OutOfMemory }

  pub short_there : IsShortThere key seat deque lane → MayPutLane key seat deque lane short_note
  short_there j = record {
    lane_was = j.lane_was;
    holds = j.holds;
    owner = owner_of seat deque j.may.goes;
    placed = j.may.goes.placed;
    may = λ list pool. record {
      goes_on = wants_of_memory_may_come key seat deque list pool j.lane_was lane j.may.goes j.may.counting j.none j.same;
      sound = lanes_stay_sound key seat deque list pool pool j.lane_was lane short_note
          (record { worker = refl; left = refl; answered = refl; found = λ stop is. absurd (none-some stop (sym j.none ∙ is)) }) (λ s. s)
          (subst (LaneAtPoints (IsAtPoint (table_of key) (quota_of key)) (IsShort short_note list.part.order.places list.part.order.places)) (sym j.items)
          (inr (j.may.goes.stays, refl, refl), j.points));
    };
  }
