use Rattle.std.proofs.Common.{◌<◌, [], sym, ap, ◌∙◌, subst}
use Rattle.hall_actions.specs.Passed.HallNames.{key_of, LaneSlot, SeatNote}
use Rattle.hall_slots.specs.Leaving.{end_left}
use Rattle.hall_slots.specs.ListCalls.{end_kept, IsOutOf}
use Rattle.hall_slots.specs.Passed.Lists.{times}
use Rattle.hall_actions.specs.Passed.NotingVariants.{Halts}
use Rattle.hall_actions.specs.Passed.Puts.{note_of, HasPut, MayPutListAndLane}
use Rattle.hall_owner.proofs.Yielded as yielded
use Rattle.hall_owner.proofs.leaving.leave_with.Goals as goal

pub give_up_in-requires-clause-has : goal.give_up_in-requires-clause-has
give_up_in-requires-clause-has c = yielded.has_place (key_of c.args.row.now) c.args.seat.now c.args.deque c.args.list c.args.lane c.requires.both

pub give_up_in-requires-clause-runs : goal.give_up_in-requires-clause-runs
give_up_in-requires-clause-runs c = yielded.runs_one (key_of c.args.row.now) c.args.seat.now c.args.deque c.args.list c.args.lane c.requires.both

pub leave_in-requires : goal.leave_in-requires
leave_in-requires c = subst (λ w. 0 < times w c.give_up_in.new.list.crew.items) c.requires.worker
    (yielded.named_still (key_of c.args.row.now) c.args.seat.now c.args.deque c.args.list c.args.lane c.requires.both c.give_up_in.new.list c.in-Ok.lane c.in-Ok.ensures)

pub put_list_and_lane-requires-clause-may : goal.put_list_and_lane-requires-clause-may
put_list_and_lane-requires-clause-may c = yielded.leaves_with (key_of c.args.row.now) c.args.seat.now c.args.deque c.args.list c.args.lane c.requires.both
    c.give_up_in.new.list c.in-Ok.lane c.in-Ok.ensures c.requires.nobody c.leave_in.new.list (record {
      part = c.leave_in.ensures.part;
      crew = subst (λ w. IsOutOf w c.give_up_in.new.list.crew.items c.leave_in.new.list.crew.items) (sym c.requires.worker) c.leave_in.ensures.crew;
      end = c.leave_in.ensures.end ∙ ap (end_left c.give_up_in.new.list.end) (sym c.requires.found);
    })

pub put_list_and_lane-requires-in-Err-clause-may : goal.put_list_and_lane-requires-in-Err-clause-may
put_list_and_lane-requires-in-Err-clause-may c =
    subst (λ (l : LaneSlot). MayPutListAndLane (key_of c.args.row.now) c.args.seat.now c.args.deque c.keep_in-end.new.list l
    (note_of c.args.seat.now.hand.note (Halts c.stop_then-stop.result c.keep_in-end.result))) (sym c.in-Err.ensures.1)
    (yielded.halts (key_of c.args.row.now) c.args.seat.now c.args.deque c.args.list c.args.lane c.requires.both c.give_up_in.new.list
    c.in-Err.ensures.0 c.args.found c.requires.found c.stop_then-stop.result c.stop_then-stop.ensures c.keep_in-end.result c.keep_in-end.ensures.kept
    c.keep_in-end.new.list c.keep_in-end.ensures.list)

pub returns-in-Err : goal.returns-in-Err
returns-in-Err c = record {
  seat = subst (λ (n : SeatNote). HasPut c.args.seat.now n [] c.put_list_and_lane-in-Err.new.seat)
      (yielded.noted_halt c.args.seat.now.hand.note c.args.list c.args.found c.stop_then-stop.result c.keep_in-end.result c.requires.found c.stop_then-stop.ensures
      (c.keep_in-end.ensures.kept ∙ ap (λ o. end_kept o c.stop_then-stop.result) c.in-Err.ensures.0.deques.end)) c.put_list_and_lane-in-Err.ensures;
}
