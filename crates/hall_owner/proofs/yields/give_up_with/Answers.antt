use Rattle.std.proofs.Common.{sym, subst}
use Rattle.hall_actions.specs.Passed.HallNames.{key_of, LaneSlot}
use Rattle.hall_actions.specs.Returning.{ReturnsList}
use Rattle.hall_actions.proofs.Returned.{list_back}
use Rattle.hall_owner.proofs.Yielded as yielded
use Rattle.hall_owner.proofs.yields.give_up_with.Goals as goal

pub give_up_in-requires-clause-has : goal.give_up_in-requires-clause-has
give_up_in-requires-clause-has c = yielded.has_place (key_of c.args.row.now) c.args.seat.now c.args.deque c.args.list c.args.lane c.requires.both

pub give_up_in-requires-clause-runs : goal.give_up_in-requires-clause-runs
give_up_in-requires-clause-runs c = yielded.runs_one (key_of c.args.row.now) c.args.seat.now c.args.deque c.args.list c.args.lane c.requires.both

pub put_list_and_lane-requires-clause-may : goal.put_list_and_lane-requires-clause-may
put_list_and_lane-requires-clause-may c = c.requires.notes.gives c.give_up_in.new.list c.in-Ok.lane c.in-Ok.ensures

pub put_list_and_lane-requires-in-Err-clause-may : goal.put_list_and_lane-requires-in-Err-clause-may
put_list_and_lane-requires-in-Err-clause-may c =
    let key = key_of c.args.row.now in let list = c.give_up_in.new.list in
    list_back key c.args.seat.now c.args.deque c.args.short list c.in-Err.lane
    (subst (λ (l : LaneSlot). ReturnsList key c.args.seat.now c.args.deque list l c.args.short) (sym c.in-Err.ensures.1)
    (yielded.gives_back key c.args.seat.now c.args.deque c.args.list c.args.lane c.requires.both list c.in-Err.ensures.0 c.args.short c.requires.notes.wants))
