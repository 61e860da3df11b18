use Rattle.std.proofs.Common.{refl, sym}
use Rattle.turn_table.specs.Tables.{key_of}
use Rattle.hall_actions.specs.Passed.Taken.{its_lane}
use Rattle.hall_owner.specs.Holding.{AtList}
use Rattle.hall_owner.proofs.Given.{still_there}
use Rattle.hall_owner.proofs.Trying.{busy, over, still_holding}
use Rattle.hall_owner.proofs.taking.take_open_list.Goals as goal

pub give_still_back-requires-clause-still : goal.give_still_back-requires-clause-still
give_still_back-requires-clause-still c = let b = c.requires.before in
    still_there (key_of c.args.row.now) c.take_list.new.seat c.args.deque c.args.at b.0 b.1 c.put_together.result c.put_together.ensures.items
    c.put_together.ensures.running (still_holding c.args.seat.now c.take_list.new.seat 0 c.in-Err.held c.in-Err.ensures.seat (key_of c.args.row.now) c.args.deque
    (its_lane c.args.deque) c.args.at b.0 b.1 b.2.holding)

pub returns-in-None-clause-seat : goal.returns-in-None-clause-seat
returns-in-None-clause-seat c = (refl, sym c.in-None.ensures, c.in-Ok.ensures.seat)

pub returns-in-Some-clause-seat : goal.returns-in-Some-clause-seat
returns-in-Some-clause-seat c =
    over c.args.seat.now c.take_list.new.seat c.in-Ok.list c.in-Some.end (sym c.in-Some.ensures) c.in-Ok.ensures.seat c.return_answered.new.seat c.return_answered.ensures

pub returns-in-Err-clause-seat : goal.returns-in-Err-clause-seat
returns-in-Err-clause-seat c = busy c.args.seat.now c.take_list.new.seat 0 c.in-Err.held c.in-Err.ensures.seat AtList
    (c.in-Err.ensures.seat.0, refl) c.give_still_back.new.seat c.give_still_back.ensures
