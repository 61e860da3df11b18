use Rattle.hall_slots.proofs.Halts.{kept_held, has_halted}
use Rattle.hall_slots.proofs.halting.halt.Goals as goal

pub put_halted-requires-clause-holds : goal.put_halted-requires-clause-holds
put_halted-requires-clause-holds c = kept_held c.args.seat.now c.take_list.new.seat c.in_ok-list.list c.keep_in-end.new.list c.args.stop c.keep_in-end.result c.in_ok-list.ensures.seat c.requires.free c.requires.found
    c.keep_in-end.ensures.kept c.keep_in-end.ensures.list

pub returns-clause-seat : goal.returns-clause-seat
returns-clause-seat c = has_halted c.args.seat.now c.take_list.new.seat c.put_halted.new.seat c.in_ok-list.list c.keep_in-end.new.list c.args.stop c.keep_in-end.result c.in_ok-list.ensures.seat c.requires.free
    c.keep_in-end.ensures.kept c.keep_in-end.ensures.list c.put_halted.ensures.seat
