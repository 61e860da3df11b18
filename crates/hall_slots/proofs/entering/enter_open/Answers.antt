use Rattle.turn_table.specs.Tables.{key_of}
use Rattle.hall_slots.proofs.Entered.{number_is_free, named_of, gives_of, enters_of}
use Rattle.hall_slots.proofs.entering.enter_open.Goals as goal

pub enter_in-requires : goal.enter_in-requires
enter_in-requires c = number_is_free (key_of c.args.row.now) c.args.seat.now c.args.list c.args.workers c.requires.may c.requires.holds c.requires.meets

pub put_named-requires-clause-holds : goal.put_named-requires-clause-holds
put_named-requires-clause-holds c = named_of (key_of c.args.row.now) c.args.seat.now c.args.list c.enter_in.new.list c.args.workers c.in-Ok.worker c.requires.may c.requires.holds c.requires.no_end
    c.in-Ok.ensures.number c.in-Ok.ensures.crew c.in-Ok.ensures.part c.in-Ok.ensures.end

pub split-requires-clause-gives : goal.split-requires-clause-gives
split-requires-clause-gives c = gives_of (key_of c.args.row.now) c.args.seat.now c.args.list c.enter_in.new.list c.args.workers c.in-Ok.worker c.requires.may c.requires.holds c.requires.no_end
    c.in-Ok.ensures.number c.in-Ok.ensures.crew c.put_named.new.seat c.put_named.ensures

pub returns-in-Ok-clause-seat : goal.returns-in-Ok-clause-seat
returns-in-Ok-clause-seat c = enters_of (key_of c.args.row.now) c.args.seat.now c.args.list c.enter_in.new.list c.args.workers c.in-Ok.worker c.requires.may c.requires.holds c.requires.no_end
    c.in-Ok.ensures.number c.in-Ok.ensures.crew c.put_named.new.seat c.put_named.ensures c.split.new.seat c.split.result c.split.ensures.seat c.split.ensures.made
