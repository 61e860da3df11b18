use Rattle.turn_table.specs.Tables.{key_of}
use Rattle.hall_slots.proofs.Entered.{entered, free_of}
use Rattle.hall_slots.proofs.entering.enter.Goals as goal

pub returns-in-Ok-clause-seat : goal.returns-in-Ok-clause-seat
returns-in-Ok-clause-seat c = entered (key_of c.args.row.now) c.args.seat.now c.take_list.new.seat c.enter_with.new.seat c.in-Ok.list c.enter_with.result c.in-Ok.ensures.seat c.enter_with.ensures.seat

pub returns-in-Ok-clause-lone : goal.returns-in-Ok-clause-lone
returns-in-Ok-clause-lone c all = free_of (key_of c.args.row.now) c.in-Ok.list c.take_list.new.seat c.enter_with.new.seat c.enter_with.result c.enter_with.ensures.seat
