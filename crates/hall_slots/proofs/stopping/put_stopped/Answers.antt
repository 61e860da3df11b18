use Rattle.turn_table.specs.Tables.{key_of}
use Rattle.hall_slots.proofs.Stopped.{held_of}
use Rattle.hall_slots.proofs.stopping.put_stopped.Goals as goal

pub write_stopped-requires : goal.write_stopped-requires
write_stopped-requires c = (c.requires.here, held_of (key_of c.args.row.now) c.args.seat.now c.args.list c.keep_in.new.list c.args.stop c.keep_in.result c.requires.may c.keep_in.ensures.kept c.keep_in.ensures.list)
