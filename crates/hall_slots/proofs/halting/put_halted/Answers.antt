use Rattle.turn_table.specs.Tables.{key_of}
use Rattle.hall_slots.proofs.Halts.{halt_keeps}
use Rattle.hall_slots.proofs.halting.put_halted.Goals as goal

pub put_back-requires-clause-keeps : goal.put_back-requires-clause-keeps
put_back-requires-clause-keeps c = halt_keeps (key_of c.args.row.now) c.args.seat.now c.requires.is_in c.args.list c.requires.holds
