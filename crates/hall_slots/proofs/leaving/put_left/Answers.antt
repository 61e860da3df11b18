use Rattle.turn_table.specs.Tables.{key_of}
use Rattle.hall_slots.proofs.Left.{left_keeps}
use Rattle.hall_slots.proofs.leaving.put_left.Goals as goal

pub put_back-requires-clause-keeps : goal.put_back-requires-clause-keeps
put_back-requires-clause-keeps c = left_keeps (key_of c.args.row.now) c.args.seat.now c.args.list c.requires.holds
