use Rattle.turn_table.specs.Tables.{key_of}
use Rattle.hall_slots.proofs.Listed.{answered_keeps}
use Rattle.hall_slots.proofs.lists.put_answered.Goals as goal

pub put_back-requires-clause-keeps : goal.put_back-requires-clause-keeps
put_back-requires-clause-keeps c = answered_keeps (key_of c.args.row.now) c.args.seat.now c.requires.placed c.args.list c.requires.holds
