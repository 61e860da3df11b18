use Rattle.turn_table.specs.Tables.{key_of}
use Rattle.hall_slots.proofs.Drawn.{count_keeps}
use Rattle.hall_slots.proofs.counting.count_action.Goals as goal

pub count-found-requires-clause-keeps : goal.count-found-requires-clause-keeps
count-found-requires-clause-keeps c = count_keeps (key_of c.args.row.now) c.args.seat.now c.requires.may
