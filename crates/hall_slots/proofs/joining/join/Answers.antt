use Rattle.turn_table.specs.Tables.{key_of}
use Rattle.hall_slots.proofs.Joined.{join_keeps}
use Rattle.hall_slots.proofs.joining.join.Goals as goal

pub join_seat-requires-clause-keeps : goal.join_seat-requires-clause-keeps
join_seat-requires-clause-keeps c = join_keeps (key_of c.args.row.now) c.args.into.now c.args.gone c.requires.placed c.requires.gone
