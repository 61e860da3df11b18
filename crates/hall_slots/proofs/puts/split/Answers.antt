use Rattle.turn_table.specs.Tables.{key_of}
use Rattle.hall_slots.proofs.Split.{split_keeps}
use Rattle.hall_slots.proofs.puts.split.Goals as goal

pub split_seat-requires-clause-keeps : goal.split_seat-requires-clause-keeps
split_seat-requires-clause-keeps c = split_keeps (key_of c.args.row.now) c.args.seat.now c.requires.gives
