use Rattle.turn_table.specs.Tables.{key_of}
use Rattle.hall_parts.proofs.Still.{short_there}
use Rattle.hall_parts.proofs.puts.give_short_back.Goals as goal

pub put_lane-requires-clause-may : goal.put_lane-requires-clause-may
put_lane-requires-clause-may c = short_there (key_of c.args.row.now) c.args.seat.now c.args.deque c.args.lane c.requires.short
