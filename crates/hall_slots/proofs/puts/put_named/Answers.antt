use Rattle.std.proofs.Common.{arith}
use Rattle.turn_table.specs.Tables.{key_of}
use Rattle.hall_slots.proofs.EnteredLists.{named_keeps}
use Rattle.hall_slots.proofs.puts.put_named.Goals as goal

pub put_back-requires-clause-keeps : goal.put_back-requires-clause-keeps
put_back-requires-clause-keeps c = named_keeps (key_of c.args.row.now) c.args.seat.now (let many = c.requires.holds.many in omega (arith, many)) c.args.list c.requires.holds
