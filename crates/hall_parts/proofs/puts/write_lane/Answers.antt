use Rattle.std.proofs.Common.{◌+◌, []}
use Rattle.turn_table.specs.Tables.{key_of}
use Rattle.turn_table.specs.Backs.{unchanged}
use Rattle.hall_parts.proofs.Putting.{lane_keeps, lane_left, has_put}
use Rattle.hall_parts.proofs.puts.write_lane.Goals as goal

pub put_back-requires-clause-keeps : goal.put_back-requires-clause-keeps
put_back-requires-clause-keeps g c = lane_keeps (key_of c.args.row.now) c.args.seat.now g.note unchanged c.args.deque c.args.lane c.requires.1.1

pub returns : goal.returns
returns g c = has_put (key_of c.args.row.now) c.args.seat.now g.note unchanged (c.args.deque.0 + 2) []
    (lane_left (key_of c.args.row.now) c.args.seat.now g.note unchanged c.args.deque c.args.lane c.requires.1.1) c.put_back.new.seat c.put_back.ensures.seat
