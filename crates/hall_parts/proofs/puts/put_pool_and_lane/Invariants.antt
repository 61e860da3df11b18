use Rattle.hall_parts.specs.Puts.{note_of}
use Rattle.hall_parts.proofs.puts.put_pool_and_lane.Given as goal

abbrev pub ghost-write_pool : goal.ghost-write_pool
ghost-write_pool a = note_of a.seat.now.hand.note a._noting
