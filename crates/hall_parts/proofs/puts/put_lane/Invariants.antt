use Rattle.hall_parts.specs.Puts.{note_of}
use Rattle.hall_parts.proofs.puts.put_lane.Given as goal

abbrev pub ghost-write_lane : goal.ghost-write_lane
ghost-write_lane a = note_of a.seat.now.hand.note a._noting
