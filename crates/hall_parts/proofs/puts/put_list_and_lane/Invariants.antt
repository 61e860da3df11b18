use Rattle.hall_parts.specs.Puts.{note_of}
use Rattle.hall_parts.proofs.puts.put_list_and_lane.Given as goal

abbrev pub ghost-write_list : goal.ghost-write_list
ghost-write_list a = note_of a.seat.now.hand.note a._noting
