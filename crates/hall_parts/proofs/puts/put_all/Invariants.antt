use Rattle.hall_parts.specs.Puts.{note_of}
use Rattle.hall_parts.proofs.puts.put_all.Given as goal

abbrev pub ghost-write_all : goal.ghost-write_all
ghost-write_all a = note_of a.seat.now.hand.note a._noting
