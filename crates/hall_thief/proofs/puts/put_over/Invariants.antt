-- The seat notes its theft.
use Rattle.hall_thief.specs.Thefts.{stolen_note}
use Rattle.hall_thief.proofs.puts.put_over.Given as goal

abbrev pub ghost-write_over : goal.ghost-write_over
ghost-write_over a = stolen_note a.seat.now.hand.note a.deque a.list.part.begun
