-- The seat notes its theft.
use Rattle.hall_thief.specs.Thefts.{stolen_note}
use Rattle.hall_thief.proofs.puts.put_beside.Given as goal

abbrev pub ghost-write_beside : goal.ghost-write_beside
ghost-write_beside a = stolen_note a.seat.now.hand.note a.deque a.list.part.begun
