-- The seat notes the stop.
use Rattle.hall_slots.specs.Stopping.{found_note}
use Rattle.hall_slots.proofs.stopping.put_stopped.Given as goal

abbrev pub ghost-write_stopped : goal.ghost-write_stopped
ghost-write_stopped a = found_note a.seat.now.hand.note a._stop
