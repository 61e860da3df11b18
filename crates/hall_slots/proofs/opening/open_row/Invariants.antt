-- The first seat is that of the worker 0, and has all places.
use Rattle.hall_slots.specs.First.{first_note}
use Rattle.hall_slots.proofs.opening.open_row.Given as goal

abbrev pub ghosts-new : goal.ghosts-new
ghosts-new a = record { note = λ blank. first_note a.key.workers }
