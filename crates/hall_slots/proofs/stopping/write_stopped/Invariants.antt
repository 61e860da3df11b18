-- The seat notes the stop.
use Rattle.hall_slots.proofs.stopping.write_stopped.Given as goal

abbrev pub ghosts-put_back : goal.ghosts-put_back
ghosts-put_back g a = record { note = λ hand. g.note; shows = λ slot value. value }
