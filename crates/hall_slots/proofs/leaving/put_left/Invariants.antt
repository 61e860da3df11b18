-- The seat has left.
use Rattle.hall_slots.specs.Leaving.{left_note}
use Rattle.hall_slots.proofs.leaving.put_left.Given as goal

abbrev pub ghosts-put_back : goal.ghosts-put_back
ghosts-put_back a = record { note = λ hand. left_note hand.note; shows = λ slot value. value }
