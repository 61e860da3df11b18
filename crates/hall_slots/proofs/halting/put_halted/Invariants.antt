-- The seat is answered the end that is kept in the list.
use Rattle.hall_slots.specs.Halting.{halted_note, end_in}
use Rattle.hall_slots.proofs.halting.put_halted.Given as goal

abbrev pub ghosts-put_back : goal.ghosts-put_back
ghosts-put_back a = record { note = λ hand. halted_note hand.note (end_in a.value); shows = λ slot value. value }
