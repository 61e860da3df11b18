-- The worker whom the list names last enters by the seat.
use Rattle.hall_slots.specs.Entering.{entering_note, last_in}
use Rattle.hall_slots.proofs.puts.put_named.Given as goal

abbrev pub ghosts-put_back : goal.ghosts-put_back
ghosts-put_back a = record { note = λ hand. entering_note hand.note (last_in a.value); shows = λ slot value. value }
