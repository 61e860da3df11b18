-- The seat notes its theft.
use Rattle.hall_thief.proofs.puts.write_beside.Given as goal

abbrev pub ghosts-put_back_showing : goal.ghosts-put_back_showing
ghosts-put_back_showing g a = record { note = λ hand. g.note; shows = λ slot value. value }
