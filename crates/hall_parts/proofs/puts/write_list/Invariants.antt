-- The seat notes what it is to note.
use Rattle.hall_parts.proofs.puts.write_list.Given as goal

abbrev pub ghosts-put_back_showing : goal.ghosts-put_back_showing
ghosts-put_back_showing g a = record { note = λ hand. g.note; shows = λ slot value. value }
