-- The seat notes what it is to note.
use Rattle.hall_parts.proofs.puts.write_lane.Given as goal

abbrev pub ghosts-put_back : goal.ghosts-put_back
ghosts-put_back g a = record { note = λ hand. g.note; shows = λ slot value. value }
