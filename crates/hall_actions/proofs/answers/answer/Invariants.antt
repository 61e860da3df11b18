-- The seat is answered the end that is kept in the list.
use Rattle.hall_slots.specs.Halting.{end_in}
use Rattle.hall_actions.proofs.answers.answer.Given as goal

abbrev pub ghosts-put_back : goal.ghosts-put_back
ghosts-put_back a = record { note = λ hand. record hand.note { answered = end_in a.value }; shows = λ slot value. value }
