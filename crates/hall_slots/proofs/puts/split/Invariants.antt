-- The seat gives a place to the seat of the worker who enters.
use Rattle.hall_slots.specs.Entering.{giving_note, worker_note}
use Rattle.hall_slots.proofs.puts.split.Given as goal

abbrev pub ghosts-split_seat : goal.ghosts-split_seat
ghosts-split_seat a = record { left = λ hand. giving_note hand.note; right = λ hand. worker_note hand.note.enters }
