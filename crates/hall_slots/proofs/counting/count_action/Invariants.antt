-- The seat holds a count below the limit, or has found the steps spent.
use Rattle.turn_table.specs.Tables.{key_of}
use Rattle.hall_slots.specs.Counting.{drew_by}
use Rattle.hall_slots.proofs.counting.count_action.Given as goal

abbrev pub ghosts-count : goal.ghosts-count
ghosts-count a = record { note = λ hand look. drew_by (key_of a.self.now).actions hand.note look }
