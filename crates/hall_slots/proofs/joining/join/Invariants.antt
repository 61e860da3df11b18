-- The seat has the places of both.
use Rattle.turn_table.specs.Tables.{key_of}
use Rattle.hall_slots.specs.declared.key.HallKey.{HallKey}
use Rattle.hall_slots.specs.Leaving.{with_places}
use Rattle.hall_slots.proofs.joining.join.Given as goal

abbrev pub ghosts-join_seat : goal.ghosts-join_seat
ghosts-join_seat a = record { note = λ hand other. with_places (HallKey.workers (key_of a.self.now)) hand.note other.note }
