use Rattle.turn_table.proofs.Alone as law
use Rattle.turn_table.proofs.place_laws.lone_seats_are_free.Goals as goal

pub returns : goal.returns
returns g c = law.lone_seats_are_free
