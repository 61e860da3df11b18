use Rattle.dfd_laws.proofs.Headline as law
use Rattle.dfd_laws.proofs.laws.plays_with_room_finish.Goals as goal

pub returns : goal.returns
returns c = λ command p ranges owned. law.plays_with_room_finish command p ranges
