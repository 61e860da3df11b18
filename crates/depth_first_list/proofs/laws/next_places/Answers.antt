use Rattle.depth_first_list.proofs.NextPlaces as law
use Rattle.depth_first_list.proofs.laws.next_places.Goals as goal

pub returns : goal.returns
returns c = law.next_places
