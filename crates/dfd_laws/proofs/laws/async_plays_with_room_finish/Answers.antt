use Rattle.dfd_laws.proofs.AsyncHeadline as law
use Rattle.dfd_laws.proofs.laws.async_plays_with_room_finish.Goals as goal

pub returns : goal.returns
returns c = λ command p ranges owned. law.async_plays_with_room_finish command p ranges
