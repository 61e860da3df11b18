use Rattle.deque_list.proofs.LawLemmas as law
use Rattle.deque_list.proofs.laws.inserted_then_removed.Goals as goal

pub returns : goal.returns
returns g c = record { places = law.inserted_then_removed; deques = law.inserted_then_removed }
