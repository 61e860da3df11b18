use Rattle.deque_list.proofs.LawLemmas as law
use Rattle.deque_list.proofs.laws.top_written.Goals as goal

pub returns : goal.returns
returns g c = record { list = law.top_written; ids = law.top_written_ids }
