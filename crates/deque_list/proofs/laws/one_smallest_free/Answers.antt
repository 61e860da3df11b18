use Rattle.deque_list.proofs.LawLemmas as law
use Rattle.deque_list.proofs.laws.one_smallest_free.Goals as goal

pub returns : goal.returns
returns c = law.one_smallest_free
