use Rattle.thread_map.proofs.WrittenLemmas as law
use Rattle.thread_map.proofs.laws.value_written.Goals as goal

pub returns : goal.returns
returns g c = law.value_written
