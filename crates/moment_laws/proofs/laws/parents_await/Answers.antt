use Rattle.moment_laws.proofs.Parents as law
use Rattle.moment_laws.proofs.laws.parents_await.Goals as goal

pub returns : goal.returns
returns c = law.parents_await
