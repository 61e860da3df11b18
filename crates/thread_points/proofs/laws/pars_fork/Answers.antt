use Rattle.thread_points.proofs.Alone.{par_forks}
use Rattle.thread_points.proofs.laws.pars_fork.Goals as goal

pub returns : goal.returns
returns c = λ setting line a b rest s running below. par_forks setting line a b rest s running below
