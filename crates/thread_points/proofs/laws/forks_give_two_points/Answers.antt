use Rattle.thread_points.proofs.Walking.{forked_points}
use Rattle.thread_points.proofs.laws.forks_give_two_points.Goals as goal

pub returns : goal.returns
returns c = λ setting f own s at k. forked_points setting f own s at k
