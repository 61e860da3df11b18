use Rattle.depth_first_list.proofs.Weights as law
use Rattle.depth_first_list.proofs.laws.forks_take_records.Goals as goal

pub returns : goal.returns
returns c = law.forks_take_records
