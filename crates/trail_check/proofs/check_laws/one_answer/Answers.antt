use Rattle.trail_check.proofs.Outcomes as law
use Rattle.trail_check.proofs.check_laws.one_answer.Goals as goal

pub returns : goal.returns
returns c = law.one_answer
