use Rattle.par_ownership.proofs.Law.{tells_program}
use Rattle.par_ownership.proofs.laws.walk_is_ownership.Goals as goal

pub returns : goal.returns
returns c = λ p. ((tells_program p).sound, (tells_program p).complete)
