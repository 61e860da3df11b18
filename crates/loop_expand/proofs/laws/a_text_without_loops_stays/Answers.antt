use Rattle.loop_expand.proofs.Answered.{own_expansion}
use Rattle.loop_expand.proofs.laws.a_text_without_loops_stays.Goals as goal

pub returns : goal.returns
returns c = own_expansion
