use Rattle.loop_expand.proofs.Answered.{one_answer}
use Rattle.loop_expand.proofs.laws.a_text_has_one_answer.Goals as goal

pub returns : goal.returns
returns c = one_answer
