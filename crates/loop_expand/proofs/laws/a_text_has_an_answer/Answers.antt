use Rattle.loop_expand.proofs.Answered.{has_answer}
use Rattle.loop_expand.proofs.laws.a_text_has_an_answer.Goals as goal

pub returns : goal.returns
returns c = has_answer
