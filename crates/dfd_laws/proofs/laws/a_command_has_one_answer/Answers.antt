use Rattle.dfd_laws.proofs.OneAnswer.{one_answer}
use Rattle.dfd_laws.proofs.laws.a_command_has_one_answer.Goals as goal

pub returns : goal.returns
returns c = one_answer
