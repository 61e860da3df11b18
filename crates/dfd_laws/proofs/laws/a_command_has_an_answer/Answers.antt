use Rattle.dfd_laws.proofs.AnAnswer.{an_answer}
use Rattle.dfd_laws.proofs.laws.a_command_has_an_answer.Goals as goal

pub returns : goal.returns
returns c = an_answer
