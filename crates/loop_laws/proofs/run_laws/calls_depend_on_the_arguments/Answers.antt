use Rattle.loop_laws.proofs.Concluding.{same_answer}
use Rattle.loop_laws.proofs.run_laws.calls_depend_on_the_arguments.Goals as goal

pub returns : goal.returns
returns c = λ setting line line' x y args args' g h h' s t e plain fs ft kl kr. same_answer setting line line' x y args args' g h h' s t e plain fs ft kl kr
