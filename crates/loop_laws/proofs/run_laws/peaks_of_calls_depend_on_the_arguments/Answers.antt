use Rattle.loop_laws.proofs.Concluding.{same_call_peak}
use Rattle.loop_laws.proofs.run_laws.peaks_of_calls_depend_on_the_arguments.Goals as goal

pub returns : goal.returns
returns c = λ setting line line' x y args args' g h h' s t e plain fs ft kl kr. same_call_peak setting line line' x y args args' g h h' s t e plain fs ft kl kr
