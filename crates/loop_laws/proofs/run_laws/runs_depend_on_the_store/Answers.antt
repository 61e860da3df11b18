use Rattle.loop_laws.proofs.Concluding.{same_outcome}
use Rattle.loop_laws.proofs.run_laws.runs_depend_on_the_store.Goals as goal

pub returns : goal.returns
returns c = λ setting b s t e f g kl kr. same_outcome setting b s t e f g kl kr
