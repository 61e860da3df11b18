use Rattle.loop_laws.proofs.Concluding.{same_peak}
use Rattle.loop_laws.proofs.run_laws.peaks_depend_on_the_store.Goals as goal

pub returns : goal.returns
returns c = λ setting b s t e f g kl kr. same_peak setting b s t e f g kl kr
