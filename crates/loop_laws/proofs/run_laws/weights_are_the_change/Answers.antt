use Rattle.loop_laws.proofs.Weighing.{changed_by_weights}
use Rattle.loop_laws.proofs.run_laws.weights_are_the_change.Goals as goal

pub returns : goal.returns
returns c = λ setting owned b env after s owns running holds. changed_by_weights setting owned b env after s owns running holds
