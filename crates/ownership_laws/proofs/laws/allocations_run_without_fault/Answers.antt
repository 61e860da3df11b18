use Rattle.ownership_laws.proofs.Skipping.{runs_without_fault}
use Rattle.ownership_laws.proofs.laws.allocations_run_without_fault.Goals as goal

pub returns : goal.returns
returns c = λ setting owned f own s at of. runs_without_fault setting owned f own s at of
