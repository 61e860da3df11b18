use Rattle.ownership_laws.proofs.Skipping.{skips_all}
use Rattle.ownership_laws.proofs.laws.faulted_threads_skip.Goals as goal

pub returns : goal.returns
returns c = λ setting owned skipped own s parts th over plain. skips_all setting owned skipped own s parts th over plain
