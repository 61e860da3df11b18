use Rattle.par_text.proofs.Verdicts.{has_verdict}
use Rattle.par_text.proofs.laws.bytes_have_a_verdict.Goals as goal

pub returns : goal.returns
returns c = has_verdict
