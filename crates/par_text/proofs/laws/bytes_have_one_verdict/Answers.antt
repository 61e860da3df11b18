use Rattle.par_text.proofs.Verdicts.{one_verdict}
use Rattle.par_text.proofs.laws.bytes_have_one_verdict.Goals as goal

pub returns : goal.returns
returns c = one_verdict
