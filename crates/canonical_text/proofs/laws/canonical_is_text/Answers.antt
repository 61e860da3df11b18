use Rattle.canonical_text.proofs.ReadBack.{canonical_reads_back}
use Rattle.canonical_text.proofs.laws.canonical_is_text.Goals as goal

pub returns : goal.returns
returns c = canonical_reads_back
