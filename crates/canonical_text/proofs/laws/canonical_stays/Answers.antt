use Rattle.canonical_text.proofs.ReadBack.{canonical_again}
use Rattle.canonical_text.proofs.laws.canonical_stays.Goals as goal

pub returns : goal.returns
returns c = canonical_again
