use Rattle.canonical_text.proofs.LineLemmas.{same_text}
use Rattle.canonical_text.proofs.laws.lines_do_not_matter.Goals as goal

pub returns : goal.returns
returns c = same_text
