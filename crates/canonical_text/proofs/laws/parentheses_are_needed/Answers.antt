use Rattle.canonical_text.proofs.Parentheses.{parentheses}
use Rattle.canonical_text.proofs.laws.parentheses_are_needed.Goals as goal

pub returns : goal.returns
returns c = parentheses c.lines_do_not_matter.ensures
