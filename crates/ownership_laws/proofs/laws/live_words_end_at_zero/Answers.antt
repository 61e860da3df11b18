use Rattle.ownership_laws.proofs.Owned.{live_at_end}
use Rattle.ownership_laws.proofs.laws.live_words_end_at_zero.Goals as goal

pub returns : goal.returns
returns c = λ setting owned. live_at_end setting owned
