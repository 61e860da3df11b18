use Rattle.dfd_laws.proofs.Headline as law
use Rattle.dfd_laws.proofs.laws.summaries_are_bounded.Goals as goal

pub returns : goal.returns
returns c = λ command bytes p ranges owned. law.summaries_are_bounded command p ranges bytes
