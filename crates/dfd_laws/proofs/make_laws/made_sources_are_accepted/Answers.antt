use Rattle.dfd_laws.proofs.MadeAnswers.{made_sources_are_accepted}
use Rattle.dfd_laws.proofs.make_laws.made_sources_are_accepted.Goals as goal

pub returns : goal.returns
returns c = made_sources_are_accepted
