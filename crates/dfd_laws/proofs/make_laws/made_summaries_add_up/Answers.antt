use Rattle.dfd_laws.proofs.MadeAnswers.{made_summaries_add_up}
use Rattle.dfd_laws.proofs.make_laws.made_summaries_add_up.Goals as goal

pub returns : goal.returns
returns c = made_summaries_add_up
