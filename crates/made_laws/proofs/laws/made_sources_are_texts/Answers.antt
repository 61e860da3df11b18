use Rattle.made_laws.proofs.Texts.{made_sources_are_texts}
use Rattle.made_laws.proofs.laws.made_sources_are_texts.Goals as goal

pub returns : goal.returns
returns c = made_sources_are_texts
