use Rattle.made_laws.proofs.Rules.{made_programs_keep_the_rules}
use Rattle.made_laws.proofs.laws.made_programs_keep_the_rules.Goals as goal

pub returns : goal.returns
returns c = made_programs_keep_the_rules
