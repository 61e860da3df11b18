use Rattle.ownership_laws.proofs.Keeping.{quiet_keeps}
use Rattle.ownership_laws.proofs.laws.quiet_steps_keep_the_words.Goals as goal

pub returns : goal.returns
returns c = λ setting owned f own s at plain puts same. quiet_keeps setting owned f own s at plain puts same
