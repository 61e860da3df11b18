use Rattle.ownership_laws.proofs.Owned.{holds_rules}
use Rattle.ownership_laws.proofs.laws.runs_hold_what_the_rules_say.Goals as goal

pub returns : goal.returns
returns c = λ setting owned b env after s owns running holds. holds_rules setting owned b env after s owns running holds
