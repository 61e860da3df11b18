use Rattle.moment_laws.proofs.Reordered as law
use Rattle.moment_laws.proofs.laws.order_is_of_no_account.Goals as goal

pub returns : goal.returns
returns c = law.order_is_of_no_account
