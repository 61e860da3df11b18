use Rattle.dfd_core.proofs.Bounded.{is_lawful, is_bounded, is_marked}
use Rattle.dfd_core.proofs.laws.cores_are_lawful.Goals as goal

pub returns-clause-lawful : goal.returns-clause-lawful
returns-clause-lawful c = λ setting run m at. is_lawful c.args.core.now setting run m at

pub returns-clause-bounded : goal.returns-clause-bounded
returns-clause-bounded c = λ setting run m n at prefix. is_bounded c.args.core.now setting run m at n prefix

pub returns-clause-marked : goal.returns-clause-marked
returns-clause-marked c = λ setting run m at. is_marked c.args.core.now setting run m at
