use Rattle.worker_entry.proofs.Closed.{owner_closes}
use Rattle.worker_entry.proofs.ends.close_owner.Goals as goal

pub returns-in-Ok-clause-closed : goal.returns-in-Ok-clause-closed
returns-in-Ok-clause-closed c = owner_closes c.args.hall c.args.last c.let_go.new.seat c.in-Ok.end c.close_over.result c.requires.alone
    c.in-Ok.ensures.seat c.close_over.ensures
