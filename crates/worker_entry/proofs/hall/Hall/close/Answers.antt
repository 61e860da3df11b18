use Rattle.std.proofs.Common.{refl, arith}
use Rattle.worker_entry.proofs.Closed.{alone_closes, told_on}
use Rattle.worker_entry.proofs.hall.Hall.close.Goals as goal

pub returns-in-None-clause-closed : goal.returns-in-None-clause-closed
returns-in-None-clause-closed c = let few = c.requires.here.few in let all = c.if-last-self.false in
    alone_closes c.args.self c.args.last c.close_alone.result (omega (arith, few, all)) c.in-None.is c.close_alone.ensures.closed

pub returns-in-None-clause-told : goal.returns-in-None-clause-told
returns-in-None-clause-told c end is = told_on end end c.close_alone.result refl (c.close_alone.ensures.told end is)
