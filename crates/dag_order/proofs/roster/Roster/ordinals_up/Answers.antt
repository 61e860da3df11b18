-- The way goes on by the birth that was found, and want of memory names no thread.
use Rattle.std.proofs.Common.{sym}
use Rattle.std.proofs.lemmas.Result.{err_from_is_err_and}
use Rattle.containers.specs.BoundedList.{entries}
use Rattle.dag_order.proofs.BirthLaws.{leads_on}
use Rattle.dag_order.proofs.roster.Roster.ordinals_up.Goals as goal

pub returns-in_err-reserve-clause-unknown : goal.returns-in_err-reserve-clause-unknown
returns-in_err-reserve-clause-unknown c =
    let p = err_from_is_err_and c.from_residual.result c.from_residual.ensures.1 in λ unknown is. cc (p.1, p.2)

pub way-preserved : goal.way-preserved
way-preserved c =
    let on = leads_on c.args.self.now c.args.id (entries c.way.ordinals) c.way.at c.in-Some.birth c.way.invariant (sym c.in-Some.ensures.birth) in
    rw (c.add.ensures.entries, c.in_ok-reserve.ensures.entries) on
