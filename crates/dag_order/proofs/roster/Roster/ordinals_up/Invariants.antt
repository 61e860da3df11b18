-- The ordinals so far lead from the thread to the one that is looked at, which comes before all that was
-- looked at.
use Rattle.std.proofs.Common.{◌+◌, ◌*◌}
use Rattle.containers.specs.BoundedList.{entries}
use Rattle.dag_order.specs.Births.{Leads}
use Rattle.dag_order.proofs.roster.Roster.ordinals_up.Given as goal

abbrev pub invariant-way : goal.invariant-way
invariant-way l = Leads l.self l.fn.id (entries l.ordinals) l.at

abbrev pub decreases-way : goal.decreases-way
decreases-way l = l.at.period * 4294967296 + l.at.nth
