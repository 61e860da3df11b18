use Rattle.std.proofs.Common.{◌-◌, length}
use Rattle.containers.specs.BoundedList.{entries}
use Rattle.dag_order.specs.Births.{Leads}
use Rattle.prefix_laws.specs.Listing.{births_behind}
use Rattle.prefix_laws.proofs.labels.ordinals_up.Given as goal

-- the ordinals so far lead from the thread to the one that is looked at
abbrev pub invariant-way : goal.invariant-way
invariant-way l = Leads (births_behind l.births) l.fn.id (entries l.ordinals) l.at

-- no list has more ordinals than places
abbrev pub decreases-way : goal.decreases-way
decreases-way l = 4294967296 - length (entries l.ordinals)
