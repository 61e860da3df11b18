use Rattle.std.proofs.Common.{take}
use Rattle.containers.specs.BoundedList.{entries}
use Rattle.prefix_laws.specs.Listing.{births_behind}
use Rattle.prefix_laws.specs.Naming.{ArePlaced}
use Rattle.prefix_laws.proofs.booked.places_of.Given as goal

-- the places of the first actions are there
abbrev pub invariant-actions : goal.invariant-actions
invariant-actions l = ArePlaced (births_behind l.births) (entries l.names) (take l.rank (entries l.book)) (entries l.places)
