-- So many lanes were added.
use Rattle.hall_slots.specs.First.{AddsEmptyLanes}
use Rattle.hall_slots.proofs.opening.add_empty_lanes.Given as goal

abbrev pub invariant-lanes : goal.invariant-lanes
invariant-lanes l = AddsEmptyLanes l.initial.slots.items l._added l.slots.items
