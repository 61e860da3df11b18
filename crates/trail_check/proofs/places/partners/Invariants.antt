-- What is known is of the places that were passed, and right if the actions are a depth-first list.
use Rattle.std.proofs.Common.{List}
use Rattle.containers.specs.BoundedList.{entries}
use Rattle.depth_first_list.specs.Actions.{Action}
use Rattle.trail_check.specs.Listed.{AreListed}
use Rattle.trail_check.specs.Passing.{pairs_of}
use Rattle.trail_check.proofs.PlacesPassed.{IsPassing}
use Rattle.trail_check.proofs.Stacks.{Stands}
use Rattle.trail_check.proofs.places.partners.Given as goal

abbrev pub invariant-loop-place : goal.invariant-loop-place
invariant-loop-place l = IsPassing l.place (pairs_of l.pairing)
    × ((list : List Action) → AreListed list (entries l.fn.actions) → Stands list l.place (pairs_of l.pairing))
