use Rattle.std.proofs.Common.{◌↔◌, ◌+◌, ◌*◌, drop}
use Rattle.flat_code.specs.Fits.{AllFit, FitsNode}
use Rattle.flat_code.specs.Shown.{table_of}
use Rattle.flat_code.proofs.fitting.+fits.Given as goal

abbrev pub decreases-fits_list : goal.decreases-fits_list
decreases-fits_list l = 3 * l.depth + 2

abbrev pub decreases-fits_node : goal.decreases-fits_node
decreases-fits_node l = 3 * l.depth + 1

abbrev pub decreases-fits_kind : goal.decreases-fits_kind
decreases-fits_kind l = 3 * l.depth + 3

abbrev pub invariant-fits_list-loop-number : goal.invariant-fits_list-loop-number
invariant-fits_list-loop-number l =
    AllFit (FitsNode (table_of l.scope) l.scope.slots l.scope.size l.depth) (drop l.number-index l.numbers)
    ↔ AllFit (FitsNode (table_of l.scope) l.scope.slots l.scope.size l.depth) l.numbers
