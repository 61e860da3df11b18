use Rattle.std.proofs.Common.{◌≡◌, ◌+◌, ◌*◌, ◌++◌, length}
use Rattle.flat_code.specs.Fits.{AllFit, FitsNode}
use Rattle.flat_code.specs.Made.{list_made, node_made}
use Rattle.flat_code.specs.Shown.{frames_shown, places_shown, table_of}
use Rattle.flat_code.proofs.statements.+lower.Given as goal

-- at one depth: the arms of an `if` and a list inside a statement come after a statement of that depth, and a list before its statements
abbrev pub decreases-lower_list : goal.decreases-lower_list
decreases-lower_list l = 5 * l.depth + 2

abbrev pub decreases-lower_node : goal.decreases-lower_node
decreases-lower_node l = 5 * l.depth + 1

abbrev pub decreases-lower_kind : goal.decreases-lower_kind
decreases-lower_kind l = 5 * l.depth + 5

abbrev pub decreases-lower_if : goal.decreases-lower_if
decreases-lower_if l = 5 * l.depth + 4

abbrev pub decreases-lower_while : goal.decreases-lower_while
decreases-lower_while l = 5 * l.depth + 4

abbrev pub decreases-lower_arms : goal.decreases-lower_arms
decreases-lower_arms l = 5 * l.depth + 3

-- the places so far, and those of the statements that are left, are those of all statements
abbrev pub invariant-lower_list-nodes : goal.invariant-lower_list-nodes
invariant-lower_list-nodes l = record {
  all :
      places_shown l.places.items
      ++ list_made (node_made (table_of l.scope) l.scope.slots l.depth) l.rest l.list l.next (frames_shown l.behind)
      (l.place + length (places_shown l.places.items))
      ≡ list_made (node_made (table_of l.scope) l.scope.slots l.depth) l.numbers l.list 0 (frames_shown l.behind) l.place;
  fit : AllFit (FitsNode (table_of l.scope) l.scope.slots l.scope.size l.depth) l.rest;
  count : l.next + length l.rest ≡ length l.numbers;
}

abbrev pub decreases-lower_list-nodes : goal.decreases-lower_list-nodes
decreases-lower_list-nodes l = length l.rest
