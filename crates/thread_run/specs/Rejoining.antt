-- What must stand in the row of a thread where the `split` of a node ends.
use Rattle.std.specs.Prelude.{List, Option, Some}
use Rattle.node_table.specs.Table.{Kind, split_node}
use Rattle.thread_state.specs.Passed.Rows.{Entry}
use Rattle.thread_state.specs.Conditions.{CanRejoin}

-- the two parts of the `split` can be put together; of other nodes nothing is asked
abbrev pub CanRejoinAt : List Entry → Option Kind → Type 0
CanRejoinAt row (Some (split_node s c l r body)) = CanRejoin row s l r
CanRejoinAt row other = Unit {0}
