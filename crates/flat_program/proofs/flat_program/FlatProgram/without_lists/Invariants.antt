use Rattle.std.proofs.Common.{◌≡◌, ◌*◌, List, length}
use Rattle.std.specs.Prelude.{All}
use Rattle.node_table.specs.Codes.{code_shown}
use Rattle.flat_program.specs.declared.flat_list.FlatList.{FlatList}
use Rattle.flat_program.specs.Programs.{StartsIn}
use Rattle.flat_program.proofs.flat_program.FlatProgram.without_lists.Given as goal

-- no list is asked for yet, and each node that was counted has its two entries
abbrev pub invariant-loop-number : goal.invariant-loop-number
invariant-loop-number l = ((ls : List FlatList) → All (StartsIn (code_shown l.fn.table) ls) l.starts.items) × (length l.starts.items ≡ l._number * 2)
