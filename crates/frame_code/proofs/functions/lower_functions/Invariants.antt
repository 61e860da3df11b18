use Rattle.std.proofs.Common.{◌≡◌, ◌+◌, length, drop}
use Rattle.block_check.specs.Shown.{funcs_tree}
use Rattle.frame_code.specs.Numbers.{func_names}
use Rattle.accepted_source.specs.Sizes.{functions_size}
use Rattle.node_table.specs.Shown.{nodes_shown, funcs_shown}
use Rattle.frame_code.proofs.Gathering.{Gathered}
use Rattle.frame_code.proofs.functions.lower_functions.Given as goal

abbrev pub invariant-loop-func : goal.invariant-loop-func
invariant-loop-func l =
    Gathered (func_names l.functions.funcs.now) (nodes_shown l.nodes.items) (funcs_tree l.functions.funcs.now) (funcs_tree (drop l.func-index l.functions.funcs.now)) (funcs_shown l.codes.items)
    × (length (nodes_shown l.nodes.items) + functions_size (funcs_tree (drop l.func-index l.functions.funcs.now)) ≡ functions_size (funcs_tree l.functions.funcs.now))
