use Rattle.std.proofs.Common.{◌≡◌, ◌++◌, drop}
use Rattle.par_names.specs.Sets.{names_behind}
use Rattle.frame_code.specs.Scopes.{names_tree}
use Rattle.frame_code.proofs.branches.bytes_of.Given as goal

abbrev pub invariant-loop-name : goal.invariant-loop-name
invariant-loop-name l = names_behind l.found.items ++ names_tree (drop l.name-index l.names) ≡ names_tree l.names
