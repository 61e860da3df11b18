use Rattle.std.proofs.Common.{◌≡◌, drop}
use Rattle.par_ownership.specs.Ownership.{function_of}
use Rattle.block_check.specs.Shown.{funcs_tree}
use Rattle.block_check.proofs.calls.function_of.Given as goal

abbrev pub invariant-loop-func : goal.invariant-loop-func
invariant-loop-func l = function_of (funcs_tree (drop l.func-index l.funcs)) l.name ≡ function_of (funcs_tree l.funcs) l.name
