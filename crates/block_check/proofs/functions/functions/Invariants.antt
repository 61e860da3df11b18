use Rattle.std.proofs.Common.{◌≡◌, drop}
use Rattle.par_ownership.specs.Walk.{funcs_refusal}
use Rattle.block_check.specs.Shown.{funcs_tree}
use Rattle.block_check.proofs.functions.functions.Given as goal

abbrev pub invariant-loop-func : goal.invariant-loop-func
invariant-loop-func l = funcs_refusal (funcs_tree l.funcs) (funcs_tree (drop l.func-index l.funcs)) ≡ funcs_refusal (funcs_tree l.funcs) (funcs_tree l.funcs)
