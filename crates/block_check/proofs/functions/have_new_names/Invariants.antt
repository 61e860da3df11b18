use Rattle.std.proofs.Common.{◌≡◌, take, drop, []}
use Rattle.par_ownership.specs.Walk.{names_refusal}
use Rattle.block_check.specs.Shown.{funcs_tree}
use Rattle.block_check.proofs.functions.have_new_names.Given as goal

abbrev pub invariant-loop-i : goal.invariant-loop-i
invariant-loop-i l = names_refusal (funcs_tree (take l.i l.funcs)) (funcs_tree (drop l.i l.funcs)) ≡ names_refusal [] (funcs_tree l.funcs)
