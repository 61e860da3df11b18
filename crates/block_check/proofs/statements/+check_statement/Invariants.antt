use Rattle.std.proofs.Common.{◌≡◌, drop}
use Rattle.par_tree.specs.View.{body_tree}
use Rattle.par_ownership.specs.Walk.{walk_all}
use Rattle.block_check.specs.Shown.{env_shown, funcs_tree}
use Rattle.block_check.proofs.statements.+check_statement.Given as goal

abbrev pub invariant-check_statements-loop-stmt : goal.invariant-check_statements-loop-stmt
invariant-check_statements-loop-stmt l =
    walk_all (funcs_tree l.funcs) (body_tree (drop l.stmt-index l.body)) (env_shown l.env) ≡ walk_all (funcs_tree l.funcs) (body_tree l.body) (env_shown l.initial.env)
