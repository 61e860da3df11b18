use Rattle.std.proofs.Common.{drop}
use Rattle.par_tree.specs.View.{body_tree}
use Rattle.block_check.specs.Shown.{env_shown}
use Rattle.block_check.specs.Forks.{forks_in_body}
use Rattle.block_check.proofs.Seeking.{Left}
use Rattle.block_check.proofs.search.+seek.Given as goal

abbrev pub invariant-seek_in_list-loop-stmt : goal.invariant-seek_in_list-loop-stmt
invariant-seek_in_list-loop-stmt l =
    Left l.visible (env_shown l.initial.names) (env_shown l.names) (forks_in_body (env_shown l.initial.names) (body_tree l.body)) (forks_in_body (env_shown l.names) (body_tree (drop l.stmt-index l.body))) l.initial.number l.number
