use Rattle.std.proofs.Common.{◌∙◌}
use Rattle.par_names.specs.Named.{body_of}
use Rattle.par_names.specs.Rows.{rows_tree}
use Rattle.block_check.specs.Forks.{takes_block, assigns_integer}
use Rattle.block_check.proofs.Taken.{names_same}
use Rattle.block_check.proofs.sets.sets_of.Goals as goal

pub returns : goal.returns
returns c =
    let fork = c.args.fork.now in
    let left = rows_tree fork.left.now in
    record {
      left_blocks = c.in_ok-left_blocks.ensures ∙ names_same takes_block c.deref-3.result.now fork.names (body_of c.in_ok-left.left) left c.deref-3.ensures.value c.in_ok-left.ensures;
      right_blocks = c.in_ok-right_blocks.ensures ∙ names_same takes_block c.deref-4.result.now fork.names (body_of c.in_ok-right.right) (rows_tree fork.right.now) c.deref-4.ensures.value c.in_ok-right.ensures;
      left_assigned = c.in_ok-left_assigned.ensures ∙ names_same assigns_integer c.deref-5.result.now fork.names (body_of c.in_ok-left.left) left c.deref-5.ensures.value c.in_ok-left.ensures;
    }
