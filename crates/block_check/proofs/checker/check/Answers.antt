use Rattle.std.proofs.Common.{refl, sym}
use Rattle.par_tree.specs.View.{program_tree}
use Rattle.block_check.specs.Checked.{error_shown}
use Rattle.block_check.proofs.Accepted.{owns, not_owns}
use Rattle.block_check.proofs.checker.check.Goals as goal

pub returns-in-Ok-None : goal.returns-in-Ok-None
returns-in-Ok-None c = (refl, owns (program_tree c.args.program) (sym (rw c.in-Ok-None.field-0-is at c.in-Ok-None.ensures)))

pub returns-in-Ok-Some : goal.returns-in-Ok-Some
returns-in-Ok-Some c =
    let e = sym (rw c.in-Ok-Some.field-0-is at c.in-Ok-Some.ensures) in
    (refl, e, not_owns (program_tree c.args.program) (error_shown c.in-Ok-Some.error) e)
