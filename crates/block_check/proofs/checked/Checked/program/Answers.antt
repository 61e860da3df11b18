use Rattle.par_tree.specs.View.{program_tree}
use Rattle.block_check.proofs.Accepted.{accepted_owns}
use Rattle.block_check.proofs.checked.Checked.program.Goals as goal

pub returns-clause-owns : goal.returns-clause-owns
returns-clause-owns c = accepted_owns (program_tree c.args.self.now.program) c.args.self.now.accepted
