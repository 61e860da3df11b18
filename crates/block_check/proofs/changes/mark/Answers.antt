use Rattle.std.proofs.Common.{arith}
use Rattle.std.proofs.lemmas.Grind.{common_steps}
use Rattle.std.proofs.lemmas.List.Edits.{map_over_more}
use Rattle.block_check.specs.Shown.{marked_entry}
use Rattle.block_check.proofs.Entries.{marked_all}
use Rattle.block_check.proofs.changes.mark.Goals as goal

pub loop-entry-preserved : goal.loop-entry-preserved
loop-entry-preserved c = grind (arith, common_steps, map_over_more (marked_entry c.args.name.now c.args.held))

pub returns : goal.returns
returns c = marked_all c.args.name.now c.args.held c.args.env.now c.loop-entry.env c.loop-entry.entry-index c.loop-entry-test.false c.loop-entry.invariant
