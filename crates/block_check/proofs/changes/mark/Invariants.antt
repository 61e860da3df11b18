use Rattle.std.proofs.Common.{◌≡◌, ◌++◌, map, take, drop}
use Rattle.block_check.specs.Shown.{marked_entry}
use Rattle.block_check.proofs.changes.mark.Given as goal

abbrev pub invariant-loop-entry : goal.invariant-loop-entry
invariant-loop-entry l = l.env ≡ map (marked_entry l.name l.held) (take l.entry-index l.initial.env) ++ drop l.entry-index l.initial.env
