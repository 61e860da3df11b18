use Rattle.std.proofs.Common.{◌≡◌, ◌+◌, [], length, reverse}
use Rattle.loop_expand.specs.Reading.{scan}
use Rattle.loop_expand.proofs.Scans.{ahead}
use Rattle.loop_expand.proofs.runs.run_length.Given as goal

abbrev pub invariant-tokens : goal.invariant-tokens
invariant-tokens l = (ahead l.count (scan l.rest (reverse l.brackets.items)) ≡ scan l.tokens []) × (l.count + length l.rest ≡ length l.tokens)

abbrev pub decreases-tokens : goal.decreases-tokens
decreases-tokens l = length l.rest
