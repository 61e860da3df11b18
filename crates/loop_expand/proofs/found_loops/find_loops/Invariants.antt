use Rattle.std.proofs.Common.{◌≡◌, length}
use Rattle.loop_expand.specs.Reading.{loops_of}
use Rattle.loop_expand.specs.Found.{loops_in_front}
use Rattle.loop_expand.specs.View.{loops_shown}
use Rattle.loop_expand.proofs.found_loops.find_loops.Given as goal

abbrev pub invariant-tokens : goal.invariant-tokens
invariant-tokens l = loops_in_front (loops_shown l.loops.items) (loops_of l.rest) ≡ loops_of l.tokens

abbrev pub decreases-tokens : goal.decreases-tokens
decreases-tokens l = length l.rest
