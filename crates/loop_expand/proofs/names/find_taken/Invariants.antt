use Rattle.std.proofs.Common.{ℕ, length, Option}
use Rattle.loop_expand.specs.Expansion.{IsTaken}
use Rattle.loop_expand.specs.Answers.{FindsFirst}
use Rattle.loop_expand.proofs.names.find_taken.Given as goal

abbrev pub invariant-tokens : goal.invariant-tokens
invariant-tokens l = (found : Option ℕ) → FindsFirst found (IsTaken l.text l.count) l.rest → FindsFirst found (IsTaken l.text l.count) l.tokens

abbrev pub decreases-tokens : goal.decreases-tokens
decreases-tokens l = length l.rest
