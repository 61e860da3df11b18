-- The tally has them.

use Rattle.trail_check.proofs.checker.Checker.numbers.Goals as goal

pub returns : goal.returns
returns c = λ s limits run m stands. stands.tally.numbers
