use Rattle.std.proofs.Common.{◌<◌, ◌+◌, ◌%◌, ℕ}
use Rattle.play_rules.specs.Choices.{CanMove}
use Rattle.play_rules.proofs.choice.first_mover.Given as goal

abbrev pub invariant-loop-turn : goal.invariant-loop-turn
invariant-loop-turn l = (e : ℕ) → e < l.turn → ¬ CanMove l.table l.some_ready ((l.word + e) % l.workers)
