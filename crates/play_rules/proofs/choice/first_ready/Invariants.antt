use Rattle.std.proofs.Common.{◌<◌, ◌+◌, ◌%◌, ℕ}
use Rattle.play_rules.specs.Choices.{IsReadyAt}
use Rattle.play_rules.proofs.choice.first_ready.Given as goal

abbrev pub invariant-loop-turn : goal.invariant-loop-turn
invariant-loop-turn g l = (e : ℕ) → e < l.turn → ¬ IsReadyAt l.list.deques ((l.word + e) % l.reach)
