use Rattle.std.proofs.Common.{◌<◌, ℕ}
use Rattle.play_rules.specs.Choices.{IsReadyAt}
use Rattle.play_rules.proofs.choice.some_ready.Given as goal

abbrev pub invariant-loop-place : goal.invariant-loop-place
invariant-loop-place g l = (p : ℕ) → p < l.place → ¬ IsReadyAt l.list.deques p
