use Rattle.async_core.proofs.Underway.{IsUnderWay}
use Rattle.async_core.proofs.player.play_async.Given as goal

abbrev pub invariant-loop : goal.invariant-loop
invariant-loop g l = IsUnderWay (g.C.Choices.coming l.fn.choices) (g.C.Choices.coming l.choices) l.fn.core l.core l.counter
