use Rattle.std.proofs.Common.{ap, subst, ◌∙◌, arith}
use Rattle.deque_machine.specs.Play.{IsFirst}
use Rattle.ready_machine.specs.ReadyPlay.{CanGo}
use Rattle.async_core.specs.Cores.{workers_of}
use Rattle.async_core.proofs.Turning.{turns_to}
use Rattle.async_core.proofs.player.turn.Goals as goal

pub returns-clause-turn : goal.returns-clause-turn
returns-clause-turn g c = record {
  later_is = λ i. c.word.ensures.later i ∙ ap (g.C.Choices.coming c.args.choices.now) (omega arith);
  turns = λ s run m at.
      let steps = c.step.ensures.steps c.requires s run m at in
      turns_to s c.args.core.now c.step.new.self c.step.ensures.setting.2 (g.C.Choices.coming c.args.choices.now) c.mover-worker.result
      c.requires run m at
      (subst (λ w. IsFirst (workers_of c.args.core.now) w (CanGo m) c.mover-worker.result) c.word.ensures.value (c.mover-worker.ensures.first s run m at))
      c.step.result steps.0 steps.1 steps.2 (c.step.ensures.nothing c.requires s run m at) c.step.ensures.over;
}
