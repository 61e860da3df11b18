use Rattle.std.proofs.Common.{◌∙◌}
use Rattle.std.specs.Prelude.{is_some}
use Rattle.dfd_core.specs.Cores.{words_of_turn}
use Rattle.dfd_core.proofs.Taking.{turns_to, word_drawn}
use Rattle.dfd_core.proofs.player.turn.Goals as goal

pub returns-clause-turn : goal.returns-clause-turn
returns-clause-turn g c = let p = c.draw_turn-turn.ensures in record {
  drawn = words_of_turn (is_some c.draw_turn-turn.result.word);
  later_is = p.later_is;
  turns = λ s run m at.
      let steps = c.step.ensures.steps c.requires s run m at in
      turns_to s c.args.core.now c.step.new.self c.step.ensures.setting.2 (g.C.Choices.coming c.args.choices.now) c.draw_turn-turn.result.worker c.unwrap_or.result
      (is_some c.draw_turn-turn.result.word) c.requires run m at (p.first s run m at) (p.draws s run m at)
      (λ is. c.unwrap_or.ensures ∙ word_drawn (g.C.Choices.coming c.args.choices.now) c.draw_turn-turn.result.word p.word is)
      c.step.result steps.0 steps.1 steps.2 (c.step.ensures.nothing c.requires s run m at) c.step.ensures.over;
}
