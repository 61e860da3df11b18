use Rattle.std.proofs.Common.{sym, subst}
use Rattle.std.specs.Prelude.{is_some}
use Rattle.depth_first_list.specs.QuotaWords.{quota_words}
use Rattle.node_table.specs.Codes.{code_shown}
use Rattle.scheduler_state.specs.Held.{held}
use Rattle.dfd_core.specs.Cores.{end_of, terms_at, words_of_turn}
use Rattle.dfd_core.specs.Steps.{Comes}
use Rattle.dfd_core.proofs.Taking.{word_drawn}
use Rattle.trail_record.specs.Turns.{RecordsTo}
use Rattle.trail_record.proofs.Telling.{records_to}
use Rattle.trail_record.proofs.recorder.record_turn.Goals as goal

pub returns-clause-turn : goal.returns-clause-turn
returns-clause-turn g c = let p = c.draw_turn-turn.ensures in let after = c.step-stepped.new.self in record {
  drawn = words_of_turn (is_some c.draw_turn-turn.result.word);
  later_is = p.later_is;
  turns = λ s run m at.
      let steps = c.step-stepped.ensures.steps c.requires s run m at in
      subst (λ e. RecordsTo s (terms_at c.args.core.now) (g.C.Choices.coming c.args.choices.now) (words_of_turn (is_some c.draw_turn-turn.result.word)) after run m e (end_of after))
      (sym c.event_recorded.ensures)
      (records_to s c.args.core.now after c.step-stepped.ensures.setting.2 (g.C.Choices.coming c.args.choices.now) c.draw_turn-turn.result.worker c.draw_turn-turn.result.word
      c.victim_of-victim.result c.requires run m at (p.first s run m at) (p.draws s run m at)
      (word_drawn (g.C.Choices.coming c.args.choices.now) c.draw_turn-turn.result.word p.word) (c.victim_of-victim.ensures s run m at)
      c.step-stepped.result steps.0 steps.1
      (subst (λ w. Comes (code_shown after.code) (quota_words after.k) (terms_at after) (held after.scheduler) after.end s c.draw_turn-turn.result.worker w run m steps.0)
      c.unwrap_or.ensures steps.2)
      (c.step-stepped.ensures.nothing c.requires s run m at) c.step-stepped.ensures.over);
}
