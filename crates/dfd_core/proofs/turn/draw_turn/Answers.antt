use Rattle.std.proofs.Common.{◌≡◌, ℕ, ◌+◌, ap, sym, subst, ◌∙◌, arith}
use Rattle.std.proofs.lemmas.Option.{none-some, same_Some}
use Rattle.open_periods.specs.Passed.Play.{IsFirst, CanMove, words_drawn}
use Rattle.open_periods.specs.Passed.Terms.{machine_of}
use Rattle.dfd_core.specs.Cores.{terms_at, workers_of, words_of_turn}
use Rattle.dfd_core.proofs.turn.draw_turn.Goals as goal

pub returns-then-is_idle : goal.returns-then-is_idle
returns-then-is_idle g c = record {
  below = c.mover-worker.ensures.below;
  first = λ s run m at.
      subst (λ (w : ℕ). IsFirst (workers_of c.args.core.now) w (CanMove (machine_of s (terms_at c.args.core.now)) m) c.mover-worker.result) c.word.ensures.value
      (c.mover-worker.ensures.first s run m at);
  word = λ w is. sym (same_Some _ w is) ∙ c.word-then-is_idle.ensures.value ∙ c.word.ensures.later 0;
  draws = λ s run m at. subst (λ b. words_drawn m c.mover-worker.result ≡ words_of_turn b) c.if-is_idle.true (c.is_idle.ensures s run m at);
  later_is = λ i. c.word-then-is_idle.ensures.later i ∙ c.word.ensures.later (i + 1) ∙ ap (g.C.Choices.coming c.args.choices.now) (omega arith);
}

pub returns : goal.returns
returns g c = record {
  below = c.mover-worker.ensures.below;
  first = λ s run m at.
      subst (λ (w : ℕ). IsFirst (workers_of c.args.core.now) w (CanMove (machine_of s (terms_at c.args.core.now)) m) c.mover-worker.result) c.word.ensures.value
      (c.mover-worker.ensures.first s run m at);
  word = λ w is. absurd (none-some w is);
  draws = λ s run m at. subst (λ b. words_drawn m c.mover-worker.result ≡ words_of_turn b) c.if-is_idle.false (c.is_idle.ensures s run m at);
  later_is = λ i. c.word.ensures.later i ∙ ap (g.C.Choices.coming c.args.choices.now) (omega arith);
}
