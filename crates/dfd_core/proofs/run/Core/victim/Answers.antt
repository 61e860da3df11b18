use Rattle.std.proofs.Common.{ℕ, subst}
use Rattle.std.specs.Prelude.{MatchOption}
use Rattle.open_periods.specs.Passed.Play.{IsFirst}
use Rattle.play_rules.specs.Choices.{IsReadyAt, SomeReady, reach_of}
use Rattle.dfd_core.proofs.Picking.{victim_at}
use Rattle.dfd_core.proofs.run.Core.victim.Goals as goal

pub returns : goal.returns
returns c = λ s run m at.
    victim_at _ _ _ _ c.args.self.now.sound c.args.self.now.end s run m at c.args.word c.first_ready.result
    (subst (λ (n : ℕ). MatchOption c.first_ready.result (¬ SomeReady n c.args.self.now.scheduler.list.deques)
    (IsFirst (reach_of n c.args.self.now.scheduler.list.deques) c.args.word (IsReadyAt c.args.self.now.scheduler.list.deques)))
    c.workers.ensures.value c.first_ready.ensures)
