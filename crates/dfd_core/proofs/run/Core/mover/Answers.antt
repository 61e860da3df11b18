use Rattle.std.proofs.Common.{◌↔◌, ℕ, ◌<◌, subst}
use Rattle.std.specs.Prelude.{IsTrue}
use Rattle.open_periods.specs.Passed.Play.{IsFirst}
use Rattle.play_rules.specs.Choices.{SomeReady, CanMove}
use Rattle.dfd_core.proofs.Picking.{first_at, somebody_can}
use Rattle.dfd_core.proofs.run.Core.mover.Goals as goal

pub unreachable-requires : goal.unreachable-requires
unreachable-requires c =
    somebody_can _ _ _ _ c.args.self.now.sound c.args.self.now.end c.args.self.now.somewhere c.requires c.args.self.now.some_workers c.some_ready-is_ready.result
    (subst (λ (n : ℕ). IsTrue c.some_ready-is_ready.result ↔ SomeReady n c.args.self.now.scheduler.list.deques) c.workers-workers.ensures.value c.some_ready-is_ready.ensures)
    (subst (λ (n : ℕ). (worker : ℕ) → worker < n → ¬ CanMove c.args.self.now.scheduler.table c.some_ready-is_ready.result worker) c.workers-workers.ensures.value c.in-None.ensures)

pub returns-clause-first : goal.returns-clause-first
returns-clause-first c = λ s run m at.
    first_at _ _ _ _ c.args.self.now.sound c.args.self.now.end s run m at c.some_ready-is_ready.result
    (subst (λ (n : ℕ). IsTrue c.some_ready-is_ready.result ↔ SomeReady n c.args.self.now.scheduler.list.deques) c.workers-workers.ensures.value c.some_ready-is_ready.ensures)
    c.args.word c.in-Some.worker
    (subst (λ (n : ℕ). IsFirst n c.args.word (CanMove c.args.self.now.scheduler.table c.some_ready-is_ready.result) c.in-Some.worker) c.workers-workers.ensures.value c.in-Some.ensures)
