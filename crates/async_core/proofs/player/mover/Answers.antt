use Rattle.std.proofs.Common.{◌↔◌, ℕ, ◌<◌, subst}
use Rattle.std.specs.Prelude.{IsTrue}
use Rattle.deque_machine.specs.Play.{IsFirst}
use Rattle.play_rules.specs.Choices.{SomeReady, CanMove}
use Rattle.async_core.proofs.Turning.{first_go, somebody_goes}
use Rattle.async_core.proofs.player.mover.Goals as goal

pub unreachable-requires : goal.unreachable-requires
unreachable-requires c =
    somebody_goes _ _ _ _ c.args.core.now.sound c.args.core.now.end c.args.core.now.somewhere c.requires c.args.core.now.some_workers c.some_ready-is_ready.result
    (subst (λ (n : ℕ). IsTrue c.some_ready-is_ready.result ↔ SomeReady n c.args.core.now.scheduler.list.deques) c.workers-workers.ensures.value c.some_ready-is_ready.ensures)
    (subst (λ (n : ℕ). (worker : ℕ) → worker < n → ¬ CanMove c.args.core.now.scheduler.table c.some_ready-is_ready.result worker) c.workers-workers.ensures.value c.in-None.ensures)

pub returns-clause-first : goal.returns-clause-first
returns-clause-first c = λ s run m at.
    first_go _ _ _ _ c.args.core.now.sound c.args.core.now.end s run m at c.some_ready-is_ready.result
    (subst (λ (n : ℕ). IsTrue c.some_ready-is_ready.result ↔ SomeReady n c.args.core.now.scheduler.list.deques) c.workers-workers.ensures.value c.some_ready-is_ready.ensures)
    c.args.word c.in-Some.worker
    (subst (λ (n : ℕ). IsFirst n c.args.word (CanMove c.args.core.now.scheduler.table c.some_ready-is_ready.result) c.in-Some.worker) c.workers-workers.ensures.value c.in-Some.ensures)
