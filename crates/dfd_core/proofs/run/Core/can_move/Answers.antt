use Rattle.std.proofs.Common.{◌↔◌, ℕ, subst}
use Rattle.std.specs.Prelude.{IsTrue}
use Rattle.play_rules.specs.Choices.{SomeReady}
use Rattle.scheduler_state.proofs.Seats.{none_is}
use Rattle.dfd_core.proofs.Turns.{can_move_at}
use Rattle.dfd_core.proofs.run.Core.can_move.Goals as goal

pub returns : goal.returns
returns c = λ s run m at.
    can_move_at _ _ _ _ c.args.self.now.sound c.args.self.now.end (none_is _ c.if-is_some.ensures) s run m at c.args.worker c.some_ready-is_ready.result c.can_move.result
    (subst (λ (n : ℕ). IsTrue c.some_ready-is_ready.result ↔ SomeReady n c.args.self.now.scheduler.list.deques) c.workers.ensures.value c.some_ready-is_ready.ensures)
    c.can_move.ensures
