use Rattle.std.proofs.Common.{◌≡◌, ◌<◌, ℕ}
use Rattle.std.specs.Prelude.{None}
use Rattle.open_periods.specs.Tables.{seat_at}
use Rattle.dfd_core.proofs.run.Core.are_all_idle.Given as goal

-- none of the workers so far owns a deque
abbrev pub invariant-workers : goal.invariant-workers
invariant-workers l = (worker : ℕ) → worker < l.worker → seat_at l.self.scheduler.table worker ≡ None
