-- The worker is the same, may try again, and is in the middle of its tries.
use Rattle.worker_entry.specs.Seated.{IsIn, IsProgramOf}
use Rattle.hall_threads.specs.Working.{IsSameWorker}
use Rattle.hall_threads.proofs.Underway.{IsUnderWay}
use Rattle.hall_threads.proofs.bounded.work_some.Given as goal

abbrev pub invariant-tries : goal.invariant-tries
invariant-tries g l = IsProgramOf l.hall l.code × IsIn l.hall l.worker.seat × IsSameWorker l.initial.worker.seat l.worker.seat
    × IsUnderWay l.hall (g.C.Choices.coming l.initial.worker.choices) (g.C.Choices.coming l.worker.choices) l.counter l.done l.initial.worker.seat l.worker.seat
