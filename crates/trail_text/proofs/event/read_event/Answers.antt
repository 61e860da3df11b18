use Rattle.std.proofs.Common.{arith}
use Rattle.trail_text.proofs.Tails.{no_kind_after}
use Rattle.trail_text.proofs.event.read_event.Goals as goal

pub returns-in_err-kind : goal.returns-in_err-kind
returns-in_err-kind c = rw c.from_residual-in_err-kind.ensures
    (no_kind_after c.args.p c.args.bytes.now c.in_ok-worker.worker c.in_ok-worker.after.now (omega arith) c.in_ok-worker.ensures.0 c.in_ok-worker.ensures.1
    c.in_err-kind.ensures)
