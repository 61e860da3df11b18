use Rattle.std.proofs.Common.{refl, ap, subst}
use Rattle.std.specs.Prelude.{Some, Err}
use Rattle.play_rules.specs.declared.stop.Stop.{Stop}
use Rattle.hall_owner.specs.Yielding.{LeavesWith}
use Rattle.hall_owner.specs.declared.leaving.YieldRefused.{YieldRefused}
use Rattle.worker_entry.proofs.leaving.leave_with_deque.Goals as goal

pub returns-in-Ok-clause-seat : goal.returns-in-Ok-clause-seat
returns-in-Ok-clause-seat c = (
  refl,
  c.in-Some.deque,
  record {
    owned = c.in-Some.is;
    list = c.in-Ok.ensures.seat.0;
    leaves = c.in-Ok.ensures.seat.1;
    unfinished = c.in-Ok.ensures.unfinished;
  },
)

pub returns-in-Err-OutOfMemory-clause-seat : goal.returns-in-Err-OutOfMemory-clause-seat
returns-in-Err-OutOfMemory-clause-seat c =
    let short = subst (λ (e : YieldRefused). LeavesWith c.args.seat.now.place c.in-Some.deque (Err e) c.leave_deque.new.seat)
    c.in-Err-OutOfMemory.field-0-is c.in-Err-OutOfMemory.ensures.seat in record {
      calm = c.requires.calm;
      deque = c.in-Some.deque;
      owned = c.in-Some.is;
      list = short.0;
      leaves = short.1;
      worker = refl;
      places = refl;
      still = refl;
      stop = ap (λ (s : Stop). Some s) c.stop_then.ensures;
    }
