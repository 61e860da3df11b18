use Rattle.std.proofs.Common.{refl, ap, subst}
use Rattle.std.specs.Prelude.{Some, Err}
use Rattle.play_rules.specs.declared.stop.Stop.{Stop}
use Rattle.hall_owner.specs.Yielding.{ClosesWith}
use Rattle.hall_owner.specs.declared.leaving.LastRefused.{LastRefused}
use Rattle.worker_entry.proofs.ends.let_go.Goals as goal

pub returns-in-Ok-clause-seat : goal.returns-in-Ok-clause-seat
returns-in-Ok-clause-seat c = (
  c.in-Some.deque,
  record {
    owned = c.in-Some.is;
    list = c.in-Ok.ensures.seat.0;
    kept = c.in-Ok.ensures.seat.1;
    leaves = c.in-Ok.ensures.seat.2;
    worker = refl;
    places = refl;
    idle = refl;
    stop = refl;
    unfinished = c.in-Ok.ensures.unfinished;
  },
)

pub returns-in-Err-OutOfMemory-clause-seat : goal.returns-in-Err-OutOfMemory-clause-seat
returns-in-Err-OutOfMemory-clause-seat c =
    let short = subst (λ (e : LastRefused). ClosesWith c.args.seat.now.place c.in-Some.deque (Err e) c.close_deque.new.seat)
    c.in-Err-OutOfMemory.field-0-is c.in-Err-OutOfMemory.ensures.seat in record {
      deque = c.in-Some.deque;
      owned = c.in-Some.is;
      list = short.0;
      end = short.1;
      kept = short.2;
      leaves = short.3;
      worker = refl;
      places = refl;
      still = refl;
      stop = ap (λ (s : Stop). Some s) c.stop_then.ensures;
    }

pub returns-in-Err-NotOver-clause-seat : goal.returns-in-Err-NotOver-clause-seat
returns-in-Err-NotOver-clause-seat c =
    let found = subst (λ (e : LastRefused). ClosesWith c.args.seat.now.place c.in-Some.deque (Err e) c.close_deque.new.seat)
    c.in-Err-NotOver.field-0-is c.in-Err-NotOver.ensures.seat in record {
      deque = c.in-Some.deque;
      owned = c.in-Some.is;
      list = found.0;
      open_list = found.1;
      leaves = found.2;
      same = record { worker = refl; places = refl; owned = refl; stop = refl };
    }
