use Rattle.std.proofs.Common.{inr, refl, sym, subst}
use Rattle.std.specs.Prelude.{Err}
use Rattle.hall_owner.specs.Yielding.{GivesUp}
use Rattle.play_rules.specs.declared.ends.RunEnd.{RunEnd}
use Rattle.play_rules.specs.declared.stop.Stop.{Stop}
use Rattle.hall_owner.specs.Passed.ActRefused.{ActRefused}
use Rattle.hall_owner.specs.Passed.ActRefusedVariants.{Over, Stopped}
use Rattle.worker_entry.proofs.hall.Hall.give_up.Goals as goal

pub returns-in-Ok-clause-seat : goal.returns-in-Ok-clause-seat
returns-in-Ok-clause-seat c = (
  c.in_default.is,
  c.in-Some-owned.deque,
  refl,
  record {
    owned = c.in-Some-owned.is;
    list = c.in-Ok.ensures.seat.0;
    leaves = c.in-Ok.ensures.seat.2;
    worker = refl;
    places = refl;
    idle = refl;
    stop = refl;
    unfinished = c.in-Ok.ensures.unfinished;
  },
  c.in-Ok.ensures.seat.1,
)

pub returns-in-Err-Over-clause-seat : goal.returns-in-Err-Over-clause-seat
returns-in-Err-Over-clause-seat c = (
  c.in_default.is,
  c.in-Some-owned.deque,
  c.in-Some-owned.is,
  subst (λ (end : RunEnd). GivesUp c.args.seat.now.place c.in-Some-owned.deque (Err (Over end)) c.give_up_deque.new.seat) (sym c.in-Err-Over.end-is)
      (subst (λ (e : ActRefused). GivesUp c.args.seat.now.place c.in-Some-owned.deque (Err e) c.give_up_deque.new.seat) c.in-Err-Over.field-0-is
      c.in-Err-Over.ensures.seat),
  record { worker = refl; places = refl; owned = refl; stop = refl },
)

pub returns-in-Err-Stopped-clause-seat : goal.returns-in-Err-Stopped-clause-seat
returns-in-Err-Stopped-clause-seat c = inr (
  c.in_default.is,
  c.in-Some-owned.deque,
  c.in-Some-owned.is,
  subst (λ (stop : Stop). GivesUp c.args.seat.now.place c.in-Some-owned.deque (Err (Stopped stop)) c.give_up_deque.new.seat) (sym c.in-Err-Stopped.stop-is)
      (subst (λ (e : ActRefused). GivesUp c.args.seat.now.place c.in-Some-owned.deque (Err e) c.give_up_deque.new.seat) c.in-Err-Stopped.field-0-is
      c.in-Err-Stopped.ensures.seat),
  refl,
  refl,
  refl,
  refl,
)
