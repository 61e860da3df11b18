use Rattle.std.proofs.Common.{refl, subst, arith}
use Rattle.std.specs.Prelude.{Err}
use Rattle.turn_table.specs.Tables.{key_of}
use Rattle.hall_slots.specs.Passed.HallMachineNumbers.{IsSmallestNumber}
use Rattle.hall_slots.specs.Entering.{HasEntered}
use Rattle.hall_slots.specs.declared.refused.EnterRefused.{EnterRefused}
use Rattle.worker_entry.proofs.hall.Hall.enter.Goals as goal

pub returns-in-Ok-clause-seat : goal.returns-in-Ok-clause-seat
returns-in-Ok-clause-seat c = let entered = c.in-Ok.ensures.seat in let many = c.if-by-lt2.false in (
  entered.0,
  subst (λ n. IsSmallestNumber n entered.0.crew.items c.in-Ok.worker) c.requires.is_hall.workers entered.1.0,
  entered.1.1,
  refl,
  refl,
  refl,
  omega (arith, many),
  entered.1.2,
  entered.1.3,
)

pub returns-in-Err-Over-clause-seat : goal.returns-in-Err-Over-clause-seat
returns-in-Err-Over-clause-seat c = let entered = subst (λ (e : EnterRefused). HasEntered (key_of c.args.self.now.row) c.args.by.now.place c.enter.new.seat (Err e)) c.in-Err-Over.field-0-is c.in-Err-Over.ensures.seat in (
  entered.0,
  entered.1.0,
  entered.1.1,
  record { worker = refl; places = refl; owned = refl; stop = refl },
)

pub returns-in-Err-OutOfMemory-clause-seat : goal.returns-in-Err-OutOfMemory-clause-seat
returns-in-Err-OutOfMemory-clause-seat c =
    let entered = subst (λ (e : EnterRefused). HasEntered (key_of c.args.self.now.row) c.args.by.now.place c.enter.new.seat (Err e)) c.in-Err-OutOfMemory.field-0-is c.in-Err-OutOfMemory.ensures.seat in
    (entered.0, entered.1.0, entered.1.1, record { worker = refl; places = refl; owned = refl; stop = refl })
