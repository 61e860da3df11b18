use Rattle.std.proofs.Common.{sym, subst}
use Rattle.std.specs.Prelude.{Err}
use Rattle.turn_table.specs.Tables.{key_of}
use Rattle.hall_thief.specs.declared.refused.StealRefused.{StealRefused}
use Rattle.hall_thief.specs.Prey.{IsNotBusy}
use Rattle.hall_thief.specs.Steals.{Steals}
use Rattle.hall_thief.proofs.Robbed.{all_as, may_as, not_busy_as, note_kept, prey_of, refused_then, steals_then}
use Rattle.hall_thief.proofs.stealing.steal.Goals as goal

pub steal_prey-requires-clause-may : goal.steal_prey-requires-clause-may
steal_prey-requires-clause-may c = may_as c.args.seat.now c.seek.new.seat c.args.worker
    (note_kept c.args.workers c.args.word c.args.seat.now c.seek.new.seat c.args.list c.requires.holds c.in-Ok.prey c.in-Ok.ensures.seat) c.requires.may

pub steal_prey-requires-clause-prey : goal.steal_prey-requires-clause-prey
steal_prey-requires-clause-prey c =
    prey_of c.args.workers c.args.word c.args.seat.now c.seek.new.seat c.args.list c.requires.holds c.in-Ok.prey c.in-Ok.ensures.seat (key_of c.args.row.now) c.requires.reach

pub returns-in-Ok-clause-seat : goal.returns-in-Ok-clause-seat
returns-in-Ok-clause-seat c before free taken = steals_then c.args.workers c.args.word before c.args.seat.now c.seek.new.seat c.steal_prey.new.seat c.args.list c.in-Ok.prey free taken
    c.in-Ok.ensures.seat c.steal_prey.result c.steal_prey.ensures.seat

pub returns-in-Ok-clause-lone : goal.returns-in-Ok-clause-lone
returns-in-Ok-clause-lone c all = c.steal_prey.ensures.lone (all_as (key_of c.args.row.now) c.args.seat.now c.seek.new.seat
    (note_kept c.args.workers c.args.word c.args.seat.now c.seek.new.seat c.args.list c.requires.holds c.in-Ok.prey c.in-Ok.ensures.seat) all)

pub returns-in-Err-clause-seat : goal.returns-in-Err-clause-seat
returns-in-Err-clause-seat c before free taken =
    subst (λ (e : StealRefused). Steals c.args.workers c.args.word before c.seek.new.seat (Err e)) (sym c.refusal_of.ensures)
    (refused_then c.args.workers c.args.word before c.args.seat.now c.seek.new.seat c.args.list c.in-Err.refused free taken c.in-Err.ensures.seat)

pub returns-in-Err-clause-lone : goal.returns-in-Err-clause-lone
returns-in-Err-clause-lone c all = subst (λ (e : StealRefused). IsNotBusy (Err e)) (sym c.refusal_of.ensures) (not_busy_as c.in-Err.refused (c.in-Err.ensures.lone all))
