use Rattle.std.proofs.Common.{sym, subst}
use Rattle.std.specs.Prelude.{Result}
use Rattle.hall_slots.specs.declared.event.Event.{Event}
use Rattle.worker_entry.specs.declared.seat.Seat.{Seat}
use Rattle.worker_entry.specs.declared.refused.EventRefused.{EventRefused}
use Rattle.worker_entry.specs.Thieves.{answer_of, StealsIn}
use Rattle.worker_entry.proofs.Thefts.{stolen_in}
use Rattle.worker_entry.proofs.thieves.steal_with.Goals as goal

pub returns-clause-seat : goal.returns-clause-seat
returns-clause-seat c before holds =
    subst (λ (r : Result Event EventRefused). StealsIn c.args.hall.now c.args.word before c.settle.new.seat r) (sym c.settle.ensures.answer)
    (subst (λ (s : Seat). StealsIn c.args.hall.now c.args.word before s (answer_of c.steal-stolen.result)) (sym c.settle.ensures.seat)
    (stolen_in c.args.hall.now before c.args.seat.now c.args.list holds c.requires.none c.steal-stolen.new.seat c.args.word c.steal-stolen.result
    (c.steal-stolen.ensures.seat before.place holds.was.free holds.taken)))
