use Rattle.std.proofs.Common.{sym, subst}
use Rattle.hall_threads.specs.declared.answer.Answer.{Answer}
use Rattle.hall_threads.specs.Trying.{IsNotHeld, Tries}
use Rattle.hall_threads.proofs.TriesTold.{goes_tried, not_held}
use Rattle.hall_threads.proofs.tries.make_try.Goals as goal

pub returns-in-Some-clause-tries : goal.returns-in-Some-clause-tries
returns-in-Some-clause-tries g c = c.keep.ensures.tries (g.C.Choices.coming c.args.choices.now 0)

pub returns-clause-tries : goal.returns-clause-tries
returns-clause-tries g c = subst (λ (a : Answer). Tries c.args.hall.now (g.C.Choices.coming c.args.choices.now 0) c.args.seat.now c.go_on.new.seat a) (sym c.answer_of.ensures)
    (goes_tried c.args.hall.now (g.C.Choices.coming c.args.choices.now 0) c.args.seat.now c.go_on.new.seat c.go_on.result c.go_on.ensures.goes)

pub returns-in-Some-clause-lone : goal.returns-in-Some-clause-lone
returns-in-Some-clause-lone g c all = c.keep.ensures.lone all

pub returns-clause-lone : goal.returns-clause-lone
returns-clause-lone g c all = subst IsNotHeld (sym c.answer_of.ensures) (not_held c.go_on.result (c.go_on.ensures.lone all))
