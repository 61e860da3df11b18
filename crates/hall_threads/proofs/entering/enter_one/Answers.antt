use Rattle.std.proofs.Common.{[], ◌∷◌, inl, inr, length, length-append, sym, ap, subst, ◌∙◌}
use Rattle.std.specs.Prelude.{Option}
use Rattle.worker_entry.specs.declared.seat.Seat.{Seat}
use Rattle.hall_threads.specs.Crews.{EntersBy, IsCrew, IsOfCrew}
use Rattle.hall_threads.proofs.Crews.{crew_more}
use Rattle.hall_threads.proofs.entering.enter_one.Goals as goal

pub returns-in_ok-push-in-Some-clause-crew : goal.returns-in_ok-push-in-Some-clause-crew
returns-in_ok-push-in-Some-clause-crew g c =
    let entered = subst (λ (o : Option Seat). EntersBy c.args.hall.now c.args.first.now c.enter_by.new.by o) c.in-Some.is c.in_ok-seat.ensures.entered in
    subst (IsCrew c.args.hall.now c.enter_by.new.by) (sym c.in_ok-push-in-Some.ensures.items)
    (crew_more c.args.hall.now c.args.first.now c.enter_by.new.by c.member_of.result c.args.crew.now.items c.requires c.in_ok-seat.ensures.fresh
    (subst (IsOfCrew c.args.hall.now) (sym c.member_of.ensures) entered.0) entered.1)

pub returns-in_ok-push-in-Some-clause-none_lost : goal.returns-in_ok-push-in-Some-clause-none_lost
returns-in_ok-push-in-Some-clause-none_lost g c = inl (ap length c.in_ok-push-in-Some.ensures.items ∙ length-append c.args.crew.now.items (c.member_of.result ∷ []))

pub returns-in-None-clause-none_lost : goal.returns-in-None-clause-none_lost
returns-in-None-clause-none_lost g c =
    let entered = subst (λ (o : Option Seat). EntersBy c.args.hall.now c.args.first.now c.enter_by.new.by o) c.in-None.is c.in_ok-seat.ensures.entered in
    inr (inr (entered.1, entered.2))
