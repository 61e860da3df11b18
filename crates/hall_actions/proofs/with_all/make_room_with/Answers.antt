use Rattle.std.proofs.Common.{refl, sym, subst}
use Rattle.hall_actions.specs.WithAll.{HasMoreWith}
use Rattle.hall_actions.specs.declared.with_all.WholeEvent.{WholeEvent}
use Rattle.hall_actions.proofs.with_all.make_room_with.Goals as goal

pub returns-in-Join-clause-same : goal.returns-in-Join-clause-same
returns-in-Join-clause-same c = subst (λ (e : WholeEvent). HasMoreWith e c.args.list.now c.args.list.now) (sym c.in-Join.is) refl

pub returns-in-Wake-clause-same : goal.returns-in-Wake-clause-same
returns-in-Wake-clause-same c = subst (λ (e : WholeEvent). HasMoreWith e c.args.list.now c.args.list.now) (sym c.in-Wake.is) refl

pub returns-in-Leave-clause-same : goal.returns-in-Leave-clause-same
returns-in-Leave-clause-same c =
    subst (λ (e : WholeEvent). HasMoreWith e c.args.list.now c.make_room_to_leave.new.list) (sym c.in-Leave.is) c.make_room_to_leave.ensures.same
