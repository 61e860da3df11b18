use Rattle.std.proofs.Common.{refl, sym, subst}
use Rattle.hall_actions.specs.WithList.{HasMoreFor}
use Rattle.hall_actions.specs.declared.with_list.ListEvent.{ListEvent}
use Rattle.hall_actions.proofs.with_list.make_room_for.Goals as goal

pub returns-in-GiveUp-clause-same : goal.returns-in-GiveUp-clause-same
returns-in-GiveUp-clause-same c =
    subst (λ (e : ListEvent). HasMoreFor e c.args.list.now c.make_room_to_close.new.list) (sym c.in-GiveUp.is) c.make_room_to_close.ensures.same

pub returns-in-Wait-clause-same : goal.returns-in-Wait-clause-same
returns-in-Wait-clause-same c =
    subst (λ (e : ListEvent). HasMoreFor e c.args.list.now c.make_room_to_wait.new.list) (sym c.in-Wait.is) c.make_room_to_wait.ensures.same

pub returns-in-Dummy-clause-same : goal.returns-in-Dummy-clause-same
returns-in-Dummy-clause-same c =
    subst (λ (e : ListEvent). HasMoreFor e c.args.list.now c.make_room_to_close-in-Dummy.new.list) (sym c.in-Dummy.is)
    c.make_room_to_close-in-Dummy.ensures.same

pub returns-in-RootEnd-clause-same : goal.returns-in-RootEnd-clause-same
returns-in-RootEnd-clause-same c =
    subst (λ (e : ListEvent). HasMoreFor e c.args.list.now c.make_room_to_leave.new.list) (sym c.in-RootEnd.is) c.make_room_to_leave.ensures.same

pub returns-in-Join-clause-same : goal.returns-in-Join-clause-same
returns-in-Join-clause-same c = subst (λ (e : ListEvent). HasMoreFor e c.args.list.now c.args.list.now) (sym c.in-Join.is) refl
