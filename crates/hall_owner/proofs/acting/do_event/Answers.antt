use Rattle.std.proofs.Common.{◌∙◌, sym, subst}
use Rattle.containers.specs.BoundedList.{spare}
use Rattle.hall_actions.specs.declared.at_next.AtNext.{AtNext}
use Rattle.hall_actions.specs.WithList.{IsNamedAs}
use Rattle.turn_table.specs.Tables.{key_of}
use Rattle.hall_owner.specs.Acting.{DoesWith}
use Rattle.hall_owner.specs.Ready.{IsReadyOn}
use Rattle.hall_owner.specs.Taken.{IsNotedOn}
use Rattle.hall_owner.proofs.Ending.{exit}
use Rattle.hall_owner.proofs.OnTaken.{done_on, fails_on, ready_on, same_seat}
use Rattle.hall_owner.proofs.acting.do_event.Goals as goal

pub prepare-requires-clause-before : goal.prepare-requires-clause-before
prepare-requires-clause-before c = let r = c.requires.ready in (r.0, spare c.args.memory.now.births, r.1.before)

pub returns-in_err-at-clause-seat : goal.returns-in_err-at-clause-seat
returns-in_err-at-clause-seat c next r = exit (λ r. DoesWith (key_of c.args.row.now) c.args.seat.now c.args.deque c.args.at next c.args.taken r c.prepare.new.seat)
    c.from_residual.result c.in_err-at.field-0.0 c.from_residual.ensures.1
    (fails_on (key_of c.args.row.now) c.args.seat.now c.args.deque c.args.at next (spare c.args.memory.now.births) c.args.taken r c.in_err-at.field-0.0
    c.prepare.new.seat c.in_err-at.ensures.seat)

pub act_on-requires-clause-here : goal.act_on-requires-clause-here
act_on-requires-clause-here c = let p = c.in_ok-at.ensures.seat.1 in
    let same = same_seat (key_of c.args.row.now) c.args.seat.now c.args.deque c.args.at c.requires.ready.0 (spare c.args.memory.now.births) c.prepare.new.seat p.count p.drew in
    (same.0 ∙ c.requires.here.0, same.1 ∙ c.requires.here.1)

pub act_on-requires-clause-ready : goal.act_on-requires-clause-ready
act_on-requires-clause-ready c = let p = c.in_ok-at.ensures.seat in let r = c.requires.ready in
    subst (λ a. IsReadyOn (key_of c.args.row.now) c.prepare.new.seat c.args.deque a (spare c.args.memory.now.births) c.in_ok-at.taken) (sym p.0)
    (ready_on (key_of c.args.row.now) c.args.seat.now c.args.deque c.args.at r.0 (spare c.args.memory.now.births) c.prepare.new.seat c.args.taken r.1 c.in_ok-at.taken p.1)

pub returns-clause-seat : goal.returns-clause-seat
returns-clause-seat c next r = let p = c.in_ok-at.ensures.seat in
    done_on (key_of c.args.row.now) c.args.seat.now c.args.deque c.args.at next (spare c.args.memory.now.births) c.prepare.new.seat c.args.taken r c.in_ok-at.taken p.1
    c.act_on.result c.act_on.new.seat
    (subst (λ a. IsNotedOn c.in_ok-at.taken c.args.deque a.top c.act_on.result.event c.act_on.result.owned) p.0 c.act_on.ensures.notes)
    (subst (λ (a : AtNext). IsNamedAs a.top c.act_on.result.event) p.0 c.act_on.ensures.named) c.act_on.ensures.seat
