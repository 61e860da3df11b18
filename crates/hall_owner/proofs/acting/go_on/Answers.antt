use Rattle.containers.specs.BoundedList.{spare}
use Rattle.turn_table.specs.Tables.{key_of}
use Rattle.hall_owner.specs.Acting.{Does}
use Rattle.hall_owner.proofs.Ending.{exit, here_too}
use Rattle.hall_owner.proofs.Going.{does, ready_for}
use Rattle.hall_owner.proofs.acting.go_on.Goals as goal

pub returns-in_err-at-clause-seat : goal.returns-in_err-at-clause-seat
returns-in_err-at-clause-seat c = exit (λ r. Does (key_of c.args.row.now) c.args.seat.now c.args.deque c.args.at c.args.next r c.take_for.new.seat)
    c.from_residual.result c.in_err-at.field-0.0 c.from_residual.ensures.1 c.in_err-at.ensures.seat

pub do_event-requires-clause-here : goal.do_event-requires-clause-here
do_event-requires-clause-here c = here_too c.args.row.now c.args.seat.now c.take_for.new.seat c.in_ok-at.ensures.seat.1.took c.requires.here

pub do_event-requires-clause-ready : goal.do_event-requires-clause-ready
do_event-requires-clause-ready c = let takes = c.in_ok-at.ensures.seat in (
  c.args.next,
  ready_for (key_of c.args.row.now) c.args.seat.now c.take_for.new.seat c.args.deque c.args.at c.in_ok-at.at c.args.next (spare c.args.memory.now.births)
      c.in_ok-at.taken takes.0 takes.1 c.requires.ready.before,
)

pub returns-clause-seat : goal.returns-clause-seat
returns-clause-seat c = let takes = c.in_ok-at.ensures.seat in
    does (key_of c.args.row.now) c.args.seat.now c.take_for.new.seat c.args.deque c.args.at c.in_ok-at.at c.args.next (spare c.args.memory.now.births)
    c.in_ok-at.taken takes.0 takes.1 c.do_event.result c.do_event.new.seat
    (c.do_event.ensures.seat c.args.next (ready_for (key_of c.args.row.now) c.args.seat.now c.take_for.new.seat c.args.deque c.args.at c.in_ok-at.at c.args.next
    (spare c.args.memory.now.births) c.in_ok-at.taken takes.0 takes.1 c.requires.ready.before))
