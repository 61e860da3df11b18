use Rattle.std.proofs.Common.{◌+◌, [], ◌∷◌, inl}
use Rattle.containers.specs.BoundedList.{spare}
use Rattle.turn_table.specs.Tables.{key_of}
use Rattle.hall_slots.specs.declared.slot.Slot.TheVariants as slots
use Rattle.hall_actions.specs.Advancing.{took_lane}
use Rattle.hall_owner.proofs.Following.{all_too}
use Rattle.hall_owner.proofs.Ending.{here_too}
use Rattle.hall_owner.proofs.Called.{acts, refused_first}
use Rattle.hall_owner.proofs.Deciding as deciding
use Rattle.hall_owner.proofs.acting.act.Goals as goal

pub go_on-requires-clause-here : goal.go_on-requires-clause-here
go_on-requires-clause-here c = here_too c.args.row.now c.args.seat.now c.come_to_next.new.seat c.in-Ok.ensures.seat.1 c.requires.here

pub go_on-requires-clause-ready : goal.go_on-requires-clause-ready
go_on-requires-clause-ready c =
    deciding.ready_to (key_of c.args.row.now) c.args.seat.now c.come_to_next.new.seat c.args.deque c.in-Ok.ensures.seat.0 c.in-Ok.at c.in-Ok.next
    (spare c.come_to_next.new.memory.births) c.requires.may c.in-Ok.ensures.seat.1 c.in-Ok.ensures.seat.2 c.in-Ok.ensures.meets

pub returns-in-Ok-clause-seat : goal.returns-in-Ok-clause-seat
returns-in-Ok-clause-seat c =
    acts (key_of c.args.row.now) c.args.seat.now c.come_to_next.new.seat c.args.deque c.in-Ok.ensures.seat.0 c.in-Ok.at c.in-Ok.next
    (spare c.come_to_next.new.memory.births) c.in-Ok.ensures.seat.1 c.in-Ok.ensures.seat.2 c.go_on.result c.go_on.new.seat c.go_on.ensures.seat

pub returns-in-Ok-clause-lone : goal.returns-in-Ok-clause-lone
returns-in-Ok-clause-lone c all =
    c.go_on.ensures.lone (all_too c.args.seat.now c.come_to_next.new.seat ((c.args.deque.0 + 2, slots.Lane c.in-Ok.ensures.seat.0) ∷ c.args.seat.now.hand.holds)
    (took_lane c.args.deque c.in-Ok.ensures.seat.0 ∷ []) c.in-Ok.ensures.seat.1
    (key_of c.args.row.now) all)

pub returns-in-Err-clause-seat : goal.returns-in-Err-clause-seat
returns-in-Err-clause-seat c = inl (refused_first c.args.seat.now c.come_to_next.new.seat c.args.deque (key_of c.args.row.now) c.come_to_next.new.memory
    c.in-Err.refused c.requires.may.free c.in-Err.ensures.seat)
