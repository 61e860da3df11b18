use Rattle.std.proofs.Common.{◌<◌, subst, ap, ◌∙◌}
use Rattle.deque_machine.specs.Lists.{times}
use Rattle.turn_table.specs.Tables.{key_of}
use Rattle.hall_slots.specs.Takes.{HallSeat}
use Rattle.hall_slots.proofs.Named.{named_of}
use Rattle.hall_slots.proofs.Left.{idle_after, holds_alone, left_held, has_left}
use Rattle.hall_slots.proofs.leaving.leave_list.Goals as goal

pub leave_in-requires : goal.leave_in-requires
leave_in-requires c = subst (λ w. 0 < times w c.in_ok-list.list.crew.items) (ap (λ (s : HallSeat). s.hand.note.worker) c.in_ok-list.ensures.seat ∙ c.requires.may.its_worker)
    (named_of (key_of c.args.row.now) c.take_list.new.seat c.in_ok-list.list (idle_after c.args.seat.now c.take_list.new.seat c.in_ok-list.list c.in_ok-list.ensures.seat c.requires.may.is_idle)
    (holds_alone c.args.seat.now c.take_list.new.seat c.in_ok-list.list c.in_ok-list.ensures.seat c.requires.free) c.in_ok-list.ensures.meets)

pub put_left-requires-clause-holds : goal.put_left-requires-clause-holds
put_left-requires-clause-holds c = left_held c.args.seat.now c.take_list.new.seat c.in_ok-list.list c.in_ok-list.ensures.seat (key_of c.args.row.now) c.leave_in.new.list c.args.worker c.args.found
    c.requires.may c.requires.free c.in_ok-list.ensures.meets c.leave_in.ensures.part c.leave_in.ensures.crew c.leave_in.ensures.end

pub returns-clause-seat : goal.returns-clause-seat
returns-clause-seat c = has_left c.args.seat.now c.take_list.new.seat c.in_ok-list.list c.in_ok-list.ensures.seat c.put_left.new.seat c.requires.free c.put_left.ensures.seat
