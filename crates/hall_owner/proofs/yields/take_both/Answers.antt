use Rattle.std.proofs.Common.{◌+◌}
use Rattle.hall_slots.specs.declared.slot.Slot.TheVariants as slots
use Rattle.hall_slots.proofs.Pairing.{both_taken}
use Rattle.hall_owner.proofs.Busy.{busy_list}
use Rattle.hall_owner.proofs.yields.take_both.Goals as goal

pub returns-in-Ok-clause-seat : goal.returns-in-Ok-clause-seat
returns-in-Ok-clause-seat c = both_taken c.args.seat.now c.take_lane.new.seat c.take_list.new.seat (c.args.deque.0 + 2) (slots.Lane c.in_ok-lane.lane) 0
    (slots.List c.in-Ok.list) c.in_ok-lane.ensures.seat c.in-Ok.ensures.seat

pub returns-in-Err-clause-seat : goal.returns-in-Err-clause-seat
returns-in-Err-clause-seat c = busy_list c.args.seat.now c.take_lane.new.seat c.take_list.new.seat c.give_lane_back.new.seat c.args.deque c.in_ok-lane.lane
    c.in-Err.held c.requires.may.free c.in_ok-lane.ensures.seat c.in-Err.ensures.seat c.give_lane_back.ensures.seat
