-- Only room was added.
use Rattle.std.proofs.Common.{arith}
use Rattle.deque_list.proofs.KeptLemmas.{kept_grown, kept_prepared}
use Rattle.deque_list.proofs.list.List.room_right.Goals as goal

pub invariant_of-self : goal.invariant_of-self
invariant_of-self g c =
    kept_grown c.self.inside.order c.self.inside.lanes c.reserve.new.self c.self.inside.next
    c.reserve.ensures.lanes c.reserve.ensures.keeps_room c.self.invariant

pub invariant_of-self-in_err-lane : goal.invariant_of-self-in_err-lane
invariant_of-self-in_err-lane g c =
    kept_grown c.self.inside.order c.self.inside.lanes c.reserve.new.self c.self.inside.next
    c.reserve.ensures.lanes c.reserve.ensures.keeps_room c.self.invariant

pub invariant_of-self-in-None : goal.invariant_of-self-in-None
invariant_of-self-in-None g c =
    kept_prepared c.self.inside.order c.self.inside.lanes c.reserve.new.self c.self.inside.next c.replace.new.self c.in_ok-lane.lane
    c.reserve.ensures.lanes c.replace.ensures.after c.in_ok-lane.ensures.items c.in_ok-lane.ensures.room (omega arith) c.in_ok-reserve.ensures.room c.self.invariant
