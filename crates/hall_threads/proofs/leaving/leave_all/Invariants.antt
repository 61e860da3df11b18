use Rattle.std.specs.Vec.Iter.{into_iter_items}
use Rattle.hall_threads.specs.Crews.{AreLeft}
use Rattle.hall_threads.proofs.leaving.leave_all.Given as goal

-- the member that stays and those that are still to leave have the places of all workers
abbrev pub invariant-loop-member : goal.invariant-loop-member
invariant-loop-member g l = (goal.iterator-loop-member g).can_next l.member-iterator × (goal.iterator-loop-member g).is_finite l.member-iterator
    × AreLeft l.hall l.stays (into_iter_items l.member-iterator)
