use Rattle.std.proofs.Common.{subst}
use Rattle.std.specs.Vec.Iter.{into_iter_items}
use Rattle.hall_threads.specs.Crews.{AreLeft}
use Rattle.hall_threads.proofs.Crews.{head_of, left_more}
use Rattle.hall_threads.proofs.leaving.leave_all.Goals as goal

pub leave_one-requires-clause-leaves : goal.leave_one-requires-clause-leaves
leave_one-requires-clause-leaves g c = head_of c.args.hall.now c.loop-member.stays c.in-Some.member (into_iter_items c.next.new.self)
    (subst (AreLeft c.args.hall.now c.loop-member.stays) c.in-Some.ensures.steps.0 c.loop-member.invariant.2)

pub loop-member-preserved : goal.loop-member-preserved
loop-member-preserved g c = (
  tt,
  tt,
  left_more c.args.hall.now c.loop-member.stays c.in-Some.member c.in_ok-stays.stays (into_iter_items c.next.new.self)
      (subst (AreLeft c.args.hall.now c.loop-member.stays) c.in-Some.ensures.steps.0 c.loop-member.invariant.2)
      c.in_ok-stays.ensures.end c.in_ok-stays.ensures.places,
)
