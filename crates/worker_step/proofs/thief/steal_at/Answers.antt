use Rattle.std.proofs.Common.{length, subst, sym, ap, ◌∙◌}
use Rattle.worker_step.specs.Thefts.{Thieves}
use Rattle.worker_step.proofs.Victims.{stands_at, is_live, others_above, alone}
use Rattle.worker_step.proofs.Filled.{never_empty}
use Rattle.worker_step.proofs.thief.steal_at.Goals as goal

pub lane-requires : goal.lane-requires
lane-requires c = is_live c.args.scheduler.now.list c.args.place c.requires.ready c.in-Some.victim c.in-Some.ensures

pub steal_beside-requires-clause-victim : goal.steal_beside-requires-clause-victim
steal_beside-requires-clause-victim c =
    let list = c.args.scheduler.now.list in
    let at = stands_at list c.args.place c.requires.ready c.in-Some.victim c.in-Some.ensures in
    let v = others_above list c.args.place c.requires.ready c.in-Some.victim c.in-Some.ensures c.lane.result.now.items
    (c.lane.ensures.items c.args.place c.requires.ready.0 at) c.len-threads.result c.len-threads.ensures c.if-threads-ge2.true in
    (v.0, v.1, v.2, v.3, v.4)

pub returns-then-threads-ge2 : goal.returns-then-threads-ge2
returns-then-threads-ge2 c =
    let list = c.args.scheduler.now.list in
    let at = stands_at list c.args.place c.requires.ready c.in-Some.victim c.in-Some.ensures in
    let v = others_above list c.args.place c.requires.ready c.in-Some.victim c.in-Some.ensures c.lane.result.now.items
    (c.lane.ensures.items c.args.place c.requires.ready.0 at) c.len-threads.result c.len-threads.ensures c.if-threads-ge2.true in
    subst (λ n. Thieves c.args.worker n c.args.scheduler.now c.steal_beside.new.scheduler c.steal_beside.result) v.5
    (c.steal_beside.ensures v.0 v.1 v.2 v.3 v.4)

pub unreachable-requires-then-threads-eq0 : goal.unreachable-requires-then-threads-eq0
unreachable-requires-then-threads-eq0 c =
    let list = c.args.scheduler.now.list in
    let at = stands_at list c.args.place c.requires.ready c.in-Some.victim c.in-Some.ensures in
    let s = c.requires.sound in
    never_empty s.0 s.1 s.2 c.args.scheduler.now s.3 c.args.place c.requires.ready.0 c.requires.ready.1
    (sym (ap length (c.lane.ensures.items c.args.place c.requires.ready.0 at)) ∙ sym c.len-threads.ensures ∙ c.if-threads-eq0.true)

pub take_over-requires-clause-victim : goal.take_over-requires-clause-victim
take_over-requires-clause-victim c =
    let list = c.args.scheduler.now.list in
    let at = stands_at list c.args.place c.requires.ready c.in-Some.victim c.in-Some.ensures in
    alone list c.args.place c.requires.ready c.in-Some.victim c.in-Some.ensures c.lane.result.now.items
    (c.lane.ensures.items c.args.place c.requires.ready.0 at) c.len-threads.result c.len-threads.ensures c.if-threads-ge2.false c.if-threads-eq0.false
