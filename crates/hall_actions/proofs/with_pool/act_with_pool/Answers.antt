use Rattle.std.proofs.Common.{refl}
use Rattle.std.specs.Prelude.{Some}
use Rattle.containers.specs.BoundedList.{spare}
use Rattle.hall_parts.specs.HallNames.{key_of, pool_shown, LaneSlot}
use Rattle.hall_parts.specs.Writes.{parts}
use Rattle.hall_actions.proofs.Pooled.{with_pool_do}
use Rattle.hall_actions.proofs.Putting.{acted}
use Rattle.hall_actions.proofs.Readied.{may_do}
use Rattle.hall_actions.proofs.Roomier.{takes_from}
use Rattle.hall_actions.proofs.with_pool.act_with_pool.Goals as goal

pub put_pool_and_lane-requires-clause-may : goal.put_pool_and_lane-requires-clause-may
put_pool_and_lane-requires-clause-may c =
    let at = c.args.at in
    let ready = c.requires.ready in
    let done = c.do_with_pool-name in
    let pool = done.new.pool in
    let lane : LaneSlot = record { lane = done.new.lane; running = Some (record { worker = at.running.worker; period = done.new.period }) } in
    acted (key_of c.args.row.now) c.args.seat.now c.args.deque c.args.pool pool at.lane at.running at.top 2 (spare c.args.memory.now.births) lane
    done.result c.requires.may ready
    (λ list. with_pool_do (key_of c.args.row.now) c.args.seat.now.hand.note.worker c.args.deque (parts list ready.0 ready.2.lane) (parts list pool lane)
    at.top at.lane.items at.running.worker at.running.period ready.2.at refl done.result done.new.period refl c.args.next c.args.charge
    c.requires.uses.forks c.requires.suits done.ensures.does
    (takes_from c.args.next at.top done.result ready.0 c.args.pool (pool_shown pool) ready.1 done.ensures.words) c.requires.uses.may)
    (done.ensures.sound (key_of c.args.row.now) c.requires.pool.sound)
    (done.ensures.points (key_of c.args.row.now) ready.2.point ready.2.under)

pub do_with_pool-name-requires-clause-may : goal.do_with_pool-name-requires-clause-may
do_with_pool-name-requires-clause-may c =
    let may = may_do _ _ _ _ _ _ _ _ c.requires.ready.2 c.requires.none in
    record { placed = may.placed; count = may.count; room = may.room; none = may.none; fits = c.requires.uses.fits }
