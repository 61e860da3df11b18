use Rattle.std.proofs.Common.{refl}
use Rattle.std.specs.Prelude.{Some}
use Rattle.thread_frames.specs.declared.next.Next.TheVariants as nexts
use Rattle.hall_parts.specs.HallNames.{key_of, LaneSlot}
use Rattle.hall_slots.specs.declared.event.Event.TheVariants.{Did}
use Rattle.hall_parts.specs.Writes.{parts}
use Rattle.hall_parts.specs.declared.noting.Noting.TheVariants.{Does}
use Rattle.hall_parts.proofs.Lanes.{joins_do}
use Rattle.hall_parts.proofs.Noted.{lane_may}
use Rattle.hall_parts.proofs.Taken.{on}
use Rattle.hall_parts.proofs.Untaken.{nothing_is_taken}
use Rattle.hall_actions.proofs.Putting.{on_top_again}
use Rattle.hall_actions.proofs.Readied.{may_do}
use Rattle.hall_actions.proofs.with_pool.act_own_join.Goals as goal

pub put_lane-requires-clause-may : goal.put_lane-requires-clause-may
put_lane-requires-clause-may c =
    let ready = c.requires.ready in
    let done = c.do_join-name in
    let did = done.ensures.acts in
    let seat = c.args.seat.now in
    let lane : LaneSlot = record { lane = done.new.lane; running = Some (record { worker = c.args.running.worker; period = done.new.period }) } in
    lane_may (key_of c.args.row.now) seat c.args.deque (Does (Did done.result) (Some c.args.deque)) ready.quota c.requires.may.goes c.requires.may.counting
    (on seat.hand.note (Some c.args.deque) (Did done.result)) ready.lane lane
    (on_top_again (key_of c.args.row.now) c.args.top did.now c.args.lane.items done.new.lane.items did.threads_are did.point ready.point ready.under)
    ready.holds
    (λ list pool. joins_do (key_of c.args.row.now) seat.hand.note.worker c.args.deque (parts list pool ready.lane) (parts list pool lane)
    c.args.top c.args.lane.items c.args.running.worker c.args.running.period ready.at refl done.result done.new.period refl
    c.requires.listed.0 did (nothing_is_taken c.requires.listed.0 c.args.top done.result pool done.ensures.words) c.requires.listed.1)

pub do_join-name-requires-clause-may : goal.do_join-name-requires-clause-may
do_join-name-requires-clause-may c = may_do _ _ _ _ _ _ _ _ c.requires.ready c.requires.none
