use Rattle.std.proofs.Common.{refl, ◌∙◌, subst, arith}
use Rattle.turn_table.specs.Tables.{key_of}
use Rattle.hall_actions.specs.Rooms.{HasRoomToRun}
use Rattle.hall_actions.proofs.Readable as readable
use Rattle.hall_actions.proofs.advancing.run_on.Goals as goal

pub take_apart-at-requires-clause-threads : goal.take_apart-at-requires-clause-threads
take_apart-at-requires-clause-threads c = let r = c.requires.readable.1 in (r.reads.top, r.reads.under, r.items ∙ r.reads.items)

pub take_apart-at-requires-clause-runs : goal.take_apart-at-requires-clause-runs
take_apart-at-requires-clause-runs c =
    readable.runs_on (key_of c.args.row.now) c.args.seat.now c.args.deque c.requires.readable.0 c.args.lane c.requires.readable.1

pub advance-requires-clause-point : goal.advance-requires-clause-point
advance-requires-clause-point c = let at = c.take_apart-at in
    readable.at_code (key_of c.args.row.now) c.args.code.now c.args.quota c.requires.terms at.result.top
    (readable.points (key_of c.args.row.now) c.args.seat.now c.args.deque c.requires.readable.0 c.args.lane c.requires.readable.1 at.result.top at.result.lane.items at.result.running at.ensures.items at.ensures.running).0

pub advance-requires-clause-few : goal.advance-requires-clause-few
advance-requires-clause-few c = let at = c.take_apart-at in
    readable.few (key_of c.args.row.now) c.args.seat.now c.args.deque c.requires.readable.0 c.args.lane c.requires.readable.1 at.result.top at.result.lane.items at.result.running at.ensures.items at.ensures.running

pub give_short_back-requires-clause-short : goal.give_short_back-requires-clause-short
give_short_back-requires-clause-short c = let at = c.take_apart-at in
    readable.short_now (key_of c.args.row.now) c.args.seat.now c.args.deque c.requires.readable.0 c.args.lane c.requires.readable.1 at.result.top at.result.lane.items at.result.running at.ensures.items at.ensures.running
    c.advance.new.top c.advance.ensures.still c.put_together.result c.put_together.ensures.items c.put_together.ensures.running

pub returns-in-Ok : goal.returns-in-Ok
returns-in-Ok c was ready is room = let at = c.take_apart-at in let key = key_of c.args.row.now in let come = c.in-Ok.ensures in
    let spared = at.ensures.room in let spare = c.requires.threads in (
      refl,
      readable.at_next key c.args.seat.now c.args.deque was c.args.lane is at.result.top at.result.lane.items at.result.running at.ensures.items at.ensures.running
          c.advance.new.top come.still c.in-Ok.next ready at.result.lane.spare key.quota.is_quota.2
          (readable.of_code key c.args.code.now c.args.quota c.requires.terms c.advance.new.top come.point) come.next come.newest
          (readable.list_of_code key c.args.code.now c.args.quota c.requires.terms c.advance.new.top c.in-Ok.next come.list)
          (omega (arith, spared, spare)) (subst (HasRoomToRun ready) at.ensures.running room)
          (record { lane = at.result.lane; running = at.result.running; top = c.advance.new.top }) refl refl refl,
    )
