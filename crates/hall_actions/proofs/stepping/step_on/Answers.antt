use Rattle.std.proofs.Common.{refl, ◌∙◌}
use Rattle.std.specs.Prelude.{Ok, Err}
use Rattle.turn_table.specs.Tables.{key_of}
use Rattle.play_rules.specs.declared.stop.Stop.TheVariants.{OutOfMemory}
use Rattle.hall_actions.specs.declared.refused.ActRefused.TheVariants.{Stopped}
use Rattle.hall_actions.proofs.Coming as coming
use Rattle.hall_actions.proofs.Readable as readable
use Rattle.hall_actions.proofs.stepping.step_on.Goals as goal

pub take_apart-at-requires-clause-threads : goal.take_apart-at-requires-clause-threads
take_apart-at-requires-clause-threads c = let key = key_of c.args.row.now in let middle = c.take_lane.new.seat in let lane = c.in-Ok.lane in
    let r = coming.readable key c.args.seat.now middle c.args.deque lane c.requires.may c.in-Ok.ensures.seat c.in-Ok.ensures.meets lane refl refl in
    (r.reads.top, r.reads.under, r.items ∙ r.reads.items)

pub take_apart-at-requires-clause-runs : goal.take_apart-at-requires-clause-runs
take_apart-at-requires-clause-runs c = let key = key_of c.args.row.now in let middle = c.take_lane.new.seat in let lane = c.in-Ok.lane in
    let r = coming.readable key c.args.seat.now middle c.args.deque lane c.requires.may c.in-Ok.ensures.seat c.in-Ok.ensures.meets lane refl refl in
    readable.runs_on key middle c.args.deque lane lane r

pub step_on-requires-clause-point : goal.step_on-requires-clause-point
step_on-requires-clause-point c = let key = key_of c.args.row.now in let middle = c.take_lane.new.seat in let lane = c.in-Ok.lane in
    let r = coming.readable key c.args.seat.now middle c.args.deque lane c.requires.may c.in-Ok.ensures.seat c.in-Ok.ensures.meets lane refl refl in let at = c.take_apart-at in
    readable.at_code key c.args.code.now c.args.quota c.requires.terms at.result.top
    (readable.points key middle c.args.deque lane lane r at.result.top at.result.lane.items at.result.running at.ensures.items at.ensures.running).0

pub step_on-requires-clause-few : goal.step_on-requires-clause-few
step_on-requires-clause-few c = let key = key_of c.args.row.now in let middle = c.take_lane.new.seat in let lane = c.in-Ok.lane in
    let r = coming.readable key c.args.seat.now middle c.args.deque lane c.requires.may c.in-Ok.ensures.seat c.in-Ok.ensures.meets lane refl refl in let at = c.take_apart-at in
    readable.few key middle c.args.deque lane lane r at.result.top at.result.lane.items at.result.running at.ensures.items at.ensures.running

pub give_short_back-requires-clause-short : goal.give_short_back-requires-clause-short
give_short_back-requires-clause-short c = let key = key_of c.args.row.now in let middle = c.take_lane.new.seat in let lane = c.in-Ok.lane in
    let r = coming.readable key c.args.seat.now middle c.args.deque lane c.requires.may c.in-Ok.ensures.seat c.in-Ok.ensures.meets lane refl refl in let at = c.take_apart-at in
    readable.short_now key middle c.args.deque lane lane r at.result.top at.result.lane.items at.result.running at.ensures.items at.ensures.running
    c.step_on.new.top c.step_on.ensures.still
    c.put_together-in-Err-step_on.result c.put_together-in-Err-step_on.ensures.items c.put_together-in-Err-step_on.ensures.running

pub give_still_back-requires-clause-still : goal.give_still_back-requires-clause-still
give_still_back-requires-clause-still c = let key = key_of c.args.row.now in let middle = c.take_lane.new.seat in let lane = c.in-Ok.lane in
    let r = coming.readable key c.args.seat.now middle c.args.deque lane c.requires.may c.in-Ok.ensures.seat c.in-Ok.ensures.meets lane refl refl in let at = c.take_apart-at in
    readable.still_now key middle c.args.deque lane lane r at.result.top at.result.lane.items at.result.running at.ensures.items at.ensures.running
    c.step_on.new.top c.step_on.ensures.still (readable.of_code key c.args.code.now c.args.quota c.requires.terms c.step_on.new.top c.in-Ok-step_on.ensures.point)
    c.put_together.result c.put_together.ensures.items c.put_together.ensures.running

pub returns-in-Ok-step_on-clause-seat : goal.returns-in-Ok-step_on-clause-seat
returns-in-Ok-step_on-clause-seat c = let key = key_of c.args.row.now in let middle = c.take_lane.new.seat in let lane = c.in-Ok.lane in
    let r = coming.readable key c.args.seat.now middle c.args.deque lane c.requires.may c.in-Ok.ensures.seat c.in-Ok.ensures.meets lane refl refl in let at = c.take_apart-at in
    coming.has_stepped key c.args.seat.now middle c.args.deque lane c.requires.may c.in-Ok.ensures.seat (Ok c.in-Ok-step_on.came) c.give_still_back.new.seat (
      c.put_together.result,
      readable.went_on key middle c.args.deque lane lane r at.result.top at.result.lane.items at.result.running at.ensures.items at.ensures.running
          c.step_on.new.top c.step_on.ensures.still
          (readable.of_code key c.args.code.now c.args.quota c.requires.terms c.step_on.new.top c.in-Ok-step_on.ensures.point)
          c.in-Ok-step_on.came c.in-Ok-step_on.ensures.came c.put_together.result c.put_together.ensures.items c.put_together.ensures.running,
      c.give_still_back.ensures,
    )

pub returns-in-Err-step_on-clause-seat : goal.returns-in-Err-step_on-clause-seat
returns-in-Err-step_on-clause-seat c =
    coming.has_stepped (key_of c.args.row.now) c.args.seat.now c.take_lane.new.seat c.args.deque c.in-Ok.lane c.requires.may c.in-Ok.ensures.seat
    (Err (Stopped OutOfMemory)) c.give_short_back.new.seat (refl, c.give_short_back.ensures)
