use Rattle.std.proofs.Common.{refl}
use Rattle.turn_table.specs.Tables.{key_of}
use Rattle.hall_actions.specs.Passed.NotingVariants.{Same}
use Rattle.hall_actions.specs.Passed.Taken.{list_and_lane}
use Rattle.hall_actions.proofs.Notable.{nothing_may_be_noted}
use Rattle.hall_actions.proofs.Returned as back
use Rattle.hall_actions.proofs.Returned.{same_list}
use Rattle.hall_owner.specs.Holding.{AtPool}
use Rattle.hall_owner.proofs.Given.{list_back}
use Rattle.hall_owner.proofs.Trying.{busy, still_holding}
use Rattle.hall_owner.proofs.taking.take_pool_too.Goals as goal

pub put_list_and_lane-requires-clause-may : goal.put_list_and_lane-requires-clause-may
put_list_and_lane-requires-clause-may c = let b = c.requires.before in
    back.list_back (key_of c.args.row.now) c.take_pool.new.seat c.args.deque Same c.args.list c.put_together-lane.result
    (list_back (key_of c.args.row.now) c.take_pool.new.seat c.args.deque c.args.at b.0 b.1 c.put_together-lane.result c.put_together-lane.ensures.items
    c.put_together-lane.ensures.running Same (nothing_may_be_noted (key_of c.args.row.now) c.take_pool.new.seat c.args.deque) c.args.list c.args.list (same_list c.args.list)
    (still_holding c.args.seat.now c.take_pool.new.seat 1 c.in-Err.held c.in-Err.ensures.seat (key_of c.args.row.now) c.args.deque
    (list_and_lane c.args.deque c.args.list) c.args.at b.0 b.1 b.2.holding))

pub returns-in-Ok-clause-seat : goal.returns-in-Ok-clause-seat
returns-in-Ok-clause-seat c = (refl, c.in-Ok.pool, refl, c.in-Ok.ensures.seat, c.in-Ok.ensures.meets)

pub returns-in-Err-clause-seat : goal.returns-in-Err-clause-seat
returns-in-Err-clause-seat c = busy c.args.seat.now c.take_pool.new.seat 1 c.in-Err.held c.in-Err.ensures.seat AtPool
    (c.in-Err.ensures.seat.0, refl) c.put_list_and_lane.new.seat c.put_list_and_lane.ensures
