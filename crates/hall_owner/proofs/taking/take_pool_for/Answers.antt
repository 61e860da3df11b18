use Rattle.std.proofs.Common.{◌+◌, ◌≤◌, ◌<◌, refl, subst}
use Rattle.turn_table.specs.Tables.{key_of}
use Rattle.hall_actions.specs.Passed.Taken.{its_lane}
use Rattle.hall_actions.specs.Passed.NotingVariants.{Found}
use Rattle.hall_actions.proofs.Returned.{pool_back}
use Rattle.hall_owner.specs.Refusing.{IsRefusal}
use Rattle.hall_owner.proofs.Asking.{asks}
use Rattle.hall_owner.proofs.Given.{still_there}
use Rattle.hall_owner.proofs.Refusals.{busy_refusal, full_refusal}
use Rattle.hall_owner.proofs.Showing.{named}
use Rattle.hall_owner.proofs.Trying.{busy, full_fails, still_holding, stop_back}
use Rattle.hall_owner.proofs.taking.take_pool_for.Goals as goal

pub give_still_back-requires-clause-still : goal.give_still_back-requires-clause-still
give_still_back-requires-clause-still c = let r = c.requires.ready in
    still_there (key_of c.args.row.now) c.take_pool.new.seat c.args.deque c.args.at c.args.next r.0 c.put_together.result c.put_together.ensures.items
    c.put_together.ensures.running (still_holding c.args.seat.now c.take_pool.new.seat 1 c.in-Err.held c.in-Err.ensures.seat (key_of c.args.row.now) c.args.deque
    (its_lane c.args.deque) c.args.at c.args.next r.0 r.1.before.holding)

pub put_pool_and_lane-requires-clause-may : goal.put_pool_and_lane-requires-clause-may
put_pool_and_lane-requires-clause-may c = let pool = c.in-Ok.pool in let r = c.requires.ready in let w = c.requires.wanted in
    pool_back (key_of c.args.row.now) c.take_pool.new.seat c.args.deque (Found c.in-Some.stop) pool c.put_together-lane.result
    (stop_back (key_of c.args.row.now) c.args.seat.now c.take_pool.new.seat c.args.deque pool c.in-Ok.ensures.seat c.in-Ok.ensures.meets c.args.at c.args.next r.0 r.1.before
    (asks (key_of c.args.row.now) c.args.at c.args.seat.now.hand.note.worker c.args.charge c.args.next r.1.before.holding.is_next.within.used w.uses.may)
    (subst (λ n. pool.pool.capacity < pool.pool.live + n) c.words_asked.ensures c.in-Some.ensures.1) c.words_asked.result c.words_asked.ensures c.in-Some.stop c.in-Some.ensures.0
    c.put_together-lane.result c.put_together-lane.ensures.items c.put_together-lane.ensures.running)

pub returns-in-None-clause-seat : goal.returns-in-None-clause-seat
returns-in-None-clause-seat c = let pool = c.in-Ok.pool in (
  refl,
  record {
    took = c.in-Ok.ensures.seat;
    meets = c.in-Ok.ensures.meets;
    asked = (refl, c.requires.wanted, subst (λ n. pool.pool.live + n ≤ pool.pool.capacity) c.words_asked.ensures c.in-None.ensures);
  },
)

pub returns-in-Err-clause-seat : goal.returns-in-Err-clause-seat
returns-in-Err-clause-seat c = let w = c.requires.wanted in
    busy c.args.seat.now c.take_pool.new.seat 1 c.in-Err.held c.in-Err.ensures.seat
    (IsRefusal (key_of c.args.row.now) c.args.deque c.args.at c.args.next)
    (busy_refusal (key_of c.args.row.now) c.args.deque c.args.at c.args.next w.suits w.due (named c.args.at.top) c.in-Err.held c.in-Err.ensures.seat.0)
    c.give_still_back.new.seat c.give_still_back.ensures

pub returns-in-Some-clause-seat : goal.returns-in-Some-clause-seat
returns-in-Some-clause-seat c = let pool = c.in-Ok.pool in let r = c.requires.ready in let w = c.requires.wanted in
    let full = subst (λ n. pool.pool.capacity < pool.pool.live + n) c.words_asked.ensures c.in-Some.ensures.1 in
    full_fails (key_of c.args.row.now) c.args.seat.now c.take_pool.new.seat c.args.deque pool c.in-Ok.ensures.seat c.in-Ok.ensures.meets c.args.at c.args.next r.0 r.1.before
    (asks (key_of c.args.row.now) c.args.at c.args.seat.now.hand.note.worker c.args.charge c.args.next r.1.before.holding.is_next.within.used w.uses.may)
    full (IsRefusal (key_of c.args.row.now) c.args.deque c.args.at c.args.next)
    (full_refusal (key_of c.args.row.now) c.args.deque c.args.at c.args.next w.suits w.due (named c.args.at.top) pool full)
    c.words_asked.result c.words_asked.ensures c.in-Some.stop c.in-Some.ensures.0 c.put_pool_and_lane.new.seat c.put_pool_and_lane.ensures
