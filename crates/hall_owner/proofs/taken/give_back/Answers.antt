use Rattle.std.proofs.Common.{sym, subst}
use Rattle.std.specs.Prelude.{[]}
use Rattle.turn_table.specs.Tables.{key_of}
use Rattle.hall_actions.specs.Passed.Puts.{note_of, HasPut}
use Rattle.hall_actions.proofs.Returned.{pool_back, list_back, all_back}
use Rattle.hall_owner.proofs.Given.{back, IsBack}
use Rattle.hall_owner.specs.Taken.{IsQuietOnLane}
use Rattle.hall_owner.proofs.taken.give_back.Goals as goal

pub give_still_back-requires-clause-still : goal.give_still_back-requires-clause-still
give_still_back-requires-clause-still c = let h = c.requires.holding in
    subst (IsBack (key_of c.args.row.now) c.args.seat.now c.args.deque c.args.at h.0 h.1 c.put_together-lane.result c.put_together-lane.ensures.items
    c.put_together-lane.ensures.running c.args.noting c.requires.note) c.in-OnLane.is
    (back (key_of c.args.row.now) c.args.seat.now c.args.deque c.args.at h.0 h.1 c.put_together-lane.result c.put_together-lane.ensures.items
    c.put_together-lane.ensures.running c.args.noting c.requires.note h.2 c.args.taken h.3 h.4)

pub put_pool_and_lane-requires-clause-may : goal.put_pool_and_lane-requires-clause-may
put_pool_and_lane-requires-clause-may c = let h = c.requires.holding in
    pool_back (key_of c.args.row.now) c.args.seat.now c.args.deque c.args.noting c.in-WithPool.pool c.put_together-lane.result
    (subst (IsBack (key_of c.args.row.now) c.args.seat.now c.args.deque c.args.at h.0 h.1 c.put_together-lane.result c.put_together-lane.ensures.items
    c.put_together-lane.ensures.running c.args.noting c.requires.note) c.in-WithPool.is
    (back (key_of c.args.row.now) c.args.seat.now c.args.deque c.args.at h.0 h.1 c.put_together-lane.result c.put_together-lane.ensures.items
    c.put_together-lane.ensures.running c.args.noting c.requires.note h.2 c.args.taken h.3 h.4))

pub put_list_and_lane-requires-clause-may : goal.put_list_and_lane-requires-clause-may
put_list_and_lane-requires-clause-may c = let h = c.requires.holding in
    list_back (key_of c.args.row.now) c.args.seat.now c.args.deque c.args.noting c.in-WithList.list c.put_together-lane.result
    (subst (IsBack (key_of c.args.row.now) c.args.seat.now c.args.deque c.args.at h.0 h.1 c.put_together-lane.result c.put_together-lane.ensures.items
    c.put_together-lane.ensures.running c.args.noting c.requires.note) c.in-WithList.is
    (back (key_of c.args.row.now) c.args.seat.now c.args.deque c.args.at h.0 h.1 c.put_together-lane.result c.put_together-lane.ensures.items
    c.put_together-lane.ensures.running c.args.noting c.requires.note h.2 c.args.taken h.3 h.4))

pub put_all-requires-clause-may : goal.put_all-requires-clause-may
put_all-requires-clause-may c = let h = c.requires.holding in
    all_back (key_of c.args.row.now) c.args.seat.now c.args.deque c.args.noting c.in-WithAll.list c.in-WithAll.pool c.put_together-lane.result
    (subst (IsBack (key_of c.args.row.now) c.args.seat.now c.args.deque c.args.at h.0 h.1 c.put_together-lane.result c.put_together-lane.ensures.items
    c.put_together-lane.ensures.running c.args.noting c.requires.note) c.in-WithAll.is
    (back (key_of c.args.row.now) c.args.seat.now c.args.deque c.args.at h.0 h.1 c.put_together-lane.result c.put_together-lane.ensures.items
    c.put_together-lane.ensures.running c.args.noting c.requires.note h.2 c.args.taken h.3 h.4))

pub returns-in-OnLane : goal.returns-in-OnLane
returns-in-OnLane c = subst (λ noting. HasPut c.args.seat.now (note_of c.args.seat.now.hand.note noting) [] c.give_still_back.new.seat)
    (sym (subst (λ t. IsQuietOnLane t c.args.noting) c.in-OnLane.is c.requires.quiet)) c.give_still_back.ensures
