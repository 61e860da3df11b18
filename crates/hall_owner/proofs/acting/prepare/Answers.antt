use Rattle.std.proofs.Common.{◌≡◌, ◌<◌, inl, refl, rules, subst}
use Rattle.std.specs.Prelude.{Some, true}
use Rattle.turn_table.specs.Tables.{key_of}
use Rattle.hall_actions.proofs.Notable.{nothing_may_be_noted}
use Rattle.hall_owner.proofs.Counted.{may_draw}
use Rattle.hall_owner.proofs.Noted.{same_action}
use Rattle.hall_owner.proofs.Trying.{may_want, wanting}
use Rattle.hall_owner.specs.Taken.{slots_of, IsActionOf}
use Rattle.hall_owner.proofs.acting.prepare.Goals as goal

pub give_back-requires-clause-holding : goal.give_back-requires-clause-holding
give_back-requires-clause-holding c = let b = c.requires.before in (b.0, b.1, c.args.taken, c.make_room.ensures.same, b.2.holding)

pub give_back-requires-clause-note : goal.give_back-requires-clause-note
give_back-requires-clause-note c = let b = c.requires.before in
    may_want (key_of c.args.row.now) c.args.seat.now c.args.deque (slots_of c.args.deque c.args.taken) c.args.at b.0 b.1 b.2

pub give_back-requires-clause-quiet : goal.give_back-requires-clause-quiet
give_back-requires-clause-quiet c = c.in-Err.ensures.room

pub returns-in-Err-clause-seat : goal.returns-in-Err-clause-seat
returns-in-Err-clause-seat c = let w = wanting c.args.seat.now c.give_back.new.seat c.give_back.ensures in (w.0, inl w.1, w.2)

pub count_action-requires-clause-may : goal.count_action-requires-clause-may
count_action-requires-clause-may c = let b = c.requires.before in
    may_draw (key_of c.args.row.now) c.args.seat.now c.args.deque (slots_of c.args.deque c.args.taken) c.args.at b.0 b.1 b.2

pub give_back-requires-in-Err-count_action-clause-note : goal.give_back-requires-in-Err-count_action-clause-note
give_back-requires-in-Err-count_action-clause-note c = nothing_may_be_noted (key_of c.args.row.now) c.count_action.new.seat c.args.deque

pub returns-in-Ok-count_action-clause-seat : goal.returns-in-Ok-count_action-clause-seat
returns-in-Ok-count_action-clause-seat c = let drew = c.in-Ok-count_action.ensures.seat in
    let acts : c.is_counted.result ≡ true = search rules in (
      refl,
      record {
        more = c.make_room.ensures.same;
        room = c.in-Ok.ensures.room;
        count = Some drew.0;
        counts = same_action c.args.taken c.make_room.new.taken c.make_room.ensures.same true (subst (IsActionOf c.make_room.new.taken) acts c.is_counted.ensures);
        below = subst (λ n. drew.0 < n) c.requires.limit drew.1;
        drew = drew.2;
      },
    )
