use Rattle.std.proofs.Common.{refl}
use Rattle.containers.specs.BoundedList.{spare}
use Rattle.turn_table.specs.Tables.{key_of}
use Rattle.hall_actions.proofs.Coming as coming
use Rattle.hall_actions.proofs.Readable as readable
use Rattle.hall_actions.proofs.advancing.come_to_next.Goals as goal

pub make_room-requires : goal.make_room-requires
make_room-requires c = let lane = c.in-Ok.lane in
    let r = coming.readable (key_of c.args.row.now) c.args.seat.now c.take_lane.new.seat c.args.deque lane c.requires.may c.in-Ok.ensures.seat c.in-Ok.ensures.meets lane refl refl in
    (record { worker = r.reads.holder; period = r.reads.period }, r.reads.running)

pub run_on-requires-clause-readable : goal.run_on-requires-clause-readable
run_on-requires-clause-readable c = let room = c.in-Ok-make_room.ensures in
    (c.in-Ok.lane, coming.readable (key_of c.args.row.now) c.args.seat.now c.take_lane.new.seat c.args.deque c.in-Ok.lane c.requires.may c.in-Ok.ensures.seat c.in-Ok.ensures.meets c.make_room.new.lane room.items room.shown)

pub give_short_back-requires-clause-short : goal.give_short_back-requires-clause-short
give_short_back-requires-clause-short c = let room = c.in-Err-make_room.ensures in let key = key_of c.args.row.now in
    readable.short key c.take_lane.new.seat c.args.deque c.in-Ok.lane c.make_room.new.lane
    (coming.readable key c.args.seat.now c.take_lane.new.seat c.args.deque c.in-Ok.lane c.requires.may c.in-Ok.ensures.seat c.in-Ok.ensures.meets c.make_room.new.lane room.items room.shown)

pub returns-in-Ok-make_room-clause-seat : goal.returns-in-Ok-make_room-clause-seat
returns-in-Ok-make_room-clause-seat c = let room = c.in-Ok-make_room.ensures in let key = key_of c.args.row.now in let lane = c.in-Ok.lane in
    coming.has_come key c.args.seat.now c.take_lane.new.seat c.args.deque lane c.requires.may c.in-Ok.ensures.seat c.make_room.new.memory c.run_on.result c.run_on.new.seat
    (c.run_on.ensures lane (spare c.make_room.new.memory.births)
    (coming.readable key c.args.seat.now c.take_lane.new.seat c.args.deque lane c.requires.may c.in-Ok.ensures.seat c.in-Ok.ensures.meets c.make_room.new.lane room.items room.shown) room.room)

pub returns-in-Ok-make_room-clause-meets : goal.returns-in-Ok-make_room-clause-meets
returns-in-Ok-make_room-clause-meets c = let room = c.in-Ok-make_room.ensures in let key = key_of c.args.row.now in let lane = c.in-Ok.lane in
    coming.still_meets key c.take_lane.new.seat lane (spare c.make_room.new.memory.births) c.run_on.result c.run_on.new.seat
    (c.run_on.ensures lane (spare c.make_room.new.memory.births)
    (coming.readable key c.args.seat.now c.take_lane.new.seat c.args.deque lane c.requires.may c.in-Ok.ensures.seat c.in-Ok.ensures.meets c.make_room.new.lane room.items room.shown) room.room)
    c.in-Ok.ensures.meets

pub returns-in-Ok-make_room-clause-lone : goal.returns-in-Ok-make_room-clause-lone
returns-in-Ok-make_room-clause-lone c all = let room = c.in-Ok-make_room.ensures in let key = key_of c.args.row.now in let lane = c.in-Ok.lane in
    coming.not_busy key c.take_lane.new.seat lane (spare c.make_room.new.memory.births) c.run_on.result c.run_on.new.seat
    (c.run_on.ensures lane (spare c.make_room.new.memory.births)
    (coming.readable key c.args.seat.now c.take_lane.new.seat c.args.deque lane c.requires.may c.in-Ok.ensures.seat c.in-Ok.ensures.meets c.make_room.new.lane room.items room.shown) room.room)
