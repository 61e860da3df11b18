use Rattle.std.proofs.Common.{◌+◌, ◌<◌, subst}
use Rattle.turn_table.specs.Tables.{key_of}
use Rattle.turn_table.proofs.Standing.{slots_of_seat}
use Rattle.hall_slots.specs.declared.slot.Slot.TheVariants as slots
use Rattle.hall_thief.proofs.Ended.{backed, ends_steal, lane_still, list_still}
use Rattle.hall_thief.proofs.Robbed.{held_two, inside, its_id_is_free, not_held}
use Rattle.hall_thief.proofs.stealing.steal_bottom.Goals as goal

pub take_lane-requires-clause-slot : goal.take_lane-requires-clause-slot
take_lane-requires-clause-slot c = (
  subst (λ n. c.args.id.0 + 2 < n) (slots_of_seat c.args.row.now c.args.seat.now c.requires.here)
      (its_id_is_free (key_of c.args.row.now) c.args.prey.list c.args.prey.place c.args.prey.lane c.args.seat.now c.requires.stealing.has c.args.victim c.requires.stealing.there c.requires.stealing.meets c.args.id c.requires.below),
  not_held (key_of c.args.row.now) c.args.prey.list c.args.prey.place c.args.prey.lane c.args.seat.now c.requires.stealing.has c.args.victim c.requires.stealing.there c.args.id c.requires.next,
)

pub steal_into-requires-clause-both : goal.steal_into-requires-clause-both
steal_into-requires-clause-both c = record { before = c.args.seat.now; prey = c.requires.stealing.has; taken = c.in-Ok.ensures.seat }

pub returns-in-Ok-clause-seat : goal.returns-in-Ok-clause-seat
returns-in-Ok-clause-seat c = ends_steal c.args.prey.list c.args.victim c.args.prey.lane c.args.id c.in-Ok.new c.args.seat.now c.take_lane.new.seat c.steal_into.new.seat c.in-Ok.ensures.seat c.requires.two c.requires.next c.requires.few
    c.steal_into.result c.steal_into.ensures.seat

pub give_lane_back-requires-clause-slot : goal.give_lane_back-requires-clause-slot
give_lane_back-requires-clause-slot c = subst (λ n. c.args.victim.id.0 + 2 < n) (slots_of_seat c.args.row.now c.args.seat.now c.requires.here)
    (inside (key_of c.args.row.now) c.args.prey.list c.args.prey.place c.args.prey.lane c.args.seat.now c.requires.stealing.has c.args.victim c.requires.stealing.there c.requires.stealing.meets)

pub give_lane_back-requires-clause-held : goal.give_lane_back-requires-clause-held
give_lane_back-requires-clause-held c = lane_still c.args.seat.now c.take_lane.new.seat (c.args.id.0 + 2) c.in-Err.held c.args.victim.id.0 (slots.Lane c.args.prey.lane) (slots.List c.args.prey.list)
    (held_two (key_of c.args.row.now) c.args.prey.list c.args.prey.place c.args.prey.lane c.args.seat.now c.requires.stealing.has c.args.victim c.requires.stealing.there) c.in-Err.ensures.seat

pub give_list_back-requires-clause-held : goal.give_list_back-requires-clause-held
give_list_back-requires-clause-held c = list_still c.args.seat.now c.take_lane.new.seat (c.args.id.0 + 2) c.in-Err.held c.args.victim.id.0 (slots.Lane c.args.prey.lane) (slots.List c.args.prey.list)
    (held_two (key_of c.args.row.now) c.args.prey.list c.args.prey.place c.args.prey.lane c.args.seat.now c.requires.stealing.has c.args.victim c.requires.stealing.there) c.in-Err.ensures.seat
    c.give_lane_back.new.seat c.give_lane_back.ensures.seat

pub returns-in-Err-clause-seat : goal.returns-in-Err-clause-seat
returns-in-Err-clause-seat c = (
  record { id = c.args.id; two = c.requires.two; next = c.requires.next; few = c.requires.few; its_lane = c.in-Err.ensures.seat.0 },
  backed c.args.seat.now c.take_lane.new.seat (c.args.id.0 + 2) c.in-Err.held c.args.victim.id.0 (slots.Lane c.args.prey.lane) (slots.List c.args.prey.list)
      (held_two (key_of c.args.row.now) c.args.prey.list c.args.prey.place c.args.prey.lane c.args.seat.now c.requires.stealing.has c.args.victim c.requires.stealing.there) c.in-Err.ensures.seat
      c.give_lane_back.new.seat c.give_lane_back.ensures.seat c.give_list_back.new.seat c.give_list_back.ensures.seat,
)
