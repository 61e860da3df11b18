use Rattle.std.proofs.Common.{◌+◌, ◌<◌, refl, ap, ◌∙◌, subst}
use Rattle.turn_table.specs.Tables.{key_of}
use Rattle.turn_table.proofs.Standing.{slots_of_seat}
use Rattle.hall_slots.specs.declared.event.Event.TheVariants.{Stole}
use Rattle.hall_slots.specs.declared.slot.Slot.TheVariants as slots
use Rattle.hall_thief.specs.Stealing.{IsNew}
use Rattle.hall_thief.proofs.Ended.{lane_held, new_held, stolen_now, stopped_three}
use Rattle.hall_thief.proofs.Robbed.{held_three, inside_three, may_take_bottom, new_is_empty}
use Rattle.hall_thief.proofs.stealing.steal_into.Goals as goal

pub take_bottom-requires-clause-slot : goal.take_bottom-requires-clause-slot
take_bottom-requires-clause-slot c = subst (λ n. c.args.id.0 + 2 < n) (slots_of_seat c.args.row.now c.args.seat.now c.requires.here)
    (inside_three (key_of c.args.row.now) c.args.prey.list c.args.prey.place c.args.prey.lane c.args.id c.args.new c.args.seat.now c.requires.both c.args.victim c.requires.victim c.requires.meets).0

pub take_bottom-requires-clause-victim : goal.take_bottom-requires-clause-victim
take_bottom-requires-clause-victim c = subst (λ n. c.args.victim.id.0 + 2 < n) (slots_of_seat c.args.row.now c.args.seat.now c.requires.here)
    (inside_three (key_of c.args.row.now) c.args.prey.list c.args.prey.place c.args.prey.lane c.args.id c.args.new c.args.seat.now c.requires.both c.args.victim c.requires.victim c.requires.meets).1

pub take_bottom-requires-clause-may : goal.take_bottom-requires-clause-may
take_bottom-requires-clause-may c = may_take_bottom (key_of c.args.row.now) c.args.prey.list c.args.prey.place c.args.prey.lane c.args.id c.args.new c.args.seat.now c.requires.both c.args.victim c.requires.victim c.args.thief.worker
    c.next_beside.new.new c.in-Ok.period c.requires.may c.requires.two c.requires.next c.requires.few
    (c.next_beside.ensures.items
    ∙ new_is_empty (key_of c.args.row.now) c.args.prey.list c.args.prey.place c.args.prey.lane c.args.id c.args.new c.args.seat.now c.requires.both c.args.victim c.requires.victim c.requires.meets c.requires.next)
    c.in-Ok.ensures.room c.in-Ok.ensures.period

pub returns-in-Ok : goal.returns-in-Ok
returns-in-Ok c = record {
  seat = (
    ap (λ n. Stole c.args.id n) (IsNew.number_is c.in-Ok.ensures.period),
    (inside_three (key_of c.args.row.now) c.args.prey.list c.args.prey.place c.args.prey.lane c.args.id c.args.new c.args.seat.now c.requires.both c.args.victim c.requires.victim c.requires.meets).0,
    stolen_now c.args.seat.now c.take_bottom.new.seat c.args.id c.in-Ok.period.number (c.args.prey.list.part.begun + 1) (IsNew.number_is c.in-Ok.ensures.period) c.take_bottom.ensures.seat,
  );
}

pub give_same_lane_back-requires-clause-slot : goal.give_same_lane_back-requires-clause-slot
give_same_lane_back-requires-clause-slot c = subst (λ n. c.args.id.0 + 2 < n) (slots_of_seat c.args.row.now c.args.seat.now c.requires.here)
    (inside_three (key_of c.args.row.now) c.args.prey.list c.args.prey.place c.args.prey.lane c.args.id c.args.new c.args.seat.now c.requires.both c.args.victim c.requires.victim c.requires.meets).0

pub give_same_lane_back-requires-clause-same : goal.give_same_lane_back-requires-clause-same
give_same_lane_back-requires-clause-same c = record {
  before = c.args.new;
  held = new_held c.args.seat.now c.put_stopped.new.seat _ c.args.victim.id.0 (slots.Lane c.args.prey.lane) (slots.List c.args.prey.list) c.args.id.0 (slots.Lane c.args.new)
      (held_three (key_of c.args.row.now) c.args.prey.list c.args.prey.place c.args.prey.lane c.args.id c.args.new c.args.seat.now c.requires.both c.args.victim c.requires.victim) c.put_stopped.ensures.seat;
  items = c.next_beside.ensures.items;
  running = c.next_beside.ensures.running;
}

pub give_lane_back-requires-clause-slot : goal.give_lane_back-requires-clause-slot
give_lane_back-requires-clause-slot c = subst (λ n. c.args.victim.id.0 + 2 < n) (slots_of_seat c.args.row.now c.args.seat.now c.requires.here)
    (inside_three (key_of c.args.row.now) c.args.prey.list c.args.prey.place c.args.prey.lane c.args.id c.args.new c.args.seat.now c.requires.both c.args.victim c.requires.victim c.requires.meets).1

pub give_lane_back-requires-clause-held : goal.give_lane_back-requires-clause-held
give_lane_back-requires-clause-held c = lane_held c.args.seat.now c.put_stopped.new.seat _ c.args.victim.id.0 (slots.Lane c.args.prey.lane) (slots.List c.args.prey.list) c.args.id.0 (slots.Lane c.args.new)
    (held_three (key_of c.args.row.now) c.args.prey.list c.args.prey.place c.args.prey.lane c.args.id c.args.new c.args.seat.now c.requires.both c.args.victim c.requires.victim) c.put_stopped.ensures.seat
    c.give_same_lane_back.new.seat c.give_same_lane_back.ensures.seat

pub returns-in-Err : goal.returns-in-Err
returns-in-Err c = record {
  seat = (
    refl,
    stopped_three c.args.seat.now c.put_stopped.new.seat _ c.args.victim.id.0 (slots.Lane c.args.prey.lane) (slots.List c.args.prey.list) c.args.id.0 (slots.Lane c.args.new)
        (held_three (key_of c.args.row.now) c.args.prey.list c.args.prey.place c.args.prey.lane c.args.id c.args.new c.args.seat.now c.requires.both c.args.victim c.requires.victim) c.put_stopped.ensures.seat
        c.give_same_lane_back.new.seat c.give_same_lane_back.ensures.seat c.give_lane_back.new.seat c.give_lane_back.ensures.seat,
  );
}
