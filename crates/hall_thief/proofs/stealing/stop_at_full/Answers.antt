use Rattle.std.proofs.Common.{◌+◌, ◌<◌, [], refl, subst, sym}
use Rattle.turn_table.specs.Tables.{key_of}
use Rattle.turn_table.proofs.Standing.{slots_of_seat}
use Rattle.play_rules.specs.declared.stop.Stop.TheVariants.{DequesFull}
use Rattle.hall_slots.specs.declared.slot.Slot.TheVariants as slots
use Rattle.hall_slots.specs.Stopping.{MayStop}
use Rattle.hall_thief.proofs.Ended.{stopped_two}
use Rattle.hall_thief.proofs.Robbed.{held_two, inside, may_stop_at_full}
use Rattle.hall_thief.proofs.stealing.stop_at_full.Goals as goal

pub put_stopped-requires-clause-may : goal.put_stopped-requires-clause-may
put_stopped-requires-clause-may c = subst (λ n. MayStop (key_of c.args.row.now) c.args.seat.now c.args.prey.list (DequesFull n)) (sym c.most_deques.ensures)
    (may_stop_at_full (key_of c.args.row.now) c.args.prey.list c.args.prey.place c.args.prey.lane c.args.seat.now c.requires.stealing.1.has c.args.victim c.requires.stealing.1.there c.requires.stealing.0 c.requires.stealing.1.may c.requires.stealing.1.meets c.requires.full)

pub give_lane_back-requires-clause-slot : goal.give_lane_back-requires-clause-slot
give_lane_back-requires-clause-slot c = subst (λ n. c.args.victim.id.0 + 2 < n) (slots_of_seat c.args.row.now c.args.seat.now c.requires.here)
    (inside (key_of c.args.row.now) c.args.prey.list c.args.prey.place c.args.prey.lane c.args.seat.now c.requires.stealing.1.has c.args.victim c.requires.stealing.1.there c.requires.stealing.1.meets)

pub returns : goal.returns
returns c = (
  [],
  (c.requires.full, c.most_deques.ensures),
  refl,
  stopped_two c.args.seat.now c.put_stopped.new.seat c.give_lane_back.new.seat _ c.args.victim.id.0 (slots.Lane c.args.prey.lane) (slots.List c.args.prey.list)
      (held_two (key_of c.args.row.now) c.args.prey.list c.args.prey.place c.args.prey.lane c.args.seat.now c.requires.stealing.1.has c.args.victim c.requires.stealing.1.there) c.put_stopped.ensures.seat c.give_lane_back.ensures.seat,
)
