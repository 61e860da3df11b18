use Rattle.std.proofs.Common.{◌+◌, ◌<◌, [], inl, refl, ap, subst, arith}
use Rattle.turn_table.specs.Tables.{key_of}
use Rattle.turn_table.proofs.Standing.{slots_of_seat}
use Rattle.hall_slots.specs.declared.event.Event.TheVariants.{Stole}
use Rattle.hall_slots.specs.declared.slot.Slot.TheVariants as slots
use Rattle.hall_thief.specs.Stealing.{IsNew}
use Rattle.hall_thief.proofs.Ended.{stolen_now, stopped_two}
use Rattle.hall_thief.proofs.Robbed.{alone_in_it, held_two, inside, may_take_over, unowned}
use Rattle.hall_thief.proofs.stealing.steal_whole.Goals as goal

pub take_over-requires-clause-slot : goal.take_over-requires-clause-slot
take_over-requires-clause-slot c = subst (λ n. c.args.victim.id.0 + 2 < n) (slots_of_seat c.args.row.now c.args.seat.now c.requires.here)
    (inside (key_of c.args.row.now) c.args.prey.list c.args.prey.place c.args.prey.lane c.args.seat.now c.requires.stealing.has c.args.victim c.requires.stealing.there c.requires.stealing.meets)

pub take_over-requires-clause-may : goal.take_over-requires-clause-may
take_over-requires-clause-may c =
    let one = alone_in_it (key_of c.args.row.now) c.args.prey.list c.args.prey.place c.args.prey.lane c.args.seat.now c.requires.stealing.has c.args.victim c.requires.stealing.there c.requires.stealing.meets c.requires.one in
    may_take_over (key_of c.args.row.now) c.args.prey.list c.args.prey.place c.args.prey.lane c.args.seat.now c.requires.stealing.has c.args.victim c.requires.stealing.there c.args.thief.worker c.in-Ok.period one.0 c.requires.stealing.may one.1
    c.in-Ok.ensures

pub give_lane_back-requires-clause-slot : goal.give_lane_back-requires-clause-slot
give_lane_back-requires-clause-slot c = subst (λ n. c.args.victim.id.0 + 2 < n) (slots_of_seat c.args.row.now c.args.seat.now c.requires.here)
    (inside (key_of c.args.row.now) c.args.prey.list c.args.prey.place c.args.prey.lane c.args.seat.now c.requires.stealing.has c.args.victim c.requires.stealing.there c.requires.stealing.meets)

pub returns-in-Ok-clause-seat : goal.returns-in-Ok-clause-seat
returns-in-Ok-clause-seat c =
    let one = alone_in_it (key_of c.args.row.now) c.args.prey.list c.args.prey.place c.args.prey.lane c.args.seat.now c.requires.stealing.has c.args.victim c.requires.stealing.there c.requires.stealing.meets c.requires.one in (
      c.args.victim.id,
      [],
      inl (record {
        its_id = refl;
        unowned = unowned (key_of c.args.row.now) c.args.prey.list c.args.prey.place c.args.prey.lane c.args.seat.now c.requires.stealing.has c.args.victim c.requires.stealing.there one.0 one.1;
        one = c.requires.one;
        told = refl;
      }),
      (
        ap (λ n. Stole c.args.victim.id n) (IsNew.number_is c.in-Ok.ensures),
        inside (key_of c.args.row.now) c.args.prey.list c.args.prey.place c.args.prey.lane c.args.seat.now c.requires.stealing.has c.args.victim c.requires.stealing.there c.requires.stealing.meets,
        stolen_now c.args.seat.now c.take_over.new.seat c.args.victim.id c.in-Ok.period.number (c.args.prey.list.part.begun + 1) (IsNew.number_is c.in-Ok.ensures) c.take_over.ensures.seat,
      ),
    )

pub returns-in-Err-clause-seat : goal.returns-in-Err-clause-seat
returns-in-Err-clause-seat c = (
  [],
  (λ many. let few = c.requires.one in let two = many.0 in omega (arith, few, two)),
  inl (c.requires.one, refl),
  stopped_two c.args.seat.now c.put_stopped.new.seat c.give_lane_back.new.seat _ c.args.victim.id.0 (slots.Lane c.args.prey.lane) (slots.List c.args.prey.list)
      (held_two (key_of c.args.row.now) c.args.prey.list c.args.prey.place c.args.prey.lane c.args.seat.now c.requires.stealing.has c.args.victim c.requires.stealing.there) c.put_stopped.ensures.seat c.give_lane_back.ensures.seat,
)
