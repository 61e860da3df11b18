use Rattle.std.proofs.Common.{◌+◌, inl, refl, sym, ap, subst}
use Rattle.hall_thief.specs.HallNames.{HasAs, key_of, HallSeat}
use Rattle.hall_slots.specs.declared.slot.Slot.TheVariants as slots
use Rattle.hall_thief.proofs.PutOver.{stolen_back}
use Rattle.hall_thief.proofs.PutBeside.{victim_back}
use Rattle.hall_thief.proofs.puts.put_beside.Goals as goal

pub give_lane_back-requires-2-clause-held : goal.give_lane_back-requires-2-clause-held
give_lane_back-requires-2-clause-held c =
    let one = victim_back (key_of c.args.row.now) c.args.seat.now c.args.list c.args.victim c.args.lane c.args.deque c.args.new c.requires.stolen c.write_beside.new.seat c.give_lane_back.new.seat
    (c.write_beside.ensures c.args.lane c.args.new refl refl) c.give_lane_back.ensures.seat in
    subst (HasAs (c.args.deque.0 + 2) (slots.Lane c.lane_in-2.result)) (sym (ap (λ (s : HallSeat). s.hand.holds) one)) (inl (refl, c.lane_in-2.ensures))

pub returns-clause-seat : goal.returns-clause-seat
returns-clause-seat c =
    let one = victim_back (key_of c.args.row.now) c.args.seat.now c.args.list c.args.victim c.args.lane c.args.deque c.args.new c.requires.stolen c.write_beside.new.seat c.give_lane_back.new.seat
    (c.write_beside.ensures c.args.lane c.args.new refl refl) c.give_lane_back.ensures.seat in
    stolen_back c.args.seat.now c.give_lane_back.new.seat c.give_lane_back-2.new.seat c.args.deque c.args.list c.args.new one c.give_lane_back-2.ensures.seat
