use Rattle.std.proofs.Common.{◌+◌, ◌<◌, inl, refl, sym, ap, ◌∙◌, subst}
use Rattle.hall_thief.specs.HallNames.{HasAs, SeatNote, HallSeat}
use Rattle.hall_slots.specs.declared.slot.Slot.TheVariants as slots
use Rattle.hall_thief.proofs.PutOver.{stolen_back}
use Rattle.hall_thief.proofs.puts.put_over.Goals as goal

pub give_lane_back-requires-clause-here : goal.give_lane_back-requires-clause-here
give_lane_back-requires-clause-here c = let stolen = c.write_over.ensures c.args.lane refl in
    (ap (λ (s : HallSeat). s.table) stolen ∙ c.requires.here.0, ap (λ (s : HallSeat). s.key) stolen ∙ c.requires.here.1)

pub give_lane_back-requires-clause-placed : goal.give_lane_back-requires-clause-placed
give_lane_back-requires-clause-placed c = let stolen = c.write_over.ensures c.args.lane refl in
    subst (λ (n : SeatNote). 0 < n.places) (sym (ap (λ (s : HallSeat). s.hand.note) stolen)) c.requires.stolen.thief.placed

pub give_lane_back-requires-clause-held : goal.give_lane_back-requires-clause-held
give_lane_back-requires-clause-held c = let stolen = c.write_over.ensures c.args.lane refl in
    subst (HasAs (c.args.deque.0 + 2) (slots.Lane c.lane_in.result)) (sym (ap (λ (s : HallSeat). s.hand.holds) stolen)) (inl (refl, c.lane_in.ensures))

pub returns-clause-seat : goal.returns-clause-seat
returns-clause-seat c = stolen_back c.args.seat.now c.write_over.new.seat c.give_lane_back.new.seat c.args.deque c.args.list c.args.lane (c.write_over.ensures c.args.lane refl) c.give_lane_back.ensures.seat
