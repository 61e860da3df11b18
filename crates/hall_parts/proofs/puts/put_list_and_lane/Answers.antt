use Rattle.std.proofs.Common.{◌+◌, ◌<◌, [], ◌∷◌, inl, refl, sym, ap, ◌∙◌, subst}
use Rattle.turn_table.proofs.Left.{left_of_one}
use Rattle.turn_table.specs.Backs.{unchanged}
use Rattle.hall_parts.specs.HallNames.{SeatNote, HallSeat, HasAs}
use Rattle.hall_slots.specs.declared.slot.Slot.TheVariants as slots
use Rattle.hall_parts.specs.Puts.{note_of}
use Rattle.hall_parts.proofs.Putting.{given_back}
use Rattle.hall_parts.proofs.puts.put_list_and_lane.Goals as goal

pub give_lane_back-requires-clause-here : goal.give_lane_back-requires-clause-here
give_lane_back-requires-clause-here c =
    let put = c.write_list.ensures c.args.lane refl in
    (ap (λ (s : HallSeat). s.table) put ∙ c.requires.here.0, ap (λ (s : HallSeat). s.key) put ∙ c.requires.here.1)

pub give_lane_back-requires-clause-placed : goal.give_lane_back-requires-clause-placed
give_lane_back-requires-clause-placed c =
    subst (λ (n : SeatNote). 0 < n.places) (sym (ap (λ (s : HallSeat). s.hand.note) (c.write_list.ensures c.args.lane refl))) c.requires.may.placed

pub give_lane_back-requires-clause-held : goal.give_lane_back-requires-clause-held
give_lane_back-requires-clause-held c =
    subst (HasAs (c.args.deque.0 + 2) (slots.Lane c.lane_of.result)) (sym (ap (λ (s : HallSeat). s.hand.holds) (c.write_list.ensures c.args.lane refl))) (inl (refl, c.lane_of.ensures))

pub returns : goal.returns
returns c =
    given_back c.args.seat.now c.write_list.new.seat c.give_lane_back.new.seat (note_of c.args.seat.now.hand.note c.args.noting) (c.args.deque.0 + 2)
    ((c.args.deque.0 + 2, slots.Lane c.args.lane) ∷ []) [] (c.write_list.ensures c.args.lane refl) c.give_lane_back.ensures.seat
    (left_of_one unchanged (c.args.deque.0 + 2) (c.args.deque.0 + 2) (slots.Lane c.args.lane) refl)
