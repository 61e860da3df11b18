use Rattle.std.proofs.Common.{◌+◌, ◌<◌, [], ◌∷◌, inl, refl, sym, ap, ◌∙◌, subst}
use Rattle.turn_table.proofs.Left.{left_of_one, first_of_two}
use Rattle.turn_table.specs.Backs.{unchanged}
use Rattle.hall_parts.specs.HallNames.{SeatNote, HallSeat, HasAs}
use Rattle.hall_slots.specs.declared.slot.Slot.TheVariants as slots
use Rattle.hall_parts.specs.Puts.{note_of}
use Rattle.hall_parts.proofs.Putting.{given_back}
use Rattle.hall_parts.proofs.puts.put_all.Goals as goal

pub list_of-requires : goal.list_of-requires
list_of-requires c = (c.args.list, refl)

pub give_list_back-requires-clause-here : goal.give_list_back-requires-clause-here
give_list_back-requires-clause-here c =
    let put = c.write_all.ensures c.args.list c.args.lane refl refl in
    (ap (λ (s : HallSeat). s.table) put ∙ c.requires.here.0, ap (λ (s : HallSeat). s.key) put ∙ c.requires.here.1)

pub give_list_back-requires-clause-placed : goal.give_list_back-requires-clause-placed
give_list_back-requires-clause-placed c =
    subst (λ (n : SeatNote). 0 < n.places) (sym (ap (λ (s : HallSeat). s.hand.note) (c.write_all.ensures c.args.list c.args.lane refl refl))) c.requires.may.placed

pub give_list_back-requires-clause-held : goal.give_list_back-requires-clause-held
give_list_back-requires-clause-held c =
    subst (HasAs 0 (slots.List c.list_of.result)) (sym (ap (λ (s : HallSeat). s.hand.holds) (c.write_all.ensures c.args.list c.args.lane refl refl))) (inl (refl, c.list_of.ensures))

pub give_lane_back-requires-clause-here : goal.give_lane_back-requires-clause-here
give_lane_back-requires-clause-here c =
    let put = given_back c.args.seat.now c.write_all.new.seat c.give_list_back.new.seat (note_of c.args.seat.now.hand.note c.args.noting) 0
    ((0, slots.List c.args.list) ∷ (c.args.deque.0 + 2, slots.Lane c.args.lane) ∷ []) ((c.args.deque.0 + 2, slots.Lane c.args.lane) ∷ [])
    (c.write_all.ensures c.args.list c.args.lane refl refl) c.give_list_back.ensures.seat (first_of_two unchanged 0 (c.args.deque.0 + 2) (slots.List c.args.list) (slots.Lane c.args.lane)) in
    (ap (λ (s : HallSeat). s.table) put ∙ c.requires.here.0, ap (λ (s : HallSeat). s.key) put ∙ c.requires.here.1)

pub give_lane_back-requires-clause-placed : goal.give_lane_back-requires-clause-placed
give_lane_back-requires-clause-placed c =
    let put = given_back c.args.seat.now c.write_all.new.seat c.give_list_back.new.seat (note_of c.args.seat.now.hand.note c.args.noting) 0
    ((0, slots.List c.args.list) ∷ (c.args.deque.0 + 2, slots.Lane c.args.lane) ∷ []) ((c.args.deque.0 + 2, slots.Lane c.args.lane) ∷ [])
    (c.write_all.ensures c.args.list c.args.lane refl refl) c.give_list_back.ensures.seat (first_of_two unchanged 0 (c.args.deque.0 + 2) (slots.List c.args.list) (slots.Lane c.args.lane)) in
    subst (λ (n : SeatNote). 0 < n.places) (sym (ap (λ (s : HallSeat). s.hand.note) put)) c.requires.may.placed

pub give_lane_back-requires-clause-held : goal.give_lane_back-requires-clause-held
give_lane_back-requires-clause-held c =
    let put = given_back c.args.seat.now c.write_all.new.seat c.give_list_back.new.seat (note_of c.args.seat.now.hand.note c.args.noting) 0
    ((0, slots.List c.args.list) ∷ (c.args.deque.0 + 2, slots.Lane c.args.lane) ∷ []) ((c.args.deque.0 + 2, slots.Lane c.args.lane) ∷ [])
    (c.write_all.ensures c.args.list c.args.lane refl refl) c.give_list_back.ensures.seat (first_of_two unchanged 0 (c.args.deque.0 + 2) (slots.List c.args.list) (slots.Lane c.args.lane)) in
    subst (HasAs (c.args.deque.0 + 2) (slots.Lane c.lane_of.result)) (sym (ap (λ (s : HallSeat). s.hand.holds) put)) (inl (refl, c.lane_of.ensures))

pub returns : goal.returns
returns c =
    given_back c.args.seat.now c.give_list_back.new.seat c.give_lane_back.new.seat (note_of c.args.seat.now.hand.note c.args.noting) (c.args.deque.0 + 2)
    ((c.args.deque.0 + 2, slots.Lane c.args.lane) ∷ []) []
    (given_back c.args.seat.now c.write_all.new.seat c.give_list_back.new.seat (note_of c.args.seat.now.hand.note c.args.noting) 0
    ((0, slots.List c.args.list) ∷ (c.args.deque.0 + 2, slots.Lane c.args.lane) ∷ []) ((c.args.deque.0 + 2, slots.Lane c.args.lane) ∷ [])
    (c.write_all.ensures c.args.list c.args.lane refl refl) c.give_list_back.ensures.seat (first_of_two unchanged 0 (c.args.deque.0 + 2) (slots.List c.args.list) (slots.Lane c.args.lane)))
    c.give_lane_back.ensures.seat (left_of_one unchanged (c.args.deque.0 + 2) (c.args.deque.0 + 2) (slots.Lane c.args.lane) refl)
