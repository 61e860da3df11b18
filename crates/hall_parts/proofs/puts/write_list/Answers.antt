use Rattle.std.proofs.Common.{◌+◌, [], ◌∷◌, sym, ap, ◌∙◌}
use Rattle.turn_table.specs.Hands.{shown_by}
use Rattle.hall_parts.specs.HallNames.{key_of, Slot}
use Rattle.hall_slots.specs.declared.slot.Slot.TheVariants as slots
use Rattle.hall_parts.proofs.Putting.{list_keeps, list_left, has_put, named_here}
use Rattle.hall_parts.proofs.puts.write_list.Goals as goal

pub put_back_showing-requires-clause-keeps : goal.put_back_showing-requires-clause-keeps
put_back_showing-requires-clause-keeps g c =
    let may = c.requires.1.1 in
    list_keeps (key_of c.args.row.now) c.args.seat.now g.note (shown_by ((c.args.deque.0 + 2, c.args.lane.now) ∷ [])) c.args.deque c.args.list may.0
    (λ found. named_here c.args.deque.0 c.args.lane.now found ∙ may.1) may.2

pub returns : goal.returns
returns g c part is =
    let may = c.requires.1.1 in
    has_put (key_of c.args.row.now) c.args.seat.now g.note (shown_by ((c.args.deque.0 + 2, c.args.lane.now) ∷ [])) 0 ((c.args.deque.0 + 2, slots.Lane part) ∷ [])
    (list_left (key_of c.args.row.now) c.args.seat.now g.note (shown_by ((c.args.deque.0 + 2, c.args.lane.now) ∷ [])) c.args.deque c.args.list may.0
    (λ found. named_here c.args.deque.0 c.args.lane.now found ∙ may.1) may.2 ∙ ap (λ (s : Slot). (c.args.deque.0 + 2, s) ∷ []) (sym may.1 ∙ is))
    c.put_back_showing.new.seat c.put_back_showing.ensures.seat
