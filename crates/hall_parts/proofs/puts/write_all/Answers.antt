use Rattle.std.proofs.Common.{◌+◌, [], ◌∷◌, sym, ◌∙◌}
use Rattle.turn_table.specs.Hands.{shown_by}
use Rattle.turn_table.specs.Tables.{key_of}
use Rattle.hall_slots.specs.declared.slot.Slot.TheVariants as slots
use Rattle.hall_parts.proofs.Putting.{all_keeps, all_left, has_put, named_after}
use Rattle.hall_parts.proofs.puts.write_all.Goals as goal

pub put_back_showing-requires-clause-keeps : goal.put_back_showing-requires-clause-keeps
put_back_showing-requires-clause-keeps g c =
    let may = c.requires.1.1 in
    all_keeps (key_of c.args.row.now) c.args.seat.now g.note (shown_by ((0, c.args.list.now) ∷ (c.args.deque.0 + 2, c.args.lane.now) ∷ [])) c.args.deque may.0 c.args.pool may.1
    (λ found. may.2) (λ found. named_after c.args.deque.0 c.args.list.now c.args.lane.now found ∙ may.3) may.4

pub returns : goal.returns
returns g c first part is_list is_lane =
    let may = c.requires.1.1 in
    has_put (key_of c.args.row.now) c.args.seat.now g.note (shown_by ((0, c.args.list.now) ∷ (c.args.deque.0 + 2, c.args.lane.now) ∷ [])) 1
    ((0, slots.List first) ∷ (c.args.deque.0 + 2, slots.Lane part) ∷ [])
    (all_left (key_of c.args.row.now) c.args.seat.now g.note (shown_by ((0, c.args.list.now) ∷ (c.args.deque.0 + 2, c.args.lane.now) ∷ [])) c.args.deque may.0 c.args.pool may.1
    (λ found. may.2) (λ found. named_after c.args.deque.0 c.args.list.now c.args.lane.now found ∙ may.3) may.4
    ∙ (λ i. (0, (sym may.2 ∙ is_list) i) ∷ (c.args.deque.0 + 2, (sym may.3 ∙ is_lane) i) ∷ []))
    c.put_back_showing.new.seat c.put_back_showing.ensures.seat
