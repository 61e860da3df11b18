use Rattle.std.proofs.Common.{◌+◌, [], ◌∷◌, sym, ◌∙◌, subst}
use Rattle.turn_table.specs.Hands.{shown_by}
use Rattle.hall_thief.specs.HallNames.{key_of, Slot}
use Rattle.hall_thief.specs.Thefts.{StealsInto}
use Rattle.hall_thief.proofs.Beside.{ids_apart}
use Rattle.hall_thief.proofs.PutBeside.{named_first, named_second, beside_keeps, beside_stolen}
use Rattle.hall_thief.proofs.puts.write_beside.Goals as goal

pub put_back_showing-requires-clause-keeps : goal.put_back_showing-requires-clause-keeps
put_back_showing-requires-clause-keeps g c = let stolen = c.requires.1.1.1 in
    let apart = ids_apart (key_of c.args.row.now) c.args.seat.now c.args.list c.args.victim stolen.0 c.args.deque stolen.1 stolen.4 in
    beside_keeps (key_of c.args.row.now) c.args.seat.now c.args.list c.args.victim stolen.0 c.args.deque stolen.1 stolen.4 (shown_by ((c.args.victim.0 + 2, c.args.lane.now) ∷ (c.args.deque.0 + 2, c.args.new.now) ∷ []))
    (λ found. named_first c.args.victim.0 c.args.deque.0 c.args.lane.now c.args.new.now found ∙ stolen.2)
    (λ found. named_second c.args.victim.0 c.args.deque.0 c.args.lane.now c.args.new.now found apart ∙ stolen.3) (λ hand. g.note) c.requires.1.1.0

pub returns : goal.returns
returns g c part begun is begun_is = let stolen = c.requires.1.1.1 in
    let apart = ids_apart (key_of c.args.row.now) c.args.seat.now c.args.list c.args.victim stolen.0 c.args.deque stolen.1 stolen.4 in
    subst (λ (s : Slot × Slot). StealsInto c.args.seat.now c.args.deque c.args.list ((c.args.deque.0 + 2, s.0) ∷ (c.args.victim.0 + 2, s.1) ∷ []) c.put_back_showing.new.seat)
    (λ k. ((sym stolen.3 ∙ begun_is) k, (sym stolen.2 ∙ is) k))
    (beside_stolen (key_of c.args.row.now) c.args.seat.now c.args.list c.args.victim stolen.0 c.args.deque stolen.1 stolen.4 (shown_by ((c.args.victim.0 + 2, c.args.lane.now) ∷ (c.args.deque.0 + 2, c.args.new.now) ∷ []))
    (λ found. named_first c.args.victim.0 c.args.deque.0 c.args.lane.now c.args.new.now found ∙ stolen.2)
    (λ found. named_second c.args.victim.0 c.args.deque.0 c.args.lane.now c.args.new.now found apart ∙ stolen.3) (λ hand. g.note) c.requires.1.1.0 c.put_back_showing.new.seat c.put_back_showing.ensures.seat)
