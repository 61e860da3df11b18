use Rattle.std.proofs.Common.{◌+◌, [], ◌∷◌, sym, ◌∙◌, subst}
use Rattle.turn_table.specs.Hands.{shown_by}
use Rattle.hall_thief.specs.HallNames.{key_of, Slot}
use Rattle.hall_thief.specs.Thefts.{StealsInto}
use Rattle.hall_thief.proofs.PutOver.{named_here, over_keeps, over_stolen}
use Rattle.hall_thief.proofs.puts.write_over.Goals as goal

pub put_back_showing-requires-clause-keeps : goal.put_back_showing-requires-clause-keeps
put_back_showing-requires-clause-keeps g c = let stolen = c.requires.1.1.1 in
    over_keeps (key_of c.args.row.now) c.args.seat.now c.args.list c.args.deque stolen.0 stolen.2 (shown_by ((c.args.deque.0 + 2, c.args.lane.now) ∷ []))
    (λ found. named_here c.args.deque.0 c.args.lane.now found ∙ stolen.1) (λ hand. g.note) c.requires.1.1.0

pub returns : goal.returns
returns g c part is = let stolen = c.requires.1.1.1 in
    subst (λ (s : Slot). StealsInto c.args.seat.now c.args.deque c.args.list ((c.args.deque.0 + 2, s) ∷ []) c.put_back_showing.new.seat) (sym stolen.1 ∙ is)
    (over_stolen (key_of c.args.row.now) c.args.seat.now c.args.list c.args.deque stolen.0 stolen.2 (shown_by ((c.args.deque.0 + 2, c.args.lane.now) ∷ []))
    (λ found. named_here c.args.deque.0 c.args.lane.now found ∙ stolen.1) (λ hand. g.note) c.requires.1.1.0 c.put_back_showing.new.seat c.put_back_showing.ensures.seat)
