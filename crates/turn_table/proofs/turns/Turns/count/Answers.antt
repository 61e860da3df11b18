use Rattle.std.proofs.Common.{arith, sym, ap, ◌∙◌, subst}
use Rattle.turn_table.specs.Hands.{counted}
use Rattle.turn_table.specs.Law.{CountKeeps, Meets}
use Rattle.turn_table.specs.Rows.{turn_word}
use Rattle.turn_table.proofs.Steps.{draws}
use Rattle.turn_table.proofs.Sits.{placed_is, placed_after, view_after, in_place}
use Rattle.turn_table.proofs.turns.Turns.count.Goals as goal

pub fetch_add-requires : goal.fetch_add-requires
fetch_add-requires g c = let table = c.args.self.now.table.shared.table_id in let is = placed_is table c.seat.inside.seat c.args.seat.now c.seat.view_is c.requires.here.0 in (
  ap (λ x. x.table) c.seat.view_is ∙ c.requires.here.0,
  (let e = c.slot_count-last.ensures in let w = c.args.self.now.sized.0 in omega arith),
  draws g.L.TurnLaw.fact g.L.TurnLaw.blank c.args.self.now.table.shared.key table (turn_word c.slot_count-last.result) c.seat.inside.seat.id c.seat.inside.seat.me g.M.Notes.note (ap turn_word c.slot_count-last.ensures) c.seat.invariant.1
      (subst (λ x. CountKeeps g.L.TurnLaw.fact g.L.TurnLaw.blank c.args.self.now.table.shared.key.key.value x g.M.Notes.note) (sym is) c.requires.keeps),
)

pub invariant_of-seat : goal.invariant_of-seat
invariant_of-seat g c = in_place c.seat.inside.seat c.fetch_add.new.seat _ _ c.fetch_add.ensures.2.0 c.seat.invariant.0 c.seat.invariant.1 c.fetch_add.ensures.0 c.seat.invariant.2

pub returns-clause-seat : goal.returns-clause-seat
returns-clause-seat g c = view_after (λ h. counted g.M.Notes.note h c.fetch_add.result) c.seat.inside.seat c.fetch_add.new.seat c.args.seat.now c.seat.view_is c.fetch_add.ensures.0 c.fetch_add.ensures.1 (ap (λ m. m.0) c.fetch_add.ensures.2.0)

pub returns-clause-meets : goal.returns-clause-meets
returns-clause-meets g c = let table = c.args.self.now.table.shared.table_id in
    subst (Meets g.L.TurnLaw.fact g.L.TurnLaw.blank c.args.self.now.table.shared.key.key.value)
    (placed_after table c.seat.inside.seat c.fetch_add.new.seat c.args.seat.now c.seat.view_is c.requires.here.0 c.fetch_add.ensures.0 c.fetch_add.ensures.1) c.fetch_add.ensures.2.1
