use Rattle.std.proofs.Common.{arith, sym, ap, ◌∙◌, subst}
use Rattle.turn_table.specs.Law.{JoinKeeps}
use Rattle.turn_table.specs.Seats.{SeatView, vacant}
use Rattle.turn_table.specs.Steps.{placed}
use Rattle.turn_table.proofs.Comings.{joins}
use Rattle.turn_table.proofs.Sits.{placed_is}
use Rattle.turn_table.proofs.turns.Turns.join_seat.Goals as goal

pub join_seat-requires : goal.join_seat-requires
join_seat-requires g c = let table = c.args.self.now.table.shared.table_id in let w = c.args.self.now.sized.0 in
    let one = placed_is table c.into.inside.seat c.args.into.now c.into.view_is c.requires.here.0.0 in
    let two = placed_is table c.from.inside.seat c.args.from c.from.view_is c.requires.here.1.0 in
    let keeps = λ (x y : SeatView g.row.L-Key.Denot g.row.V.Denot g.row.L-Note.Denot). JoinKeeps g.L.TurnLaw.fact g.L.TurnLaw.blank c.args.self.now.table.shared.key.key.value x y (g.M.Joins.note x.hand y.hand) in
    let law' = subst (λ x. keeps x (placed table c.from.inside.seat.id c.from.inside.seat.me.0)) (sym one) (subst (keeps c.args.into.now) (sym two) c.requires.keeps) in
    let empty = ap (λ x. x.hand.holds) c.from.view_is ∙ c.requires.empty in (
      ap (λ x. x.table) c.into.view_is ∙ c.requires.here.0.0,
      ap (λ x. x.table) c.from.view_is ∙ c.requires.here.1.0,
      c.from.invariant.0 ∙ ap vacant empty,
      omega arith,
      joins g.L.TurnLaw.fact g.L.TurnLaw.blank c.args.self.now.table.shared.key table c.into.inside.seat.id c.into.inside.seat.me.0 c.from.inside.seat.id c.from.inside.seat.me.0 _ c.into.invariant.1 empty law' c.args.self.now.told,
    )
