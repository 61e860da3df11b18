use Rattle.std.proofs.Common.{arith, sym, ap, ◌∙◌, subst}
use Rattle.turn_table.specs.Law.{SplitKeeps}
use Rattle.turn_table.proofs.Comings.{splits}
use Rattle.turn_table.proofs.Sits.{placed_is}
use Rattle.turn_table.proofs.turns.Turns.split_seat.Goals as goal

pub split_seat-seat-requires : goal.split_seat-seat-requires
split_seat-seat-requires g c = let table = c.args.self.now.table.shared.table_id in let w = c.args.self.now.sized.0 in let is = placed_is table c.seat.inside.seat c.args.seat.now c.seat.view_is c.requires.here.0 in (
  ap (λ x. x.table) c.seat.view_is ∙ c.requires.here.0,
  omega arith,
  splits g.L.TurnLaw.fact g.L.TurnLaw.blank c.args.self.now.table.shared.key table c.seat.inside.seat.id c.seat.inside.seat.me.0 _ _ c.seat.invariant.1
      (subst (λ x. SplitKeeps g.L.TurnLaw.fact g.L.TurnLaw.blank c.args.self.now.table.shared.key.key.value x (g.M.Splits.left x.hand) (g.M.Splits.right x.hand)) (sym is) c.requires.keeps) c.args.self.now.told,
)
