use Rattle.std.proofs.Common.{◌≡◌}
use Rattle.turn_table.specs.Hands.{fresh}
use Rattle.turn_table.specs.Steps.{with}
use Rattle.turn_table.proofs.turns.Turns.new.Given as goal

abbrev pub ghosts-load : goal.ghosts-load
ghosts-load g a = record { then = λ _ m _ m'. m' ≡ (with m.0 (fresh (g.M.Opens.note g.L.TurnLaw.blank)), m.1) }
