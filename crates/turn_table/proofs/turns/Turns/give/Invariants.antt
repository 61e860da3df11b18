use Rattle.turn_table.specs.Steps.{Fronted, Gave, OfWord}
use Rattle.turn_table.proofs.turns.Turns.give.Given as goal

abbrev pub ghosts-load : goal.ghosts-load
ghosts-load g a = record { then = λ _ m _ m'. OfWord a.word (λ i. Fronted i m m') }

abbrev pub ghosts-store : goal.ghosts-store
ghosts-store g a = record { then = λ _ m _ m'. OfWord a.word (λ i. Gave g.L.TurnLaw.fact g.L.TurnLaw.blank a.self.now.key.key.value a.self.now.table_id a.seat.now.id i g.M.Puts.note g.shows m m') }
