use Rattle.turn_table.specs.Steps.{OfWord, Tried}
use Rattle.turn_table.proofs.turns.Turns.take.Given as goal

abbrev pub ghosts-compare_exchange : goal.ghosts-compare_exchange
ghosts-compare_exchange g a = record { then = λ _ m n m'. OfWord a.word (λ i. Tried g.L.TurnLaw.fact g.L.TurnLaw.blank a.self.now.key.key.value a.self.now.table_id a.seat.now.id i g.M.Notes.note m n m') }
