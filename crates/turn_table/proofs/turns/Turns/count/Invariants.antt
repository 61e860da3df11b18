use Rattle.turn_table.specs.Steps.{Drew}
use Rattle.turn_table.proofs.turns.Turns.count.Given as goal

abbrev pub ghosts-fetch_add : goal.ghosts-fetch_add
ghosts-fetch_add g a = record { then = λ _ m n m'. Drew g.L.TurnLaw.fact g.L.TurnLaw.blank a.self.now.key.key.value a.self.now.table_id a.seat.now.id g.M.Notes.note m n m' }
