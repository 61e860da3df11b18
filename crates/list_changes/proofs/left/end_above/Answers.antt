use Rattle.list_changes.proofs.Leaving.{ended_above}
use Rattle.list_changes.proofs.left.end_above.Goals as goal

pub returns-clause-ends : goal.returns-clause-ends
returns-clause-ends g c = ended_above c.args.list.now c.args.table.now c.note.new.self c.args.name c.note.ensures.periods

pub returns-clause-seats : goal.returns-clause-seats
returns-clause-seats g c = record { deques = c.note.ensures.deques; begun = c.note.ensures.begun; workers = c.note.ensures.workers }
