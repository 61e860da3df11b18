use Rattle.list_changes.proofs.Putting.{live, one_back}
use Rattle.list_changes.proofs.Leaving.{woken}
use Rattle.list_changes.proofs.left.end_and_wake.Goals as goal

pub push_top-requires-clause-live : goal.push_top-requires-clause-live
push_top-requires-clause-live g c = live c.requires.stands

pub returns-clause-ends : goal.returns-clause-ends
returns-clause-ends g c = woken c.args.list.now c.args.table.now c.push_top.new.self c.note.new.self c.args.name c.args.parent c.push_top.ensures.deque c.note.ensures.periods

pub returns-clause-deques : goal.returns-clause-deques
returns-clause-deques g c stands = one_back stands c.push_top.new.self c.args.parent c.push_top.ensures.deque c.push_top.ensures.rest

pub returns-clause-seats : goal.returns-clause-seats
returns-clause-seats g c = record { deques = c.note.ensures.deques; begun = c.note.ensures.begun; workers = c.note.ensures.workers }
