use Rattle.list_changes.proofs.Putting.{live, one_back, back_alone, back_joined}
use Rattle.list_changes.proofs.acted.put_back.Goals as goal

pub push_top-requires-clause-live : goal.push_top-requires-clause-live
push_top-requires-clause-live g c = live c.requires.stands.1

pub returns-clause-alone : goal.returns-clause-alone
returns-clause-alone g c items shown waiting results k l period was place stands is did =
    back_alone items c.args.list.now c.args.table.now c.push_top.new.self c.note.new.self c.args.top c.args.name c.args.words c.push_top.ensures.deque c.note.ensures.periods
    shown waiting results k l period was place stands is did

pub returns-clause-joins : goal.returns-clause-joins
returns-clause-joins g c items shown waiting results k l period was place stands is did =
    back_joined items c.args.list.now c.args.table.now c.push_top.new.self c.note.new.self c.args.top c.args.name c.args.words c.push_top.ensures.deque c.note.ensures.periods
    shown waiting results k l period was place stands is did

pub returns-clause-deques : goal.returns-clause-deques
returns-clause-deques g c items stands = one_back stands c.push_top.new.self c.args.top c.push_top.ensures.deque c.push_top.ensures.rest

pub returns-clause-seats : goal.returns-clause-seats
returns-clause-seats g c = record { deques = c.note.ensures.deques; begun = c.note.ensures.begun; workers = c.note.ensures.workers }
