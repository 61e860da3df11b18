use Rattle.list_changes.proofs.Putting.{live, pushed, both_back, back_forked}
use Rattle.list_changes.proofs.acted.put_both_back.Goals as goal

pub push_top-requires-clause-live : goal.push_top-requires-clause-live
push_top-requires-clause-live g c = live c.requires.stands.1

pub push_top-requires-2-clause-live : goal.push_top-requires-2-clause-live
push_top-requires-2-clause-live g c = live (pushed c.requires.stands.1 c.push_top.new.self c.args.top c.push_top.ensures.deque)

pub returns-clause-forks : goal.returns-clause-forks
returns-clause-forks g c items shown waiting results k l period was place stands is did =
    back_forked items c.args.list.now c.args.table.now c.push_top-2.new.self c.note.new.self c.args.top c.args.child c.args.name c.args.ordinal c.push_top.new.self c.push_top.ensures.deque c.push_top-2.ensures.deque c.note.ensures.periods
    shown waiting results k l period was place stands is did

pub returns-clause-deques : goal.returns-clause-deques
returns-clause-deques g c items stands =
    both_back stands c.push_top.new.self c.push_top-2.new.self c.args.top c.args.child c.push_top.ensures.deque c.push_top-2.ensures.deque
    c.push_top.ensures.rest c.push_top-2.ensures.rest

pub returns-clause-seats : goal.returns-clause-seats
returns-clause-seats g c = record { deques = c.note.ensures.deques; begun = c.note.ensures.begun; workers = c.note.ensures.workers }
