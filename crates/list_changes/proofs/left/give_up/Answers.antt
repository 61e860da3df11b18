use Rattle.list_changes.proofs.Putting.{live, pushed, back_unowned}
use Rattle.list_changes.proofs.Leaving.{gave_up}
use Rattle.list_changes.proofs.Seating.{left_by_close}
use Rattle.list_changes.proofs.left.give_up.Goals as goal

pub push_top-requires-clause-live : goal.push_top-requires-clause-live
push_top-requires-clause-live g c = live c.requires.stands.1

pub give_up-requires : goal.give_up-requires
give_up-requires g c = live (pushed c.requires.stands.1 c.push_top.new.self c.args.top c.push_top.ensures.deque)

pub returns-clause-gives_up : goal.returns-clause-gives_up
returns-clause-gives_up g c items = gave_up c.args.list.now c.args.table.now c.give_up.new.self c.close.new.self items c.args.top c.push_top.new.self c.push_top.ensures.deque c.give_up.ensures.deque c.close.ensures.periods

pub returns-clause-deques : goal.returns-clause-deques
returns-clause-deques g c items stands =
    back_unowned stands c.push_top.new.self c.give_up.new.self c.args.top c.push_top.ensures.deque c.give_up.ensures.deque c.push_top.ensures.rest c.give_up.ensures.rest

pub returns-clause-seats : goal.returns-clause-seats
returns-clause-seats g c =
    left_by_close c.args.worker c.args.table.now c.close.new.self c.close.ensures.others c.close.ensures.workers c.close.ensures.idle c.close.ensures.begun
