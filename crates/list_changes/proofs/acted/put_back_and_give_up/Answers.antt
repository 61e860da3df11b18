use Rattle.std.proofs.Common.{ap}
use Rattle.open_periods.specs.Passed.BoundedList.{spare}
use Rattle.open_periods.specs.Periods.{open_shown}
use Rattle.open_periods.specs.Tables.{seat_at, shown_of}
use Rattle.open_periods.proofs.Seats.{room_seat}
use Rattle.list_changes.proofs.Putting.{live, pushed, back_unowned, back_dummy}
use Rattle.list_changes.proofs.Seating.{left_by_close, left_behind_note}
use Rattle.list_changes.proofs.acted.put_back_and_give_up.Goals as goal

pub push_top-requires-clause-live : goal.push_top-requires-clause-live
push_top-requires-clause-live g c = live c.requires.stands.1

pub give_up-requires : goal.give_up-requires
give_up-requires g c = live (pushed c.requires.stands.1 c.push_top.new.self c.args.top c.push_top.ensures.deque)

pub close-requires-clause-seat : goal.close-requires-clause-seat
close-requires-clause-seat g c =
    let found = room_seat (spare c.args.table.now.first_births) (seat_at c.args.table.now c.args.worker) c.requires.table.in_period in
    (_, c.note.ensures.shown (open_shown c.args.worker found.0.period) (ap (shown_of c.args.worker) found.1))

pub returns-clause-dummy : goal.returns-clause-dummy
returns-clause-dummy g c items shown waiting results k l period was place stands is did =
    back_dummy items c.args.list.now c.args.table.now c.give_up.new.self c.close.new.self c.args.top c.args.name c.push_top.new.self c.note.new.self c.push_top.ensures.deque c.give_up.ensures.deque c.note.ensures.periods c.note.ensures.shown c.close.ensures.periods
    shown waiting results k l period was place stands is did

pub returns-clause-deques : goal.returns-clause-deques
returns-clause-deques g c items stands =
    back_unowned stands c.push_top.new.self c.give_up.new.self c.args.top c.push_top.ensures.deque c.give_up.ensures.deque c.push_top.ensures.rest c.give_up.ensures.rest

pub returns-clause-seats : goal.returns-clause-seats
returns-clause-seats g c =
    left_behind_note c.args.worker c.args.table.now c.note.new.self c.close.new.self (record { deques = c.note.ensures.deques; begun = c.note.ensures.begun; workers = c.note.ensures.workers })
    (left_by_close c.args.worker c.note.new.self c.close.new.self c.close.ensures.others c.close.ensures.workers c.close.ensures.idle c.close.ensures.begun)
