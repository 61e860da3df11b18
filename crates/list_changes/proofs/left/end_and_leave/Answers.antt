use Rattle.std.proofs.Common.{refl, ap}
use Rattle.open_periods.specs.Passed.BoundedList.{spare}
use Rattle.open_periods.specs.Periods.{open_shown}
use Rattle.open_periods.specs.Tables.{seat_at, shown_of}
use Rattle.open_periods.proofs.Seats.{room_seat}
use Rattle.list_changes.proofs.Putting.{at_rank, here}
use Rattle.list_changes.proofs.Leaving.{gone, left_empty}
use Rattle.list_changes.proofs.Seating.{left_by_close, left_behind_note}
use Rattle.list_changes.proofs.left.end_and_leave.Goals as goal

pub remove-requires : goal.remove-requires
remove-requires g c = (_, here c.requires.stands, at_rank c.requires.stands, refl)

pub close-requires-clause-seat : goal.close-requires-clause-seat
close-requires-clause-seat g c =
    let found = room_seat (spare c.args.table.now.first_births) (seat_at c.args.table.now c.args.worker) c.requires.table.in_period in
    (_, c.note.ensures.shown (open_shown c.args.worker found.0.period) (ap (shown_of c.args.worker) found.1))

pub returns-clause-ends : goal.returns-clause-ends
returns-clause-ends g c = left_empty c.args.list.now c.args.table.now c.remove.new.self c.close.new.self c.args.name c.note.new.self c.remove.ensures.deque c.note.ensures.periods c.note.ensures.shown c.close.ensures.periods

pub returns-clause-deques : goal.returns-clause-deques
returns-clause-deques g c stands = gone c.args.list.now c.args.table.now c.remove.new.self c.close.new.self stands c.remove.ensures.deque c.remove.ensures.rest

pub returns-clause-seats : goal.returns-clause-seats
returns-clause-seats g c =
    left_behind_note c.args.worker c.args.table.now c.note.new.self c.close.new.self (record { deques = c.note.ensures.deques; begun = c.note.ensures.begun; workers = c.note.ensures.workers })
    (left_by_close c.args.worker c.note.new.self c.close.new.self c.close.ensures.others c.close.ensures.workers c.close.ensures.idle c.close.ensures.begun)
