use Rattle.std.proofs.Common.{◌≡◌, None, Some, ap, ◌∙◌}
use Rattle.std.specs.Prelude.{slice_get}
use Rattle.space_ledger.specs.BooksList.{books_list}
use Rattle.open_periods.proofs.Seats.{there_is, seat_set, seat_elsewhere, begun_differ, begun_within, begun_adds}
use Rattle.open_periods.proofs.table.PeriodTable.begin.Goals as goal

pub invariant_of-self : goal.invariant_of-self
invariant_of-self c =
    let t = c.args.self.now in
    let idle : slice_get t.seats.items c.args.worker ≡ Some None = there_is t.seats.items c.args.worker c.requires.within ∙ ap Some c.requires.idle in
    record {
      no_births = c.args.self.now.no_births;
      numbers_differ = begun_differ (books_list t.books) t.seats.items c.args.worker (record { deque = c.args.deque; period = c.args.period }) idle t.begun c.requires.number t.numbers_differ t.numbers_within;
      numbers_within = begun_within (books_list t.books) t.seats.items c.args.worker (record { deque = c.args.deque; period = c.args.period }) idle t.begun c.requires.number t.numbers_within;
    }

pub returns-clause-periods : goal.returns-clause-periods
returns-clause-periods c =
    let t = c.args.self.now in
    begun_adds (books_list t.books) t.seats.items c.args.worker (record { deque = c.args.deque; period = c.args.period })
    (there_is t.seats.items c.args.worker c.requires.within ∙ ap Some c.requires.idle)

pub returns-clause-seat : goal.returns-clause-seat
returns-clause-seat c =
    let t = c.args.self.now in
    seat_set t.seats.items c.args.worker None (Some (record { deque = c.args.deque; period = c.args.period })) (there_is t.seats.items c.args.worker c.requires.within ∙ ap Some c.requires.idle)

pub returns-clause-others : goal.returns-clause-others
returns-clause-others c w other = seat_elsewhere c.args.self.now.seats.items c.args.worker w (Some (record { deque = c.args.deque; period = c.args.period })) other
