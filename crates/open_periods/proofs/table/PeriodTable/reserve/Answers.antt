use Rattle.std.proofs.Common.{◌≡◌, Some, length, slice_set, sym, ap, subst, ◌∙◌}
use Rattle.std.specs.Prelude.{slice_get}
use Rattle.containers.specs.BoundedList.{spare}
use Rattle.space_ledger.specs.BooksList.{books_list}
use Rattle.open_periods.specs.Periods.{Period as AnyPeriod}
use Rattle.open_periods.specs.declared.seat.Seat.{Seat}
use Rattle.open_periods.specs.Numbers.{all_periods, NumbersDiffer, NumbersWithin}
use Rattle.open_periods.specs.Tables.{periods_of, seat_in, seat_at, deque_of, shown_of}
use Rattle.open_periods.proofs.Seats.{some_seat, some_shown, same_seat, deque_stays, shown_stays, on_ok, as_long}
use Rattle.open_periods.proofs.table.PeriodTable.reserve.Goals as goal

pub reserve_at-requires : goal.reserve_at-requires
reserve_at-requires c =
    let found = some_shown c.args.worker (seat_at c.args.self.now c.args.worker) c.requires.0 c.requires.1 in
    (found.0, some_seat c.args.self.now.seats.items c.args.worker found.0 found.1)

pub invariant_of-self-2 : goal.invariant_of-self-2
invariant_of-self-2 c =
    let t = c.args.self.now in let w = c.args.worker in
    let found = some_shown w (seat_at t w) c.requires.0 c.requires.1 in
    let old : Seat = found.0 in
    let is : slice_get t.seats.items w ≡ Some (Some old) = some_seat t.seats.items w old found.1 in
    let changes = c.reserve_at.ensures.same old is in
    let new : Seat = changes.new in
    let seats = changes.are in
    let same : all_periods (books_list c.reserve.new.self) c.reserve_at.new.seats.items ≡ periods_of t =
    ap (all_periods (books_list c.reserve.new.self)) seats ∙ ap (λ b. all_periods b (slice_set t.seats.items w (Some new))) c.reserve.ensures.books
    ∙ same_seat (books_list t.books) t.seats.items w old new is (ap (λ p. AnyPeriod.number p) (changes.shown w)) (changes.shown w) in
    record {
      no_births = c.reserve-2.ensures.entries ∙ t.no_births;
      numbers_differ = subst NumbersDiffer (sym same) t.numbers_differ;
      numbers_within = subst (λ ps. NumbersWithin ps t.begun) (sym same) t.numbers_within;
    }

pub returns-clause-periods : goal.returns-clause-periods
returns-clause-periods c =
    let t = c.args.self.now in let w = c.args.worker in
    let found = some_shown w (seat_at t w) c.requires.0 c.requires.1 in
    let old : Seat = found.0 in
    let is : slice_get t.seats.items w ≡ Some (Some old) = some_seat t.seats.items w old found.1 in
    let changes = c.reserve_at.ensures.same old is in
    let new : Seat = changes.new in
    let seats = changes.are in
    ap (all_periods (books_list c.reserve.new.self)) seats ∙ ap (λ b. all_periods b (slice_set t.seats.items w (Some new))) c.reserve.ensures.books
    ∙ same_seat (books_list t.books) t.seats.items w old new is (ap (λ p. AnyPeriod.number p) (changes.shown w)) (changes.shown w)

pub returns-clause-deques : goal.returns-clause-deques
returns-clause-deques c v =
    let t = c.args.self.now in let w = c.args.worker in
    let found = some_shown w (seat_at t w) c.requires.0 c.requires.1 in
    let old : Seat = found.0 in
    let is : slice_get t.seats.items w ≡ Some (Some old) = some_seat t.seats.items w old found.1 in
    let changes = c.reserve_at.ensures.same old is in
    let new : Seat = changes.new in
    let seats = changes.are in
    ap (λ xs. deque_of (seat_in (slice_get xs v))) seats ∙ deque_stays t.seats.items w v old new is changes.deque

pub returns-clause-shown : goal.returns-clause-shown
returns-clause-shown c v =
    let t = c.args.self.now in let w = c.args.worker in
    let found = some_shown w (seat_at t w) c.requires.0 c.requires.1 in
    let old : Seat = found.0 in
    let is : slice_get t.seats.items w ≡ Some (Some old) = some_seat t.seats.items w old found.1 in
    let changes = c.reserve_at.ensures.same old is in
    let new : Seat = changes.new in
    let seats = changes.are in
    ap (λ xs. shown_of v (seat_in (slice_get xs v))) seats ∙ shown_stays t.seats.items w v old new is changes.shown

pub returns-clause-room : goal.returns-clause-room
returns-clause-room c =
    on_ok c.reserve_at.result (λ room. record { in_period = room; in_books = c.in_ok-reserve.ensures.room })
    (c.reserve_at.ensures.room (spare c.reserve-2.new.self) c.in_ok-reserve-2.ensures.room)

pub returns-clause-workers : goal.returns-clause-workers
returns-clause-workers c =
    let t = c.args.self.now in let w = c.args.worker in
    let found = some_shown w (seat_at t w) c.requires.0 c.requires.1 in
    let old : Seat = found.0 in
    let is : slice_get t.seats.items w ≡ Some (Some old) = some_seat t.seats.items w old found.1 in
    let changes = c.reserve_at.ensures.same old is in
    let new : Seat = changes.new in
    let seats = changes.are in
    ap length seats ∙ as_long t.seats.items w (Some new)
