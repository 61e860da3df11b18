use Rattle.std.proofs.Common.{◌≡◌, Some, length, slice_set, sym, ap, subst, ◌∙◌}
use Rattle.std.specs.Prelude.{slice_get}
use Rattle.containers.specs.BoundedList.{spare}
use Rattle.space_ledger.specs.BooksList.{books_list}
use Rattle.open_periods.specs.Periods.{Period as AnyPeriod, Replaces, open_shown}
use Rattle.open_periods.specs.declared.seat.Seat.{Seat}
use Rattle.open_periods.specs.Numbers.{all_periods, NumbersDiffer, NumbersWithin}
use Rattle.open_periods.specs.Tables.{periods_of, seat_in, seat_at, deque_of, shown_of, noted, births_shown}
use Rattle.open_periods.proofs.Seats.{some_seat, some_shown, seat_set, seat_elsewhere, changed_seat_differ, changed_seat_within, changed_seat, room_seat, one_seat, deque_stays, as_long}
use Rattle.open_periods.proofs.table.PeriodTable.note.Goals as goal

pub note_at-requires : goal.note_at-requires
note_at-requires c = record {
  room = c.requires.room.in_period;
  none = c.args.self.now.no_births;
  fits = λ seat is. c.requires.fits (open_shown c.args.worker seat.period) (ap (λ o. shown_of c.args.worker (seat_in o)) is);
}

pub invariant_of-self : goal.invariant_of-self
invariant_of-self c =
    let t = c.args.self.now in let w = c.args.worker in
    let found = room_seat (spare t.first_births) (seat_at t w) c.requires.room.in_period in
    let old : Seat = found.0 in
    let is : slice_get t.seats.items w ≡ Some (Some old) = some_seat t.seats.items w old found.1 in
    let changes = c.note_at.ensures.notes old is in
    let new : Seat = changes.new in
    let seats = changes.are in
    let same : new.period.number ≡ old.period.number = ap (λ p. AnyPeriod.number p) (changes.shown w) in
    record {
      no_births = c.note_at.ensures.none;
      numbers_differ = subst (λ xs. NumbersDiffer (all_periods (books_list t.books) xs)) (sym seats)
          (changed_seat_differ (books_list t.books) t.seats.items w old new is same t.numbers_differ);
      numbers_within = subst (λ xs. NumbersWithin (all_periods (books_list t.books) xs) t.begun) (sym seats)
          (changed_seat_within (books_list t.books) t.seats.items w old new is same t.begun t.numbers_within);
    }

pub returns-clause-periods : goal.returns-clause-periods
returns-clause-periods c p there =
    let t = c.args.self.now in let w = c.args.worker in
    let found = room_seat (spare t.first_births) (seat_at t w) c.requires.room.in_period in
    let old : Seat = found.0 in
    let is : slice_get t.seats.items w ≡ Some (Some old) = some_seat t.seats.items w old found.1 in
    let changes = c.note_at.ensures.notes old is in
    let new : Seat = changes.new in
    let seats = changes.are in
    let same : new.period.number ≡ old.period.number = ap (λ q. AnyPeriod.number q) (changes.shown w) in
    let seen = some_shown w (seat_at t w) p there in
    let seat : seen.0 ≡ old = one_seat t.seats.items w seen.0 old (some_seat t.seats.items w seen.0 seen.1) is in
    let shown : p ≡ open_shown w old.period = seen.2 ∙ ap (λ s. open_shown w (Seat.period s)) seat in
    let done = changed_seat (books_list t.books) t.seats.items w old new is same t.numbers_differ in
    subst (λ xs. Replaces (periods_of t) p (noted p c.args.id c.args.words (births_shown c.args.birth)) (all_periods (books_list t.books) xs)) (sym seats)
    (subst (λ o. Replaces (periods_of t) o (noted o c.args.id c.args.words (births_shown c.args.birth)) (all_periods (books_list t.books) (slice_set t.seats.items w (Some new)))) (sym shown)
    (subst (λ q. Replaces (periods_of t) (open_shown w old.period) q (all_periods (books_list t.books) (slice_set t.seats.items w (Some new)))) (changes.shown w) done))

pub returns-clause-shown : goal.returns-clause-shown
returns-clause-shown c p there =
    let t = c.args.self.now in let w = c.args.worker in
    let found = room_seat (spare t.first_births) (seat_at t w) c.requires.room.in_period in
    let old : Seat = found.0 in
    let is : slice_get t.seats.items w ≡ Some (Some old) = some_seat t.seats.items w old found.1 in
    let changes = c.note_at.ensures.notes old is in
    let new : Seat = changes.new in
    let seats = changes.are in
    let seen = some_shown w (seat_at t w) p there in
    let seat : seen.0 ≡ old = one_seat t.seats.items w seen.0 old (some_seat t.seats.items w seen.0 seen.1) is in
    let shown : p ≡ open_shown w old.period = seen.2 ∙ ap (λ s. open_shown w (Seat.period s)) seat in
    ap (λ xs. shown_of w (seat_in (slice_get xs w))) seats
    ∙ ap (shown_of w) (seat_set t.seats.items w (Some old) (Some new) is)
    ∙ ap Some (changes.shown w ∙ ap (λ o. noted o c.args.id c.args.words (births_shown c.args.birth)) (sym shown))

pub returns-clause-deques : goal.returns-clause-deques
returns-clause-deques c v =
    let t = c.args.self.now in let w = c.args.worker in
    let found = room_seat (spare t.first_births) (seat_at t w) c.requires.room.in_period in
    let old : Seat = found.0 in
    let is : slice_get t.seats.items w ≡ Some (Some old) = some_seat t.seats.items w old found.1 in
    let changes = c.note_at.ensures.notes old is in
    let new : Seat = changes.new in
    let seats = changes.are in
    ap (λ xs. deque_of (seat_in (slice_get xs v))) seats ∙ deque_stays t.seats.items w v old new is changes.deque

pub returns-clause-others : goal.returns-clause-others
returns-clause-others c v other =
    let t = c.args.self.now in let w = c.args.worker in
    let found = room_seat (spare t.first_births) (seat_at t w) c.requires.room.in_period in
    let old : Seat = found.0 in
    let is : slice_get t.seats.items w ≡ Some (Some old) = some_seat t.seats.items w old found.1 in
    let changes = c.note_at.ensures.notes old is in
    let new : Seat = changes.new in
    let seats = changes.are in
    ap (λ xs. seat_in (slice_get xs v)) seats ∙ seat_elsewhere t.seats.items w v (Some new) other

pub returns-clause-workers : goal.returns-clause-workers
returns-clause-workers c =
    let t = c.args.self.now in let w = c.args.worker in
    let found = room_seat (spare t.first_births) (seat_at t w) c.requires.room.in_period in
    let old : Seat = found.0 in
    let is : slice_get t.seats.items w ≡ Some (Some old) = some_seat t.seats.items w old found.1 in
    let changes = c.note_at.ensures.notes old is in
    let new : Seat = changes.new in
    let seats = changes.are in
    ap length seats ∙ as_long t.seats.items w (Some new)
