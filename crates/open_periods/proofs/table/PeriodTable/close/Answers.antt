use Rattle.std.proofs.Common.{◌≡◌, refl, [], None, Some, List, ◌∷◌, ◌++◌, slice_set, sym, ap, subst, ◌∙◌, Option}
use Rattle.std.specs.Prelude.{slice_get}
use Rattle.space_ledger.specs.BooksList.{books_list}
use Rattle.open_periods.specs.Periods.{Period as AnyPeriod, Replaces, open_shown, closed_shown}
use Rattle.open_periods.specs.declared.seat.Seat.{Seat}
use Rattle.open_periods.specs.Numbers.{all_periods, NumbersDiffer, NumbersWithin}
use Rattle.open_periods.specs.Tables.{periods_of, seat_in, seat_at, shut, closed_of}
use Rattle.open_periods.proofs.Seats.{some_seat, some_shown, seat_set, seat_elsewhere, closed_differ, closed_within, closed_replaces, one_seat}
use Rattle.open_periods.proofs.table.PeriodTable.close.Goals as goal

pub take_seat-seat-requires : goal.take_seat-seat-requires
take_seat-seat-requires c =
    let found = some_shown c.args.worker (seat_at c.args.self.now c.args.worker) c.requires.seat.0 c.requires.seat.1 in
    (found.0, some_seat c.args.self.now.seats.items c.args.worker found.0 found.1)

pub invariant_of-self : goal.invariant_of-self
invariant_of-self c =
    let t = c.args.self.now in
    let P : List (Option Seat) → Type 0 = λ seats. NumbersDiffer (all_periods (books_list c.close_in.new.books) seats) × NumbersWithin (all_periods (books_list c.close_in.new.books) seats) t.begun in
    let both : P c.take_seat-seat.new.seats.items =
    subst P (sym c.take_seat-seat.ensures.seats) (subst (λ b. NumbersDiffer (all_periods b (slice_set t.seats.items c.args.worker None)) × NumbersWithin (all_periods b (slice_set t.seats.items c.args.worker None)) t.begun) (sym c.close_in.ensures) (
      closed_differ (books_list t.books) t.seats.items c.args.worker c.take_seat-seat.result c.take_seat-seat.ensures.seat (closed_of c.take_seat-seat.result.period) refl t.numbers_differ,
      closed_within (books_list t.books) t.seats.items c.args.worker c.take_seat-seat.result c.take_seat-seat.ensures.seat (closed_of c.take_seat-seat.result.period) refl t.begun t.numbers_within,
    )) in
    record {
      no_births = c.args.self.now.no_births;
      numbers_differ = both.0;
      numbers_within = both.1;
    }

pub returns-clause-periods : goal.returns-clause-periods
returns-clause-periods c p is =
    let t = c.args.self.now in
    let found = some_shown c.args.worker (seat_at t c.args.worker) p is in
    let seat : found.0 ≡ c.take_seat-seat.result = one_seat t.seats.items c.args.worker found.0 c.take_seat-seat.result (some_seat t.seats.items c.args.worker found.0 found.1) c.take_seat-seat.ensures.seat in
    let shown : p ≡ open_shown c.args.worker c.take_seat-seat.result.period = found.2 ∙ ap (λ s. open_shown c.args.worker (Seat.period s)) seat in
    let done = closed_replaces (books_list t.books) t.seats.items c.args.worker c.take_seat-seat.result c.take_seat-seat.ensures.seat (closed_of c.take_seat-seat.result.period)
    refl t.numbers_differ in
    let R : AnyPeriod → List AnyPeriod → Type 0 = λ q next. Replaces (periods_of t) p q next in
    let Q : AnyPeriod → Type 0 = λ o. Replaces (periods_of t) o (closed_shown (closed_of c.take_seat-seat.result.period)) (all_periods (books_list t.books ++ (closed_of c.take_seat-seat.result.period) ∷ []) (slice_set t.seats.items c.args.worker None)) in
    let of_p : Q p = subst Q (sym shown) done in
    let as_shut : closed_shown (closed_of c.take_seat-seat.result.period) ≡ shut p = ap shut (sym shown) in
    let next : all_periods (books_list t.books ++ (closed_of c.take_seat-seat.result.period) ∷ []) (slice_set t.seats.items c.args.worker None) ≡ all_periods (books_list c.close_in.new.books) c.take_seat-seat.new.seats.items =
    ap (λ b. all_periods b (slice_set t.seats.items c.args.worker None)) (sym c.close_in.ensures) ∙ ap (all_periods (books_list c.close_in.new.books)) (sym c.take_seat-seat.ensures.seats) in
    subst (R (shut p)) next (subst (λ q. R q (all_periods (books_list t.books ++ (closed_of c.take_seat-seat.result.period) ∷ []) (slice_set t.seats.items c.args.worker None))) as_shut of_p)

pub returns-clause-idle : goal.returns-clause-idle
returns-clause-idle c =
    let t = c.args.self.now in
    ap (λ seats. seat_in (slice_get seats c.args.worker)) c.take_seat-seat.ensures.seats ∙ seat_set t.seats.items c.args.worker (Some c.take_seat-seat.result) None c.take_seat-seat.ensures.seat

pub returns-clause-others : goal.returns-clause-others
returns-clause-others c w other =
    ap (λ seats. seat_in (slice_get seats w)) c.take_seat-seat.ensures.seats ∙ seat_elsewhere c.args.self.now.seats.items c.args.worker w None other
