use Rattle.std.proofs.Common.{refl, sym, ap, subst, ◌∙◌, Some}
use Rattle.open_periods.specs.Periods.{open_shown}
use Rattle.open_periods.specs.declared.seat.Seat.{Seat}
use Rattle.open_periods.specs.Tables.{HasRoomFor}
use Rattle.open_periods.proofs.Seats.{read_seat, seat_set, both_ok}
use Rattle.open_periods.proofs.calls.reserve_at.Goals as goal

pub returns-clause-same : goal.returns-clause-same
returns-clause-same c seat is =
    let same = read_seat c.args.seats.now.items c.args.worker seat c.in-Some.seat c.index_mut.result.now is c.index_mut.ensures.value c.in-Some.is in
    record {
      new = record { deque = c.in-Some.seat.deque; period = c.reserve_in.new.period };
      are = refl;
      deque = ap (λ (s : Seat). s.deque) same;
      shown = λ w. c.reserve_in.ensures.shown w ∙ ap (λ (s : Seat). open_shown w s.period) same;
    }

pub returns-clause-room : goal.returns-clause-room
returns-clause-room c first some =
    let new : Seat = record { deque = c.in-Some.seat.deque; period = c.reserve_in.new.period } in
    let here = seat_set c.args.seats.now.items c.args.worker (Some c.requires.0) (Some new) c.requires.1 in
    both_ok c.reserve_in.result (λ book births. subst (HasRoomFor first) (sym here) (book, births))
    c.reserve_in.ensures.book (c.reserve_in.ensures.births first some)
