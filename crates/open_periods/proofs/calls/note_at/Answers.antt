use Rattle.std.proofs.Common.{refl, ap, ◌∙◌}
use Rattle.open_periods.specs.Periods.{open_shown}
use Rattle.open_periods.specs.declared.seat.Seat.{Seat}
use Rattle.open_periods.specs.Tables.{noted, births_shown}
use Rattle.open_periods.proofs.Seats.{read_seat}
use Rattle.open_periods.proofs.calls.note_at.Goals as goal

pub returns-clause-notes : goal.returns-clause-notes
returns-clause-notes c seat is =
    let same = read_seat c.args.seats.now.items c.args.worker seat c.in-Some.seat c.index_mut.result.now is c.index_mut.ensures.value c.in-Some.is in
    record {
      new = record { deque = c.in-Some.seat.deque; period = c.note_in.new.period };
      are = refl;
      deque = ap (λ (s : Seat). s.deque) same;
      shown = λ w. c.note_in.ensures.notes w ∙ ap (λ (s : Seat). noted (open_shown w s.period) c.args.id c.args.words (births_shown c.args.birth)) same;
    }
