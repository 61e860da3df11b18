use Rattle.std.proofs.Common.{◌∙◌, ap}
use Rattle.hall_actions.specs.Passed.HallNames.{key_of, SeatNote}
use Rattle.hall_owner.specs.Yielding.{halting_note, leaving_note}
use Rattle.hall_owner.proofs.Yielded as yielded
use Rattle.hall_owner.proofs.leaving.leave_deque.Goals as goal

pub leave_with-requires-clause-both : goal.leave_with-requires-clause-both
leave_with-requires-clause-both c = yielded.has_both c.args.seat.now c.take_both.new.seat c.args.deque c.in-Ok.taken.0 c.in-Ok.taken.1 c.in-Ok.ensures.seat
    (key_of c.args.row.now) c.requires.may c.in-Ok.ensures.meets

pub leave_with-requires-clause-nobody : goal.leave_with-requires-clause-nobody
leave_with-requires-clause-nobody c = ap (λ (n : SeatNote). n.enters) (yielded.noted c.args.seat.now c.take_both.new.seat c.args.deque c.in-Ok.taken.0 c.in-Ok.taken.1 c.in-Ok.ensures.seat) ∙ c.requires.nobody

pub leave_with-requires-clause-worker : goal.leave_with-requires-clause-worker
leave_with-requires-clause-worker c = ap (λ (n : SeatNote). n.worker) (yielded.noted c.args.seat.now c.take_both.new.seat c.args.deque c.in-Ok.taken.0 c.in-Ok.taken.1 c.in-Ok.ensures.seat) ∙ c.requires.worker

pub leave_with-requires-clause-found : goal.leave_with-requires-clause-found
leave_with-requires-clause-found c = ap (λ (n : SeatNote). n.found) (yielded.noted c.args.seat.now c.take_both.new.seat c.args.deque c.in-Ok.taken.0 c.in-Ok.taken.1 c.in-Ok.ensures.seat) ∙ c.requires.found

pub returns-in-Ok-leave_with-clause-seat : goal.returns-in-Ok-leave_with-clause-seat
returns-in-Ok-leave_with-clause-seat c = (
  c.in-Ok.taken.1,
  yielded.leaves c.args.seat.now c.take_both.new.seat c.args.deque c.in-Ok.taken.0 c.in-Ok.taken.1 c.in-Ok.ensures.seat c.leave_with.new.seat
      (λ note. leaving_note note c.args.deque) c.in-Ok-leave_with.ensures.seat,
)

pub returns-in-Err-leave_with-clause-seat : goal.returns-in-Err-leave_with-clause-seat
returns-in-Err-leave_with-clause-seat c = (
  c.in-Ok.taken.1,
  yielded.leaves c.args.seat.now c.take_both.new.seat c.args.deque c.in-Ok.taken.0 c.in-Ok.taken.1 c.in-Ok.ensures.seat c.leave_with.new.seat
      (λ note. halting_note note c.in-Ok.taken.1) c.in-Err-leave_with.ensures.seat,
)

pub returns-in-Ok-leave_with-clause-unfinished : goal.returns-in-Ok-leave_with-clause-unfinished
returns-in-Ok-leave_with-clause-unfinished c = yielded.unfinished_before c.args.seat.now c.take_both.new.seat c.args.deque c.in-Ok.taken.0 c.in-Ok.taken.1 c.in-Ok.ensures.seat
    (yielded.unfinished (key_of c.args.row.now) c.take_both.new.seat c.args.deque c.in-Ok.taken.1 c.in-Ok.taken.0 (yielded.has_both c.args.seat.now c.take_both.new.seat c.args.deque c.in-Ok.taken.0 c.in-Ok.taken.1 c.in-Ok.ensures.seat (key_of c.args.row.now) c.requires.may c.in-Ok.ensures.meets))
