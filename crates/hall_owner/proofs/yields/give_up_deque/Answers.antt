use Rattle.std.proofs.Common.{◌∙◌, ap, refl, sym}
use Rattle.hall_actions.specs.Passed.HallNames.{key_of, SeatNote}
use Rattle.hall_slots.specs.Lists.{answered_note}
use Rattle.play_rules.specs.declared.stop.Stop.TheVariants.{OutOfMemory}
use Rattle.hall_actions.proofs.Notable.{memory_may_be_noted}
use Rattle.hall_owner.specs.Holding.{found_note}
use Rattle.hall_owner.specs.Yielding.{yielded_note}
use Rattle.hall_owner.proofs.Yielded as yielded
use Rattle.hall_owner.proofs.yields.give_up_deque.Goals as goal

pub take_both-requires-clause-may : goal.take_both-requires-clause-may
take_both-requires-clause-may c = yielded.come_may_yield c.args.seat.now c.args.deque c.requires.may

pub return_answered-requires-clause-ended : goal.return_answered-requires-clause-ended
return_answered-requires-clause-ended c = yielded.ended (key_of c.args.row.now) c.take_both.new.seat c.args.deque c.in-Ok.taken.1 c.in-Ok.taken.0
    (yielded.has_both c.args.seat.now c.take_both.new.seat c.args.deque c.in-Ok.taken.0 c.in-Ok.taken.1 c.in-Ok.ensures.seat (key_of c.args.row.now)
    (yielded.come_may_yield c.args.seat.now c.args.deque c.requires.may) c.in-Ok.ensures.meets) c.in-Some.end (sym c.end_of.ensures ∙ c.in-Some.is)

pub returns-in-Some-clause-seat : goal.returns-in-Some-clause-seat
returns-in-Some-clause-seat c = (
  c.in-Ok.taken.1,
  sym c.end_of.ensures ∙ c.in-Some.is,
  yielded.leaves c.args.seat.now c.take_both.new.seat c.args.deque c.in-Ok.taken.0 c.in-Ok.taken.1 c.in-Ok.ensures.seat c.return_answered.new.seat
      (λ note. answered_note note c.in-Ok.taken.1) c.return_answered.ensures,
)

pub give_up_with-requires-clause-both : goal.give_up_with-requires-clause-both
give_up_with-requires-clause-both c = yielded.has_both c.args.seat.now c.take_both.new.seat c.args.deque c.in-Ok.taken.0 c.in-Ok.taken.1 c.in-Ok.ensures.seat
    (key_of c.args.row.now) (yielded.come_may_yield c.args.seat.now c.args.deque c.requires.may) c.in-Ok.ensures.meets

pub give_up_with-requires-clause-notes : goal.give_up_with-requires-clause-notes
give_up_with-requires-clause-notes c =
    let key = key_of c.args.row.now in let seat = c.take_both.new.seat in let lane = c.in-Ok.taken.0 in let list = c.in-Ok.taken.1 in
    let both = yielded.has_both c.args.seat.now seat c.args.deque lane list c.in-Ok.ensures.seat key
    (yielded.come_may_yield c.args.seat.now c.args.deque c.requires.may) c.in-Ok.ensures.meets in
    let none = ap (λ (n : SeatNote). n.found) (yielded.noted c.args.seat.now seat c.args.deque lane list c.in-Ok.ensures.seat) ∙ c.requires.may.none in
    record {
      gives = λ given left is. yielded.yields key seat c.args.deque list lane both given left is;
      wants = λ was. memory_may_be_noted key seat c.args.deque was both.may none;
    }

pub returns-in-Ok-give_up_with-clause-seat : goal.returns-in-Ok-give_up_with-clause-seat
returns-in-Ok-give_up_with-clause-seat c = (
  c.in-Ok.taken.1,
  sym c.end_of.ensures ∙ c.in_default.is,
  yielded.leaves c.args.seat.now c.take_both.new.seat c.args.deque c.in-Ok.taken.0 c.in-Ok.taken.1 c.in-Ok.ensures.seat c.give_up_with.new.seat
      (λ note. yielded_note note c.args.deque) c.in-Ok-give_up_with.ensures.seat,
)

pub returns-in-Err-give_up_with-clause-seat : goal.returns-in-Err-give_up_with-clause-seat
returns-in-Err-give_up_with-clause-seat c = (
  refl,
  c.in-Ok.taken.1,
  sym c.end_of.ensures ∙ c.in_default.is,
  yielded.leaves c.args.seat.now c.take_both.new.seat c.args.deque c.in-Ok.taken.0 c.in-Ok.taken.1 c.in-Ok.ensures.seat c.give_up_with.new.seat
      (λ note. found_note note OutOfMemory) c.in-Err-give_up_with.ensures.seat,
)

pub returns-in-Ok-give_up_with-clause-unfinished : goal.returns-in-Ok-give_up_with-clause-unfinished
returns-in-Ok-give_up_with-clause-unfinished c = yielded.unfinished_before c.args.seat.now c.take_both.new.seat c.args.deque c.in-Ok.taken.0 c.in-Ok.taken.1
    c.in-Ok.ensures.seat
    (yielded.unfinished (key_of c.args.row.now) c.take_both.new.seat c.args.deque c.in-Ok.taken.1 c.in-Ok.taken.0
    (yielded.has_both c.args.seat.now c.take_both.new.seat c.args.deque c.in-Ok.taken.0 c.in-Ok.taken.1 c.in-Ok.ensures.seat (key_of c.args.row.now)
    (yielded.come_may_yield c.args.seat.now c.args.deque c.requires.may) c.in-Ok.ensures.meets))
