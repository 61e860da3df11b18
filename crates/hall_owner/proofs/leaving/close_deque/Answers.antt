use Rattle.std.proofs.Common.{[], ◌∙◌, ap, sym, subst}
use Rattle.std.proofs.lemmas.Option.{none-some, same_Some}
use Rattle.hall_actions.specs.Passed.HallNames.{key_of, SeatNote}
use Rattle.hall_actions.specs.Passed.Noting.{Noting}
use Rattle.hall_actions.specs.Passed.NotingVariants.{Same}
use Rattle.hall_actions.specs.Passed.Puts.{note_of, HasPut}
use Rattle.hall_actions.specs.Passed.Writes.{Parts}
use Rattle.hall_actions.specs.Returning.{MayNote}
use Rattle.hall_actions.proofs.Notable.{nothing_may_be_noted}
use Rattle.hall_actions.proofs.Returned.{list_back}
use Rattle.hall_owner.specs.Yielding.{closing_note, short_note}
use Rattle.hall_owner.proofs.Yielded as yielded
use Rattle.hall_owner.proofs.leaving.close_deque.Goals as goal

pub put_list_and_lane-requires-clause-may : goal.put_list_and_lane-requires-clause-may
put_list_and_lane-requires-clause-may c =
    list_back (key_of c.args.row.now) c.take_both.new.seat c.args.deque Same c.in-Ok.taken.1 c.in-Ok.taken.0
    (yielded.gives_back (key_of c.args.row.now) c.take_both.new.seat c.args.deque c.in-Ok.taken.1 c.in-Ok.taken.0 (yielded.has_both c.args.seat.now c.take_both.new.seat c.args.deque c.in-Ok.taken.0 c.in-Ok.taken.1 c.in-Ok.ensures.seat (key_of c.args.row.now) c.requires.may c.in-Ok.ensures.meets)
    c.in-Ok.taken.1 (yielded.same_books c.in-Ok.taken.1) Same
    (λ was. nothing_may_be_noted (key_of c.args.row.now) c.take_both.new.seat c.args.deque was))

pub give_up_with-requires-clause-both : goal.give_up_with-requires-clause-both
give_up_with-requires-clause-both c = yielded.has_both c.args.seat.now c.take_both.new.seat c.args.deque c.in-Ok.taken.0 c.in-Ok.taken.1 c.in-Ok.ensures.seat
    (key_of c.args.row.now) c.requires.may c.in-Ok.ensures.meets

pub give_up_with-requires-clause-notes : goal.give_up_with-requires-clause-notes
give_up_with-requires-clause-notes c =
    let key = key_of c.args.row.now in let seat = c.take_both.new.seat in let lane = c.in-Ok.taken.0 in let list = c.in-Ok.taken.1 in
    let both = yielded.has_both c.args.seat.now seat c.args.deque lane list c.in-Ok.ensures.seat key c.requires.may c.in-Ok.ensures.meets in
    let found = ap (λ (n : SeatNote). n.found) (yielded.noted c.args.seat.now seat c.args.deque lane list c.in-Ok.ensures.seat) ∙ c.requires.found in
    record {
      gives = λ given left is. yielded.closes_with key seat c.args.deque list lane both given left is c.in-Some.end (sym c.end_of.ensures ∙ c.in-Some.is);
      wants = subst (λ (n : Noting). (was : Parts) → MayNote key seat c.args.deque was n) (sym c.noting_of.ensures)
          (yielded.may_note key seat c.args.deque c.args.found both.may found);
    }

pub returns-in_default-clause-seat : goal.returns-in_default-clause-seat
returns-in_default-clause-seat c = (
  c.in-Ok.taken.1,
  sym c.end_of.ensures ∙ c.in_default.is,
  yielded.leaves c.args.seat.now c.take_both.new.seat c.args.deque c.in-Ok.taken.0 c.in-Ok.taken.1 c.in-Ok.ensures.seat c.put_list_and_lane.new.seat
      (λ note. note) c.put_list_and_lane.ensures,
)

pub returns-in_default-clause-told : goal.returns-in_default-clause-told
returns-in_default-clause-told c end is = none-some end (sym (sym c.end_of.ensures ∙ c.in_default.is)
    ∙ yielded.answered (key_of c.args.row.now) c.take_both.new.seat c.args.deque c.in-Ok.taken.1 c.in-Ok.taken.0 (yielded.has_both c.args.seat.now c.take_both.new.seat c.args.deque c.in-Ok.taken.0 c.in-Ok.taken.1 c.in-Ok.ensures.seat (key_of c.args.row.now) c.requires.may c.in-Ok.ensures.meets) end
    (ap (λ (n : SeatNote). n.answered) (yielded.noted c.args.seat.now c.take_both.new.seat c.args.deque c.in-Ok.taken.0 c.in-Ok.taken.1 c.in-Ok.ensures.seat) ∙ is))

pub returns-in-Ok-give_up_with-clause-seat : goal.returns-in-Ok-give_up_with-clause-seat
returns-in-Ok-give_up_with-clause-seat c = (
  c.in-Ok.taken.1,
  sym c.end_of.ensures ∙ c.in-Some.is,
  yielded.leaves c.args.seat.now c.take_both.new.seat c.args.deque c.in-Ok.taken.0 c.in-Ok.taken.1 c.in-Ok.ensures.seat c.give_up_with.new.seat
      (λ note. closing_note note c.args.deque c.in-Some.end) c.in-Ok-give_up_with.ensures.seat,
)

pub returns-in-Ok-give_up_with-clause-unfinished : goal.returns-in-Ok-give_up_with-clause-unfinished
returns-in-Ok-give_up_with-clause-unfinished c = yielded.unfinished_before c.args.seat.now c.take_both.new.seat c.args.deque c.in-Ok.taken.0 c.in-Ok.taken.1 c.in-Ok.ensures.seat
    (yielded.unfinished (key_of c.args.row.now) c.take_both.new.seat c.args.deque c.in-Ok.taken.1 c.in-Ok.taken.0 (yielded.has_both c.args.seat.now c.take_both.new.seat c.args.deque c.in-Ok.taken.0 c.in-Ok.taken.1 c.in-Ok.ensures.seat (key_of c.args.row.now) c.requires.may c.in-Ok.ensures.meets))

pub returns-in-Ok-give_up_with-clause-told : goal.returns-in-Ok-give_up_with-clause-told
returns-in-Ok-give_up_with-clause-told c end is = same_Some c.in-Some.end end (sym (sym c.end_of.ensures ∙ c.in-Some.is)
    ∙ yielded.answered (key_of c.args.row.now) c.take_both.new.seat c.args.deque c.in-Ok.taken.1 c.in-Ok.taken.0 (yielded.has_both c.args.seat.now c.take_both.new.seat c.args.deque c.in-Ok.taken.0 c.in-Ok.taken.1 c.in-Ok.ensures.seat (key_of c.args.row.now) c.requires.may c.in-Ok.ensures.meets) end
    (ap (λ (n : SeatNote). n.answered) (yielded.noted c.args.seat.now c.take_both.new.seat c.args.deque c.in-Ok.taken.0 c.in-Ok.taken.1 c.in-Ok.ensures.seat) ∙ is))

pub returns-in-Err-give_up_with-clause-seat : goal.returns-in-Err-give_up_with-clause-seat
returns-in-Err-give_up_with-clause-seat c =
    let seat = c.take_both.new.seat in let lane = c.in-Ok.taken.0 in let list = c.in-Ok.taken.1 in
    let found = ap (λ (n : SeatNote). n.found) (yielded.noted c.args.seat.now seat c.args.deque lane list c.in-Ok.ensures.seat) ∙ c.requires.found in (
      list,
      c.in-Some.end,
      sym c.end_of.ensures ∙ c.in-Some.is,
      yielded.leaves c.args.seat.now seat c.args.deque lane list c.in-Ok.ensures.seat c.give_up_with.new.seat (λ note. short_note note)
          (subst (λ (n : SeatNote). HasPut seat n [] c.give_up_with.new.seat)
          (ap (λ (n : Noting). note_of seat.hand.note n) c.noting_of.ensures ∙ yielded.noted_short seat.hand.note c.args.found found)
          c.in-Err-give_up_with.ensures.seat),
    )
