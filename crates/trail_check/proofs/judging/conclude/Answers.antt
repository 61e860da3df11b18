use Rattle.containers.specs.BoundedList.{entries}
use Rattle.trail_check.proofs.Verdicts.{unended, wrong, right, same_numbers, other_numbers}
use Rattle.trail_check.proofs.judging.conclude.Goals as goal

pub returns-then-not-has_ended : goal.returns-then-not-has_ended
returns-then-not-has_ended c = λ s limits had.
    let iff = c.has_ended.ensures s limits had.run had.moment had.stands in
    unended s limits (entries c.args.trail.now.events) c.args.trail.now.numbers c.args.checker.now had
    (λ ended. let has = iff.1 ended in let not_yet = c.if-not-has_ended.true in cc) c.len.result c.len.ensures

pub returns-then-ne : goal.returns-then-ne
returns-then-ne c = λ s limits had.
    let iff = c.has_ended.ensures s limits had.run had.moment had.stands in
    wrong s limits (entries c.args.trail.now.events) c.args.trail.now.numbers c.args.checker.now had
    (iff.0 c.if-not-has_ended.false) c.numbers-numbers.result (c.numbers-numbers.ensures s limits had.run had.moment had.stands)
    (other_numbers c.numbers-numbers.result c.args.trail.now.numbers c.if-ne.ensures)

pub returns : goal.returns
returns c = λ s limits had.
    let iff = c.has_ended.ensures s limits had.run had.moment had.stands in
    right s limits (entries c.args.trail.now.events) c.args.trail.now.numbers c.args.checker.now had
    (iff.0 c.if-not-has_ended.false) c.numbers-numbers.result (c.numbers-numbers.ensures s limits had.run had.moment had.stands)
    (same_numbers c.numbers-numbers.result c.args.trail.now.numbers c.if-ne.ensures)
    c.actions_done.result (c.actions_done.ensures s limits had.run had.moment had.stands)
