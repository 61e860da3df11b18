use Rattle.std.proofs.Common.{◌≡◌, ◌-◌, length, IsTrue, arith, rules, sym, ◌∙◌}
use Rattle.std.proofs.lemmas.List.{nil_from_length}
use Rattle.flat_program.proofs.Marks.{above_same, all_dropped, parts_above, others_above, rest_taken}
use Rattle.flat_program.proofs.marking.left_of.Goals as goal

pub returns-then-not-are_same_frames-clause-none : goal.returns-then-not-are_same_frames-clause-none
returns-then-not-are_same_frames-clause-none c none left less is =
    let parts = parts_above c.args.stack.now c.in-Some.others.now c.args.mark.now left c.args.next c.in-Some.last.now c.in-Some.ensures.cases.0 is in
    let same : IsTrue c.are_same_frames.result = c.are_same_frames.ensures.1
    (rest_taken (length c.args.stack.now - length c.in-Some.others.now) c.args.stack.now ∙ others_above c.args.stack.now c.in-Some.others.now left parts.0) in
    search rules

pub returns-then-is_empty-clause-some : goal.returns-then-is_empty-clause-some
returns-then-is_empty-clause-some c =
    let top : IsTrue c.is_same_frame.result = search rules in
    let zero_long : length c.in-Some.others.now ≡ 0 = search rules in
    let none = nil_from_length c.in-Some.others.now zero_long in
    let n = length c.args.stack.now in (
      omega arith,
      above_same c.args.stack.now c.in-Some.others.now c.args.mark.now c.args.next c.in-Some.last.now n
          c.in-Some.ensures.cases.0 (c.is_same_frame.ensures.0 top) (all_dropped c.args.stack.now ∙ sym none),
    )

pub returns-clause-some : goal.returns-clause-some
returns-clause-some c =
    let top : IsTrue c.is_same_frame.result = search rules in
    let same : IsTrue c.are_same_frames.result = search rules in
    let n = length c.args.stack.now - length c.in-Some.others.now in (
      omega arith,
      above_same c.args.stack.now c.in-Some.others.now c.args.mark.now c.args.next c.in-Some.last.now n
          c.in-Some.ensures.cases.0 (c.is_same_frame.ensures.0 top)
          (sym (rest_taken n c.args.stack.now) ∙ c.are_same_frames.ensures.0 same),
    )
