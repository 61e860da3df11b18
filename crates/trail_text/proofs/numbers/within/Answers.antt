use Rattle.std.proofs.Common.{arith}
use Rattle.trail_text.proofs.Fronts.{too_small, too_great}
use Rattle.trail_text.proofs.numbers.within.Goals as goal

pub returns-then-value-from : goal.returns-then-value-from
returns-then-value-from c =
    too_small c.args.name.now c.args.bytes.now c.in_ok-value.rest.now c.args.stop c.in_ok-value.value c.requires c.in_ok-value.ensures.0 c.in_ok-value.ensures.1
    c.args.least c.args.most (omega arith) (omega (arith, c.if-value-from.true))

pub returns-then-value-from-2 : goal.returns-then-value-from-2
returns-then-value-from-2 c =
    too_great c.args.name.now c.args.bytes.now c.in_ok-value.rest.now c.args.stop c.in_ok-value.value c.requires c.in_ok-value.ensures.0 c.in_ok-value.ensures.1
    c.args.least c.args.most (omega arith) (omega (arith, c.if-value-from-2.true))
