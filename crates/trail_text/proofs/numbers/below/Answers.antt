use Rattle.std.proofs.Common.{arith}
use Rattle.trail_text.proofs.Fronts.{not_below}
use Rattle.trail_text.proofs.numbers.below.Goals as goal

pub returns-then-value-from : goal.returns-then-value-from
returns-then-value-from c =
    not_below c.args.name.now c.args.bytes.now c.in_ok-value.rest.now c.args.stop c.in_ok-value.value c.requires c.in_ok-value.ensures.0 c.in_ok-value.ensures.1
    c.args.bound (omega arith) (omega (arith, c.if-value-from.true))
