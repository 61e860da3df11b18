use Rattle.dfd_plays.proofs.Sums.{one_more}
use Rattle.dfd_plays.proofs.making.wrapping_sum.Goals as goal

pub numbers-preserved : goal.numbers-preserved
numbers-preserved c = one_more c.numbers.sum-bits c.numbers.number-index c.args.numbers.now c.numbers.auto.sum c.numbers-test.true c.numbers.invariant
