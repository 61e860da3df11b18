use Rattle.std.proofs.Common.{◌<◌, arith}
use Rattle.byte_cuts.proofs.Cuts.{cut_here, lacks_before, not_cut}
use Rattle.byte_cuts.proofs.bytes.cut_at.Goals as goal

pub returns-then-x-byte : goal.returns-then-x-byte
returns-then-x-byte c = (
  cut_here c.args.bytes.now c.loop-i.i c.args.byte c.loop-i-test.true c.if-x-byte.true,
  lacks_before c.args.bytes.now c.loop-i.i c.args.byte c.loop-i-test.true c.loop-i.invariant,
)

pub returns : goal.returns
returns c =
    not_cut c.args.bytes.now c.args.byte
    (λ k below. let low : k < c.loop-i.i = omega (arith, c.loop-i-test.false) in c.loop-i.invariant k low)
