use Rattle.std.proofs.Common.{◌≤◌, min, length, arith, sym, ◌∙◌}
use Rattle.block_check.proofs.Entries.{arms_end}
use Rattle.block_check.proofs.changes.same_held.Goals as goal

pub returns : goal.returns
returns c =
    let h : min (length c.args.env.now) (length c.args.other.now) ≤ c.loop-i.i = omega arith in
    sym c.loop-i.invariant ∙ arms_end c.args.line c.args.env.now c.args.other.now c.loop-i.i h
