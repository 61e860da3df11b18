use Rattle.std.proofs.Common.{◌≤◌, ◌++◌, Ok, min, length, arith, sym, ap, ◌∙◌, append-nil}
use Rattle.par_ownership.specs.Environment.{Environment}
use Rattle.block_check.specs.Shown.{entries_shown}
use Rattle.block_check.proofs.Entries.{both_end}
use Rattle.block_check.proofs.changes.held_in_both.Goals as goal

pub returns : goal.returns
returns c =
    let h : min (length c.args.left.now) (length c.args.right.now) ≤ c.loop-i.i = omega arith in
    let shown = entries_shown c.loop-i.both.items in
    ap (λ (v : Environment). Ok v)
    (sym c.loop-i.invariant ∙ ap (λ (v : Environment). shown ++ v) (both_end c.args.left.now c.args.right.now c.loop-i.i h) ∙ append-nil shown)
