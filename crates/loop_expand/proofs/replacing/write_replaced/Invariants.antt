use Rattle.std.proofs.Common.{◌≡◌, ◌++◌, drop}
use Rattle.loop_expand.specs.Expansion.{with_others, replacement, replaced}
use Rattle.loop_expand.specs.View.{loops_shown}
use Rattle.loop_expand.proofs.replacing.write_replaced.Given as goal

abbrev pub invariant-loops : goal.invariant-loops
invariant-loops l =
    l.out.items ++ with_others (replacement l.text) l.text l.from l.number (loops_shown (drop l.number l.loops)) ≡ l.initial.out.items ++ replaced l.text (loops_shown l.loops)
