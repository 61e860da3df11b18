use Rattle.std.proofs.Common.{◌≡◌, ◌++◌, drop}
use Rattle.loop_expand.specs.Expansion.{helper_lines}
use Rattle.loop_expand.specs.View.{loops_shown}
use Rattle.loop_expand.proofs.replacing.write_helper_lines.Given as goal

abbrev pub invariant-loops : goal.invariant-loops
invariant-loops l = l.out.items ++ helper_lines l.text l.number (loops_shown (drop l.number l.loops)) ≡ l.initial.out.items ++ helper_lines l.text 0 (loops_shown l.loops)
