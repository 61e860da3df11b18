use Rattle.std.proofs.Common.{◌≡◌, ◌++◌, drop}
use Rattle.loop_expand.specs.Texts.{others_text}
use Rattle.loop_expand.specs.Gives.{runs_shown}
use Rattle.loop_expand.proofs.texts.write_others.Given as goal

abbrev pub invariant-others : goal.invariant-others
invariant-others l = l.out.items ++ others_text l.text (runs_shown (drop l.run-index l.others)) ≡ l.initial.out.items ++ others_text l.text (runs_shown l.others)
