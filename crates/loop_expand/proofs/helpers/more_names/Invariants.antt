use Rattle.std.proofs.Common.{◌≡◌}
use Rattle.loop_expand.specs.Texts.{more_names}
use Rattle.loop_expand.proofs.helpers.more_names.Given as goal

abbrev pub invariant-names : goal.invariant-names
invariant-names l = l.more.items ≡ more_names l.before
