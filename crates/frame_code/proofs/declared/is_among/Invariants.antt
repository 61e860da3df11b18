use Rattle.std.proofs.Common.{◌≡◌, drop}
use Rattle.par_tree.specs.View.{name_tree}
use Rattle.par_tree.specs.Names.{is_among}
use Rattle.frame_code.specs.Scopes.{names_tree}
use Rattle.frame_code.proofs.declared.is_among.Given as goal

abbrev pub invariant-loop-known : goal.invariant-loop-known
invariant-loop-known l = is_among (name_tree l.name) (names_tree (drop l.known-index l.names)) ≡ is_among (name_tree l.name) (names_tree l.names)
