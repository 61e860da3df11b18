use Rattle.std.proofs.Common.{drop}
use Rattle.par_tree.specs.View.{name_tree}
use Rattle.frame_code.specs.Scopes.{names_tree}
use Rattle.frame_code.specs.Slotted.{Has}
use Rattle.frame_code.proofs.slot_names.SlotNames.slot.Given as goal

abbrev pub invariant-loop-i : goal.invariant-loop-i
invariant-loop-i l = Has (names_tree (drop l.i l.self.names.items)) (name_tree l.name)
