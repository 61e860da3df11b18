use Rattle.par_names.specs.Named.{body_of}
use Rattle.node_table.specs.Programs.{is_named_in}
use Rattle.frame_code.proofs.Picking.{Picks}
use Rattle.frame_code.proofs.branches.named_slots.Given as goal

abbrev pub invariant-loop-i : goal.invariant-loop-i
invariant-loop-i l = Picks l.names.names.items (is_named_in (body_of l.body)) l.found.items l.i
