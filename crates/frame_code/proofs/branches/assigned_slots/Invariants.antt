use Rattle.par_names.specs.Named.{body_of}
use Rattle.node_table.specs.Programs.{is_assigned_in}
use Rattle.frame_code.proofs.Picking.{Picks}
use Rattle.frame_code.proofs.branches.assigned_slots.Given as goal

abbrev pub invariant-loop-i : goal.invariant-loop-i
invariant-loop-i l = Picks l.names.names.items (is_assigned_in (body_of l.body)) l.found.items l.i
