use Rattle.std.proofs.Common.{length}
use Rattle.slot_store.specs.Shown.{slots_shown}
use Rattle.flat_code.specs.Passed.Flat.{Runs}
use Rattle.flat_code.specs.Shown.{flat_shown}
use Rattle.flat_run.specs.Ran.{at_point}
use Rattle.flat_run.proofs.Forward.{left_from}
use Rattle.flat_run.proofs.running.run_flat.Given as goal

-- the machine came here
abbrev pub invariant-steps : goal.invariant-steps
invariant-steps l =
    Runs (flat_shown l.fn.places) (at_point l.fn.from (slots_shown l.fn.slots) l.fn.turns) (at_point l.at (slots_shown l.slots) l.left)

abbrev pub decreases-steps : goal.decreases-steps
decreases-steps l = left_from (length l.places) l.at l.left
