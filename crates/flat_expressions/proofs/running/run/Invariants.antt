use Rattle.std.proofs.Common.{◌≡◌, drop}
use Rattle.slot_store.specs.Shown.{slots_shown}
use Rattle.flat_expressions.specs.Acts.{straight}
use Rattle.flat_expressions.specs.Shown.{acts_shown}
use Rattle.flat_expressions.proofs.running.run.Given as goal

-- the acts that are left run from the row that there is as all of them do from the first row
abbrev pub invariant-loop-act : goal.invariant-loop-act
invariant-loop-act l = straight (acts_shown (drop l.act-index l.acts)) (slots_shown l.slots) ≡ straight (acts_shown l.fn.acts) (slots_shown l.fn.slots)
