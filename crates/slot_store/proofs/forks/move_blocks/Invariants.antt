use Rattle.std.proofs.Common.{take}
use Rattle.slot_store.specs.Shown.{slots_shown}
use Rattle.slot_store.specs.Forks.{Parts}
use Rattle.slot_store.proofs.forks.move_blocks.Given as goal

-- the blocks of the slots so far have moved
abbrev pub invariant-loop-slot : goal.invariant-loop-slot
invariant-loop-slot l = Parts (take l.slot-index l.slots) (slots_shown l.initial.from) (slots_shown l.to) (slots_shown l.from)
