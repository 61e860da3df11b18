-- Each smaller number is that of a worker who is in.
use Rattle.std.proofs.Common.{ℕ, ◌<◌}
use Rattle.deque_machine.specs.Lists.{times}
use Rattle.hall_slots.proofs.list_slot.ListSlot.free_number.Given as goal

abbrev pub invariant-numbers : goal.invariant-numbers
invariant-numbers l = (other : ℕ) → other < l.worker → 0 < times other l.self.crew.items
