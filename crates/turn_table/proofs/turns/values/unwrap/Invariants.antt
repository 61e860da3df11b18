use Rattle.std.proofs.Common.{◌≡◌, ◌+◌, ◌≤◌, ◌++◌, reverse, vec_len, vec_capacity}
use Rattle.turn_table.specs.Values.{present}
use Rattle.turn_table.proofs.turns.values.unwrap.Given as goal

abbrev pub invariant-loop-slot : goal.invariant-loop-slot
invariant-loop-slot g l = (present l.slots.items ++ reverse l.values.items ≡ present l.initial.slots.items) × (vec_len l.slots + vec_len l.values ≤ vec_capacity l.values)

abbrev pub decreases-loop-slot : goal.decreases-loop-slot
decreases-loop-slot g l = vec_len l.slots
