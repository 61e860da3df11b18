use Rattle.std.proofs.Common.{◌≡◌, ◌+◌, ◌≤◌, ◌++◌, map, reverse, Some, vec_len, vec_capacity}
use Rattle.turn_table.proofs.turns.values.wrap.Given as goal

abbrev pub invariant-loop-value : goal.invariant-loop-value
invariant-loop-value g l = (map Some l.values.items ++ reverse l.slots.items ≡ map Some l.initial.values.items) × (vec_len l.values + vec_len l.slots ≤ vec_capacity l.slots) × (vec_capacity l.values ≡ vec_capacity l.initial.values)

abbrev pub decreases-loop-value : goal.decreases-loop-value
decreases-loop-value g l = vec_len l.values
