-- What a map keeps, where a value is lent for writing.
use Rattle.std.specs.Prelude.{◌≡◌, Option}
use Rattle.std.specs.Map.{set_value}
use Rattle.std.specs.Borrow.{LendsSo, Fml, RattleType, MutBor}
use Rattle.dag_order.specs.declared.thread_id.ThreadId.{ThreadId}
use Rattle.thread_map.specs.Kept.{Kept, same_thread}
use Rattle.thread_map.specs.contracts.thread_map.ThreadMap.{the_row}

-- the map with another value under an id
abbrev pub with_value : {T : Type 0} → Kept T → ThreadId → T → Kept T
with_value kept id value = record { entries = set_value (same_thread id) kept.entries value; spare = kept.spare }

-- under the id the map keeps the last value that was written through the result, and with no result all stays
abbrev pub lends_value : (T : RattleType) → MutBor (Kept T.Denot) → ThreadId → Option (MutBor T.Denot) → Fml
lends_value T s id r = LendsSo (the_row T) T s r (λ new value. new ≡ with_value s.now id value) (λ new. new ≡ s.now)
