-- What callers may rely on beside the contracts.
use Rattle.std.specs.Prelude.{◌≡◌, Some}
use Rattle.dag_order.specs.declared.thread_id.ThreadId.{ThreadId}
use Rattle.thread_map.specs.Kept.{Kept, kept_under, KeepsUnder}
use Rattle.thread_map.specs.KeptLends.{with_value}

-- a map of which a kept value was written keeps the new value under its id, and under each other id what it kept
abbrev pub ValueWritten : Type 0 → Type 0
ValueWritten T =
    (kept : Kept T) (id : ThreadId) (before after : T) → kept_under kept id ≡ Some before
    → KeepsUnder kept (with_value kept id after) id (Some after)
