-- The room of a lane.
use Rattle.std.specs.Prelude.{ℕ, ◌-◌, min}
use Rattle.std.specs.VecDeque.{deque_len, deque_capacity}
use Rattle.std.specs.declared.collections.VecDeque.{VecDeque}
use Rattle.language_limits.specs.declared.TheConstants.{GREATEST_COUNT}

-- how many more items a queue takes without memory, never beyond `GREATEST_COUNT` in all
abbrev pub room : {T Z : Type 0} → VecDeque T Z → ℕ
room items = min (deque_capacity items) GREATEST_COUNT - deque_len items
