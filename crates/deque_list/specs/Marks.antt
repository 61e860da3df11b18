-- The marks of the ids in use.
use Rattle.std.specs.Prelude.{◌≡◌, ℕ, ◌≤◌, List, length, Bool, true, Some, slice_get, count_by}
use Rattle.language_limits.specs.declared.TheConstants.{MOST_ENTRIES}
use Rattle.deque_list.specs.declared.deque_id.DequeId.{DequeId}
use Rattle.deque_list.specs.Ids.{IsLive, IdsDiffer, deque_id}

-- just the ids of the list are marked, each stands once, and there are as many marks as ids
pub record IsSound (ids : List DequeId) (marks : List Bool) : Type 0 where
  pub differ : IdsDiffer ids
  pub marked : (id : DequeId) → IsLive ids id → slice_get marks id.0 ≡ Some true
  pub live : (n : ℕ) → slice_get marks n ≡ Some true → IsLive ids (deque_id n)
  pub counted : count_by (λ mark. mark) marks ≡ length ids
  pub few : length marks ≤ MOST_ENTRIES
