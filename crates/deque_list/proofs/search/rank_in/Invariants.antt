-- The deque stands at no rank that was passed.
use Rattle.std.proofs.Common.{◌≡◌, ℕ, ◌<◌, Some, slice_get}
use Rattle.deque_list.specs.Ids.{place_ids}
use Rattle.deque_list.proofs.search.rank_in.Given as goal

abbrev pub invariant-loop-rank : goal.invariant-loop-rank
invariant-loop-rank l = (k : ℕ) → k < l.rank → slice_get (place_ids l.places) k ≡ Some l.id → ⊥
