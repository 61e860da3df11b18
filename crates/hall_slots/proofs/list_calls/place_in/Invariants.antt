-- The worker is at no place that was passed.
use Rattle.std.proofs.Common.{◌≡◌, ℕ, ◌<◌, Some, slice_get}
use Rattle.hall_slots.proofs.list_calls.place_in.Given as goal

abbrev pub invariant-places : goal.invariant-places
invariant-places l = (k : ℕ) → k < l.place → ¬ (slice_get l.crew k ≡ Some l.worker)
