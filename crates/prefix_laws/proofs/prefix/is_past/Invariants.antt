use Rattle.std.proofs.Common.{◌≡◌, ◌<◌, ◌≤◌, ℕ, Some}
use Rattle.std.specs.Prelude.{slice_get}
use Rattle.containers.specs.BoundedList.{entries}
use Rattle.prefix_laws.proofs.prefix.is_past.Given as goal

-- none of those so far is past the first ones
abbrev pub invariant-places : goal.invariant-places
invariant-places l = (i place : ℕ) → i < l.rank → slice_get (entries l.places) i ≡ Some place → l.prefix ≤ place → ⊥
