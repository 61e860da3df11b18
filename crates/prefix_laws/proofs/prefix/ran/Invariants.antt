use Rattle.std.proofs.Common.{◌≡◌, ◌<◌, ℕ, Some}
use Rattle.std.specs.Prelude.{slice_get}
use Rattle.containers.specs.BoundedList.{entries}
use Rattle.prefix_laws.proofs.prefix.ran.Given as goal

-- none of those so far is it
abbrev pub invariant-places : goal.invariant-places
invariant-places l = (i other : ℕ) → i < l.rank → slice_get (entries l.places) i ≡ Some other → other ≡ l.place → ⊥
