use Rattle.std.proofs.Common.{◌≡◌, ◌<◌, ℕ, Some}
use Rattle.std.specs.Prelude.{slice_get}
use Rattle.containers.specs.BoundedList.{entries}
use Rattle.prefix_laws.proofs.names.place_of.Given as goal

-- none of those so far is it
abbrev pub invariant-places : goal.invariant-places
invariant-places l = (i : ℕ) → i < l.place → slice_get (entries l.names) i ≡ Some l.name → ⊥
