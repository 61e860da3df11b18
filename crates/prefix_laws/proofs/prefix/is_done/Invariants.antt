use Rattle.std.proofs.Common.{◌≡◌, ◌<◌, ℕ, Some}
use Rattle.std.specs.Prelude.{slice_get}
use Rattle.containers.specs.declared.bounded_list.BoundedList.{BoundedList}
use Rattle.containers.specs.BoundedList.{entries}
use Rattle.deque_machine.specs.Lists.{Among}
use Rattle.prefix_laws.proofs.prefix.is_done.Given as goal

-- it stands in none of those so far
abbrev pub invariant-books : goal.invariant-books
invariant-books l = (i : ℕ) (book : BoundedList ℕ) → i < l.rank → slice_get (entries l.books) i ≡ Some book → Among l.place (entries book) → ⊥
