use Rattle.std.proofs.Common.{◌≡◌, ◌≤◌, take}
use Rattle.containers.specs.BoundedList.{entries}
use Rattle.prefix_laws.specs.Prefixes.{many_past, places_behind}
use Rattle.prefix_laws.proofs.prefix.count_past.Given as goal

-- those of the first books are counted
abbrev pub invariant-books : goal.invariant-books
invariant-books l = (l.ahead ≤ l.rank) × (l.ahead ≡ many_past l.prefix (places_behind (take l.rank (entries l.books))))
