use Rattle.std.proofs.Common.{take}
use Rattle.std.specs.List.{AllZip}
use Rattle.containers.specs.BoundedList.{entries}
use Rattle.prefix_laws.specs.Listing.{births_behind, books_behind}
use Rattle.prefix_laws.specs.Naming.{ArePlaced}
use Rattle.prefix_laws.specs.Prefixes.{places_behind}
use Rattle.prefix_laws.proofs.booked.all_places.Given as goal

-- those of the first books are there
abbrev pub invariant-books : goal.invariant-books
invariant-books l =
    AllZip (ArePlaced (births_behind l.births) (entries l.names)) (take l.rank (books_behind l.books)) (places_behind (entries l.all))
