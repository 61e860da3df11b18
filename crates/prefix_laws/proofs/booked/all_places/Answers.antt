use Rattle.std.proofs.Common.{◌++◌, ◌∷◌, [], ap, ◌∙◌}
use Rattle.deque_machine.specs.Lists.{Each}
use Rattle.containers.specs.BoundedList.{entries}
use Rattle.std.proofs.lemmas.List.{map-append}
use Rattle.prefix_laws.specs.Listing.{births_behind, books_behind}
use Rattle.prefix_laws.specs.Naming.{ArePlaced, IsKnown}
use Rattle.prefix_laws.specs.Prefixes.{places_behind}
use Rattle.prefix_laws.proofs.Places.{each_place, book_at}
use Rattle.prefix_laws.proofs.Naming.{zip_more}
use Rattle.prefix_laws.proofs.booked.all_places.Goals as goal

pub places_of-requires : goal.places_of-requires
places_of-requires c = each_place (Each (IsKnown (births_behind c.args.births.now) (entries c.args.names.now))) (books_behind c.args.books.now) c.books.rank
    (entries c.index-books-rank.result.now) c.requires (book_at c.args.books.now c.books.rank c.index-books-rank.result c.books-test.true c.index-books-rank.is)

pub books-preserved : goal.books-preserved
books-preserved c = zip_more (ArePlaced (births_behind c.args.births.now) (entries c.args.names.now)) (books_behind c.args.books.now) (places_behind (entries c.books.all))
    (places_behind (entries c.add.new.self)) c.books.rank (entries c.index-books-rank.result.now) (entries c.in_ok-places.places)
    (book_at c.args.books.now c.books.rank c.index-books-rank.result c.books-test.true c.index-books-rank.is) c.books.invariant c.in_ok-places.ensures
    (ap places_behind (c.add.ensures.entries ∙ ap (λ bs. bs ++ c.in_ok-places.places ∷ []) c.in_ok-reserve.ensures.entries)
    ∙ map-append entries (entries c.books.all) (c.in_ok-places.places ∷ []))
