-- What contracts see of `Books`.
use Rattle.std.specs.Prelude.{ℕ, List}
use Rattle.containers.specs.BoundedList.{entries, spare}
use Rattle.space_ledger.specs.declared.book.Closed.{Closed}
use Rattle.space_ledger.specs.declared.books.Books.{Books}

-- the closed periods, first to last
abbrev pub books_list : Books → List Closed
books_list books = entries books.list

-- how many further books it takes without memory
abbrev pub books_spare : Books → ℕ
books_spare books = spare books.list
