-- What is counted of closed periods.
use Rattle.std.specs.Prelude.{ℕ, Bool, length}
use Rattle.containers.specs.BoundedList.{entries}
use Rattle.space_ledger.specs.declared.book.Closed.{Closed}

-- whether it is marked ahead
abbrev pub is_ahead : Closed → Bool
is_ahead closed = closed.ahead

-- how many actions it ran
abbrev pub book_len : Closed → ℕ
book_len closed = length (entries closed.book)
