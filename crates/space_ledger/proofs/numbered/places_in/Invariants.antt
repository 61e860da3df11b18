use Rattle.std.proofs.Common.{◌≡◌, ℕ, take, nat_eq}
use Rattle.std.specs.HashMap.{get}
use Rattle.space_ledger.specs.BooksList.{books_list}
use Rattle.space_ledger.specs.Numbers.{place_of}
use Rattle.space_ledger.proofs.numbered.places_in.Given as goal

-- the books before this place are noted
abbrev pub invariant-books : goal.invariant-books
invariant-books l = (number : ℕ) → get nat_eq l.places number ≡ place_of (take l.place (books_list l.books)) number
