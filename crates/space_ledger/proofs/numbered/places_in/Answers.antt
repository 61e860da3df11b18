-- The books before the next place are noted.
use Rattle.std.proofs.Common.{Some, None, ap, sym, ◌∙◌}
use Rattle.std.specs.Prelude.{nat_eq, if◌then◌else◌}
use Rattle.space_ledger.specs.BooksList.{books_list}
use Rattle.space_ledger.specs.Numbers.{first_known}
use Rattle.space_ledger.proofs.NumbersLemmas.{next_noted}
use Rattle.space_ledger.proofs.numbered.places_in.Goals as goal

pub books-preserved : goal.books-preserved
books-preserved c = λ n.
    let closed = c.in-Some.closed.now in
    c.note_place.ensures.noted n
    ∙ ap (λ o. first_known o (if nat_eq closed.number n then Some c.books.place else None)) (c.in_ok-reserve.ensures.entries.2 n ∙ c.books.invariant n)
    ∙ sym (next_noted (books_list c.args.books.now) c.books.place closed n (sym c.in-Some.ensures))
