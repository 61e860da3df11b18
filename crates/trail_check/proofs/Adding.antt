-- What an event adds to the books.
use Rattle.std.proofs.Common.{◌≡◌, ℕ, ◌+◌, [], ◌∷◌, ◌++◌, length, refl, ap, arith, nat_lt, true}
use Rattle.std.specs.Prelude.{Option, None, Some}
use Rattle.deque_machine.specs.Lists.{total}
use Rattle.deque_machine.specs.Books.{booked}
use Rattle.deque_machine.proofs.Keeping.{closed_same, begun_same}
use Rattle.deque_machine.specs.Moments.{Moment}
use Rattle.deque_machine.specs.Machine.{Setting, Event, Owns, books_with, books_closed, new_book, May, steals_beside, takes_over, forks_child, joins_child, allocates_within, allocates_above, releases_words, meets_fault, runs_dummy, ends_above_parent, ends_and_wakes, ends_and_leaves, suspends_top, gives_deque_up}
use Rattle.deque_machine.specs.Runs.{place_of}
use Rattle.deque_machine.proofs.Sizes.{booked_more}

-- a sum over the actions in the books, with one more or with a book closed
module _ (f : ℕ → ℕ) (m : Moment) (worker : ℕ) (o : Owns m worker) where
  acted : (owner : Option ℕ) (place : ℕ) → total f (booked (books_with o owner place)) ≡ total f (booked m.books) + total f (place ∷ [])
  acted owner place =
      let more = booked_more f o.older o.newer o.book owner place in
      let c : total f (booked m.books) ≡ total f (booked (o.older ++ o.book ∷ o.newer)) = ap (λ t. total f (booked t)) o.books_are in omega (arith, more, c)

  closed : total f (booked (books_closed o)) ≡ total f (booked m.books) + 0
  closed =
      let a : total f (booked (books_closed o)) ≡ total f (booked (o.older ++ o.book ∷ o.newer)) = ap (total f) (closed_same o.older o.newer o.book None) in
      let c : total f (booked m.books) ≡ total f (booked (o.older ++ o.book ∷ o.newer)) = ap (λ t. total f (booked t)) o.books_are in omega (arith, a, c)

-- an action is one more in the books, and any other event adds none
pub adds_to_books : (s : Setting) (f : ℕ → ℕ) (m : Moment) (worker : ℕ) (event : Event) (after : Moment) → May s m worker event after
    → total f (booked after.books) ≡ total f (booked m.books) + total f (place_of event)
adds_to_books s f m worker event after (steals_beside left right victim first others bottom id idle reach deques_are threads_are new_id) =
    let same = ap (total f) (begun_same m.books (new_book worker true) refl) in omega (arith, same)
adds_to_books s f m worker event after (takes_over left right thread id idle reach deques_are) =
    let same = ap (total f) (begun_same m.books (new_book worker (nat_lt 0 (length left))) refl) in omega (arith, same)
adds_to_books s f m worker event after (forks_child o place child at fits) = acted f m worker o (Some worker) place
adds_to_books s f m worker event after (joins_child o place child at has) = acted f m worker o (Some worker) place
adds_to_books s f m worker event after (allocates_within o place at small fits) = acted f m worker o (Some worker) place
adds_to_books s f m worker event after (allocates_above o place at large) = acted f m worker o (Some worker) place
adds_to_books s f m worker event after (releases_words o place at) = acted f m worker o (Some worker) place
adds_to_books s f m worker event after (meets_fault o place at) = acted f m worker o (Some worker) place
adds_to_books s f m worker event after (runs_dummy o place at) = acted f m worker o None place
adds_to_books s f m worker event after (ends_above_parent o place child parent below at under_is top_is) = acted f m worker o (Some worker) place
adds_to_books s f m worker event after (ends_and_wakes o place before later parent at under_is waiting_is top_is) = acted f m worker o (Some worker) place
adds_to_books s f m worker event after (ends_and_leaves o place at under_is unwaited) = acted f m worker o None place
adds_to_books s f m worker event after (suspends_top o place child at not_ended under_is) = closed f m worker o
adds_to_books s f m worker event after (gives_deque_up o) = closed f m worker o
