-- What is counted of periods is counted of the books that they tell.
use Rattle.std.proofs.Common.{◌≡◌, ℕ, suc, ◌+◌, Bool, true, false, List, [], ◌∷◌, map, length, refl, sym, ap, ◌∙◌, arith}
use Rattle.std.proofs.lemmas.List.Recursion.{is_count_by}
use Rattle.std.specs.Prelude.{cond, count_by}
use Rattle.depth_first_list.specs.Actions.{Action}
use Rattle.deque_machine.specs.Lists.{total}
use Rattle.deque_machine.specs.Books.{Book, periods_marked}
use Rattle.scheduler_state.proofs.Marked.{in_order_total}
use Rattle.space_ledger.specs.declared.book.Closed.{Closed}
use Rattle.space_ledger.specs.Counts.{is_ahead}
use Rattle.hall_slots.specs.Passed.Periods.{Period, closed_shown}
use Rattle.hall_slots.specs.Passed.Telling.{AreBooks, IsBook, Tell}
use Rattle.hall_slots.specs.Passed.OpenPeriodsNumbers.{NumbersDiffer}

-- the books have what is counted of their periods
books_total : (f : Period → ℕ) (g : Book → ℕ) → ((k : ℕ) (l : List Action) (periods : List Period) (p : Period) (book : Book)
    → IsBook k l periods p book → f p ≡ g book) → (k : ℕ) (l : List Action) (periods ps : List Period) (books : List Book)
    → AreBooks k l periods ps books → total f ps ≡ total g books
books_total f g same k l periods [] [] are = refl
books_total f g same k l periods [] (book ∷ books) are = absurd are
books_total f g same k l periods (p ∷ ps) [] are = absurd are
books_total f g same k l periods (p ∷ ps) (book ∷ books) are =
    let first = same k l periods p book are.0 in let rest = books_total f g same k l periods ps books are.1 in omega (arith, first, rest)

-- so all have it together
told_total : (f : Period → ℕ) (g : Book → ℕ) → ((k : ℕ) (l : List Action) (periods : List Period) (p : Period) (book : Book)
    → IsBook k l periods p book → f p ≡ g book) → (k : ℕ) (l : List Action) (periods : List Period) (books : List Book)
    → Tell k l periods books → NumbersDiffer periods → total f periods ≡ total g books
told_total f g same k l periods books tell differ =
    in_order_total f periods tell.sorted differ tell.in_order ∙ books_total f g same k l periods tell.sorted books tell.are_books

-- each counts one, or one if it is marked
ones : {X : Type 0} (xs : List X) → total (λ x. 1) xs ≡ length xs
ones [] = refl
ones (x ∷ xs) = let rest = ones xs in omega (arith, rest)

mapped_length : (closed : List Closed) → length (map closed_shown closed) ≡ length closed
mapped_length [] = refl
mapped_length (p ∷ ps) = ap suc (mapped_length ps)

marks : (books : List Book) → total (λ book. cond book.ahead 1 0) books ≡ periods_marked books
marks [] = refl
marks (book ∷ books) = let rest = marks books in omega (arith, rest)

closed_marks : (closed : List Closed) → total (λ p. cond (Period.ahead p) 1 0) (map closed_shown closed) ≡ count_by is_ahead closed
closed_marks closed = is_count_by (λ xs. total (λ p. cond (Period.ahead p) 1 0) (map closed_shown xs)) is_ahead refl
    (λ p ps. one_more p.ahead (total (λ q. cond (Period.ahead q) 1 0) (map closed_shown ps))) closed
  where
    one_more : (b : Bool) (n : ℕ) → cond b 1 0 + n ≡ cond b (1 + n) n
    one_more true n = refl
    one_more false n = omega arith

module _ (k : ℕ) (l : List Action) (closed : List Closed) (books : List Book) (tell : Tell k l (map closed_shown closed) books)
    (differ : NumbersDiffer (map closed_shown closed)) where
  pub all_counted : length closed ≡ length books
  all_counted = sym (mapped_length closed) ∙ sym (ones (map closed_shown closed))
      ∙ told_total (λ p. 1) (λ book. 1) (λ k l periods p book is. refl) k l (map closed_shown closed) books tell differ ∙ ones books

  pub marked_counted : count_by is_ahead closed ≡ periods_marked books
  marked_counted = sym (closed_marks closed)
      ∙ told_total (λ p. cond (Period.ahead p) 1 0) (λ book. cond book.ahead 1 0) (λ k l periods p book is. ap (λ b. cond b 1 0) (sym is.ahead))
      k l (map closed_shown closed) books tell differ ∙ marks books
