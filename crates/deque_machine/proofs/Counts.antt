-- Each event keeps one open period for each owner.
use Rattle.std.proofs.Common.{◌≡◌, ◌≢◌, ℕ, ◌+◌, ◌≤◌, List, [], ◌∷◌, ◌++◌, refl, ap, arith}
use Rattle.std.specs.Prelude.{Option, Some, unwrap_or}
use Rattle.deque_machine.specs.Lists.{Each, one_if_same}
use Rattle.deque_machine.specs.Books.{Book}
use Rattle.deque_machine.proofs.Lists.{total_append, one_same}
use Rattle.deque_machine.specs.Moments.{Deque, open_for, one_if_owned, one_if_open, one_if_worker}
use Rattle.deque_machine.specs.LawfulOrder.{OnePeriodEach}

pub same_worker : (a b : ℕ) → Some a ≡ Some b → a ≡ b
same_worker a b is = ap (λ o. unwrap_or o a) is

-- what a book counts for a worker
opened : (w : ℕ) (book : Book) (owner : Option ℕ) → book.owner ≡ owner → one_if_open w book ≡ one_if_worker w owner
opened w book owner is = ap (one_if_worker w) is

-- the worker's deque and book in their places, with other threads and another book
pub counts_stay : (left right : List Deque) (d e : Deque) (older newer : List Book) (book behind : Book) → OnePeriodEach (left ++ d ∷ right) (older ++ book ∷ newer)
    → ((w : ℕ) → one_if_worker w behind.owner + one_if_worker w d.owner ≡ one_if_worker w book.owner + one_if_worker w e.owner)
    → OnePeriodEach (left ++ e ∷ right) (older ++ behind ∷ newer)
counts_stay left right d e older newer book behind each change w =
    let was = each w in let c = change w in
    let a = total_append (one_if_owned w) left (d ∷ right) in let b = total_append (one_if_owned w) left (e ∷ right) in
    let x = total_append (one_if_open w) older (book ∷ newer) in let y = total_append (one_if_open w) older (behind ∷ newer) in
    omega (arith, was, c, a, b, x, y)

-- the worker's deque gone, and its book closed
pub counts_leave : (left right : List Deque) (d : Deque) (older newer : List Book) (book behind : Book) → OnePeriodEach (left ++ d ∷ right) (older ++ book ∷ newer)
    → ((w : ℕ) → one_if_worker w behind.owner + one_if_worker w d.owner ≡ one_if_worker w book.owner) → OnePeriodEach (left ++ right) (older ++ behind ∷ newer)
counts_leave left right d older newer book behind each change w =
    let was = each w in let c = change w in
    let a = total_append (one_if_owned w) left (d ∷ right) in let b = total_append (one_if_owned w) left right in
    let x = total_append (one_if_open w) older (book ∷ newer) in let y = total_append (one_if_open w) older (behind ∷ newer) in
    omega (arith, was, c, a, b, x, y)

-- who has one open period has no other
pub none_open : (w : ℕ) (books : List Book) → open_for w books ≡ 0 → Each (λ book. book.owner ≢ Some w) books
none_open w [] none = tt
none_open w (book ∷ books) none = (
  (λ is. let one : one_if_open w book ≡ one_if_same w w = opened w book (Some w) is in let o : one_if_same w w ≡ 1 = one_same w w refl in absurd (omega arith)),
  none_open w books (omega arith),
)

pub no_other_open : (w : ℕ) (older newer : List Book) (book : Book) → book.owner ≡ Some w → open_for w (older ++ book ∷ newer) ≤ 1
    → Each (λ book. book.owner ≢ Some w) older × Each (λ book. book.owner ≢ Some w) newer
no_other_open w older newer book is most =
    let one : one_if_open w book ≡ one_if_same w w = opened w book (Some w) is in let o : one_if_same w w ≡ 1 = one_same w w refl in
    let a = total_append (one_if_open w) older (book ∷ newer) in
    (none_open w older (omega (arith, one, o, a, most)), none_open w newer (omega (arith, one, o, a, most)))
