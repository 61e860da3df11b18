-- Books: what each period of a scheduler ran of a depth-first list, and what is done by them.
use Rattle.std.specs.Prelude.{◌≡◌, ℕ, ◌≤◌, ◌<◌, ◌*◌, Bool, false, ◌||◌, nat_le, cond, Option, List, [], ◌∷◌, ◌++◌, map, length, ℤ, pos, ◌+ℤ◌, ◌+◌}
use Rattle.depth_first_run.specs.Passed.Actions.{Deed, forks, allocates, Action, record_words, live_words, peak}
use Rattle.depth_first_run.specs.Passed.Facts.{action_at, deed_at, words_at}
use Rattle.deque_machine.specs.Lists.{total, times}

-- The book of one period: whether the period is marked ahead, the worker that it is open for, or none where it is
-- closed, and what it ran, in its order. An action is told by its place in the depth-first list. Books stand in
-- the order of the numbers of their periods: the first is that of the period 1, and so on without a gap.
pub record Book : Type 0 where
  pub ahead : Bool
  pub owner : Option ℕ
  pub ran : List ℕ

-- what stands in the books, period by period
abbrev pub booked : List Book → List ℕ
booked [] = []
booked (book ∷ later) = book.ran ++ booked later

-- how often the action at a place stands in the books: it is done where it does, and else missing
abbrev pub done_in : List Book → ℕ → ℕ
done_in books place = times place (booked books)

-- the words in use: the sum of the weights of all that stands in the books
abbrev pub words_in_use : List Action → List Book → ℤ
words_in_use l books = live_words (map (action_at l) (booked books))

-- what a deed takes of the quota of its period: a Fork the words of a record, an Alloc that the quota covers its words, and any other nothing
abbrev pub charge : ℕ → Deed → ℕ → ℕ
charge k (forks child) words = record_words
charge k allocates words = cond (nat_le words k) words 0
charge k other words = 0

abbrev pub charge_at : ℕ → List Action → ℕ → ℕ
charge_at k l place = charge k (deed_at l place) (words_at l place)

-- what a period has taken of its quota
abbrev pub charged : ℕ → List Action → List ℕ → ℕ
charged k l ran = total (charge_at k l) ran

-- n is the greatest number such that the first n actions of the list are all done
pub record IsPrefix (l : List Action) (done : ℕ → ℕ) (n : ℕ) : Type 0 where
  pub inside : n ≤ length l
  pub all_done : (i : ℕ) → i < n → 0 < done i
  pub next_missing : n < length l → done n ≡ 0

-- whether one of these is not among the first n of the list
abbrev pub goes_past : ℕ → List ℕ → Bool
goes_past n [] = false
goes_past n (place ∷ later) = nat_le n place || goes_past n later

-- whether a period is ahead, where the first n actions are all done, and no more: it ran one that is not among them
abbrev pub is_ahead : ℕ → Book → Bool
is_ahead n book = goes_past n book.ran

abbrev pub one_if_ahead : ℕ → Book → ℕ
one_if_ahead n book = cond (is_ahead n book) 1 0

-- how many periods are ahead
abbrev pub periods_ahead : ℕ → List Book → ℕ
periods_ahead n books = total (one_if_ahead n) books

-- how many are marked
abbrev pub one_if_marked : Book → ℕ
one_if_marked book = cond book.ahead 1 0

abbrev pub periods_marked : List Book → ℕ
periods_marked books = total one_if_marked books

-- the most words that may be in use where so many periods are ahead
abbrev pub bound : ℕ → List Action → ℕ → ℤ
bound k l ahead = peak l +ℤ pos (2 * k * ahead)

-- the book with this owner, or closed, in which the period ran this
abbrev pub book_of : Book → Option ℕ → List ℕ → Book
book_of book owner ran = record { ahead = book.ahead; owner = owner; ran = ran }

-- the books in which the period of this book, with older and newer ones beside it, ran one action more
abbrev pub one_more : List Book → Book → List Book → Option ℕ → ℕ → List Book
one_more older book newer after place = older ++ book_of book after (book.ran ++ place ∷ []) ∷ newer
