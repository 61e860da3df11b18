-- What holds of lawful books, and what keeps them lawful.
use Rattle.std.specs.Prelude.{◌≡◌, ℕ, ◌+◌, ◌≤◌, ◌<◌, Option, None, Some, List, [], ◌∷◌, ◌++◌, length, ◌≤ℤ◌, ◌<ℤ◌}
use Rattle.depth_first_run.specs.Passed.Actions.{ends, Action}
use Rattle.depth_first_run.specs.Passed.Facts.{deed_at, label_at}
use Rattle.deque_machine.specs.Books.{Book, done_in, words_in_use, IsPrefix, periods_ahead, bound, book_of, one_more}
use Rattle.deque_machine.specs.Lawful.{LawfulBooks, MayRun}

-- the books are lawful before anything is done
abbrev pub NoBooksAreLawful : ℕ → List Action → Type 0
NoBooksAreLawful k l = LawfulBooks k l []

-- there is just one longest part of the list, from its first action on, that is all done
abbrev pub OnePrefix : List Action → Type 0
OnePrefix l = (books : List Book) → (n : ℕ) × IsPrefix l (done_in books) n × ((m : ℕ) → IsPrefix l (done_in books) m → m ≡ n)

-- the words in use are at most the peak, and two quotas for each period that is ahead
abbrev pub Accounting : ℕ → List Action → Type 0
Accounting k l = (books : List Book) (n : ℕ) → LawfulBooks k l books → IsPrefix l (done_in books) n →
    words_in_use l books ≤ℤ bound k l (periods_ahead n books)

-- so where they are more than the peak and two quotas for each of so many periods, more periods are ahead
abbrev pub ArenaLaw : ℕ → List Action → Type 0
ArenaLaw k l = (books : List Book) (n periods : ℕ) → LawfulBooks k l books → IsPrefix l (done_in books) n
    → bound k l periods <ℤ words_in_use l books → periods < periods_ahead n books

-- it keeps the books lawful
abbrev pub RunningKeeps : ℕ → List Action → Type 0
RunningKeeps k l = (older newer : List Book) (book : Book) (worker place : ℕ) (after : Option ℕ) → book.owner ≡ Some worker
    → LawfulBooks k l (older ++ book ∷ newer) → MayRun k l (older ++ book ∷ newer) book.ran after place
    → LawfulBooks k l (one_more older book newer after place)

-- so does closing a period
abbrev pub ClosingKeeps : ℕ → List Action → Type 0
ClosingKeeps k l = (older newer : List Book) (book : Book) → LawfulBooks k l (older ++ book ∷ newer)
    → LawfulBooks k l (older ++ book_of book None book.ran ∷ newer)

-- and beginning one
abbrev pub BeginningKeeps : ℕ → List Action → Type 0
BeginningKeeps k l = (books : List Book) (book : Book) → book.ran ≡ [] → LawfulBooks k l books → LawfulBooks k l (books ++ book ∷ [])

-- where the End of the root is done, each action of the list stands in just one place of the books
abbrev pub EndedHasAll : ℕ → List Action → Type 0
EndedHasAll k l = (books : List Book) (e : ℕ) → LawfulBooks k l books → e < length l → label_at l e ≡ [] → deed_at l e ≡ ends →
    0 < done_in books e
    → (place : ℕ) → place < length l → done_in books place ≡ 1
