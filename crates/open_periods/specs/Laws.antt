-- What a caller may use of periods and the books that they are.
use Rattle.std.specs.Prelude.{◌≡◌, ℕ, suc, ◌+◌, None, Some, List, [], ◌∷◌, ◌++◌, length, map}
use Rattle.dag_order.specs.declared.thread_id.ThreadId.{ThreadId}
use Rattle.dag_order.specs.declared.action_id.ActionId.{ActionId}
use Rattle.dag_order.specs.declared.birth.Birth.{Birth}
use Rattle.dag_order.specs.LabelOrder.{fork_of}
use Rattle.dag_order.specs.Births as births
use Rattle.depth_first_list.specs.Actions.{Action}
use Rattle.depth_first_list.specs.Facts.{deed_at}
use Rattle.deque_machine.specs.Lists.{Among}
use Rattle.deque_machine.specs.Books.{Book, charge_at, book_of, one_more}
use Rattle.open_periods.specs.Periods.{Period, Adds, Replaces}
use Rattle.open_periods.specs.Names.{id_of, HasLabel, IsNamed, births_by}
use Rattle.open_periods.specs.Telling.{IsBook, Tell}

-- no periods are no books
abbrev pub NoneTell : ℕ → List Action → Type 0
NoneTell k l = Tell k l [] []

-- the book of a period stands at the place of its number, between those of the older and of the newer periods
pub record IsCutAt (k : ℕ) (l : List Action) (periods : List Period) (p : Period) (books : List Book) : Type 0 where
  pub older : List Book
  pub book : Book
  pub newer : List Book
  pub books_are : books ≡ older ++ book ∷ newer
  pub numbered : p.number ≡ suc (length older)
  pub is_book : IsBook k l periods p book

abbrev pub EachHasItsBook : ℕ → List Action → Type 0
EachHasItsBook k l = (periods : List Period) (books : List Book) (p : Period) → Tell k l periods books → Among p periods
    → IsCutAt k l periods p books

-- a period that begins has the next number, and its book is the last
abbrev pub BeginningIsTold : ℕ → List Action → Type 0
BeginningIsTold k l = (periods next : List Period) (books : List Book) (new : Period) → Tell k l periods books → Adds periods new next
    → new.number ≡ suc (length books) → new.ran ≡ [] → new.born ≡ [] → new.used ≡ 0
    → Tell k l next (books ++ record { ahead = new.ahead; owner = new.owner; ran = [] } ∷ [])

-- A period runs the action of a name, and has one birth more where this is a Fork: then its book has the place of this action after the others.
-- While it stays open it has taken what the action takes.
pub record Runs (k : ℕ) (l : List Action) (periods : List Period) (old new : Period) (id : ActionId) (place : ℕ) : Type 0 where
  pub same_ahead : new.ahead ≡ old.ahead
  pub was_open : (worker : ℕ) × (old.owner ≡ Some worker)
  pub ran : new.ran ≡ old.ran ++ id ∷ []
  pub births : new.born ≡ old.born ++ births_by id.by (deed_at l place)
  pub named : IsNamed l periods id place
  pub used : (worker : ℕ) → new.owner ≡ Some worker → new.used ≡ old.used + charge_at k l place

abbrev pub RunningIsTold : ℕ → List Action → Type 0
RunningIsTold k l = (periods next : List Period) (older newer : List Book) (book : Book) (old new : Period) (id : ActionId) (place : ℕ)
    → Tell k l periods (older ++ book ∷ newer) → Replaces periods old new next → old.number ≡ suc (length older)
    → Runs k l periods old new id place
    → Tell k l next (one_more older book newer new.owner place)

-- a period is closed, and nothing else becomes of it
pub record Closes (old new : Period) : Type 0 where
  pub same_ahead : new.ahead ≡ old.ahead
  pub same_ran : new.ran ≡ old.ran
  pub same_born : new.born ≡ old.born
  pub is_closed : new.owner ≡ None

abbrev pub ClosingIsTold : ℕ → List Action → Type 0
ClosingIsTold k l = (periods next : List Period) (older newer : List Book) (book : Book) (old new : Period)
    → Tell k l periods (older ++ book ∷ newer) → Replaces periods old new next → old.number ≡ suc (length older) → Closes old new
    → Tell k l next (older ++ book_of book None book.ran ∷ newer)

-- a thread has one label
abbrev pub OneLabel : ℕ → List Action → Type 0
OneLabel k l = (periods : List Period) (books : List Book) (id : ThreadId) (a b : List ℕ) → Tell k l periods books
    → HasLabel periods id a → HasLabel periods id b → a ≡ b

-- it keeps its label where a period begins, and where one forks more threads
abbrev pub LabelsStayAtABeginning : Type 0
LabelsStayAtABeginning = (periods next : List Period) (new : Period) (id : ThreadId) (label : List ℕ) → Adds periods new next
    → HasLabel periods id label → HasLabel next id label

abbrev pub LabelsStay : ℕ → List Action → Type 0
LabelsStay k l = (periods next : List Period) (books : List Book) (old new : Period) (more : List Birth) (id : ThreadId) (label : List ℕ)
    → Tell k l periods books → Replaces periods old new next → new.born ≡ old.born ++ more
    → HasLabel periods id label → HasLabel next id label

-- the thread that a period would fork next has no label yet
abbrev pub NextIsNew : ℕ → List Action → Type 0
NextIsNew k l = (periods : List Period) (books : List Book) (p : Period) (label : List ℕ) → Tell k l periods books → Among p periods
    → HasLabel periods (id_of p (length p.born)) label → ⊥

-- and once it is forked it has that of its parent with its ordinal behind
abbrev pub ForkedIsLabelled : ℕ → List Action → Type 0
ForkedIsLabelled k l = (periods next : List Period) (books : List Book) (old new : Period) (birth : Birth) (parent : List ℕ)
    → Tell k l periods books → Replaces periods old new next → new.born ≡ old.born ++ birth ∷ [] → HasLabel periods birth.parent parent
    → HasLabel next (id_of old (length old.born)) (fork_of parent birth.ordinal)

-- a label by periods is the label by their births in the order of their numbers
abbrev pub LabelsAreByBirths : ℕ → List Action → Type 0
LabelsAreByBirths k l = (periods : List Period) (books : List Book) (id : ThreadId) (label : List ℕ) (t : Tell k l periods books)
    → HasLabel periods id label → births.HasLabel (map (λ p. p.born) t.sorted) id label
