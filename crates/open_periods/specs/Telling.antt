-- Which books of a depth-first list the periods are.
use Rattle.std.specs.Prelude.{◌≡◌, ℕ, Some, List, [], ◌∷◌}
use Rattle.depth_first_list.specs.Actions.{Action}
use Rattle.deque_machine.specs.Books.{Book, charged}
use Rattle.open_periods.specs.Periods.{Period, InOrder}
use Rattle.open_periods.specs.Names.{AreNamed, births_among}

-- The book of a period: its mark and its owner, and the places of what it ran. Its births are the Forks among what it ran, one for one. While
-- it is open it knows what it has taken of its quota of k words.
pub record IsBook (k : ℕ) (l : List Action) (periods : List Period) (p : Period) (book : Book) : Type 0 where
  pub ahead : book.ahead ≡ p.ahead
  pub owner : book.owner ≡ p.owner
  pub ran : AreNamed l periods p.ran book.ran
  pub born : p.born ≡ births_among l p.ran book.ran
  pub used : (worker : ℕ) → p.owner ≡ Some worker → p.used ≡ charged k l book.ran

abbrev pub AreBooks : ℕ → List Action → List Period → List Period → List Book → Type 0
AreBooks k l periods [] [] = Unit {0}
AreBooks k l periods [] (book ∷ books) = ⊥
AreBooks k l periods (p ∷ ps) [] = ⊥
AreBooks k l periods (p ∷ ps) (book ∷ books) = IsBook k l periods p book × AreBooks k l periods ps books

-- the periods, in the order of their numbers, are these books
pub record Tell (k : ℕ) (l : List Action) (periods : List Period) (books : List Book) : Type 0 where
  pub sorted : List Period
  pub in_order : InOrder periods sorted
  pub are_books : AreBooks k l periods sorted books
