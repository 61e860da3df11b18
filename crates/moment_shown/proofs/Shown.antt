-- Parts with a worker's deque in the middle: what they show, their words, and who is in them.
use Rattle.std.proofs.Common.{◌≡◌, ℕ, ◌+◌, ◌⊎◌, List, [], ◌∷◌, ◌++◌, map, inl, inr, ap, subst, ◌∙◌}
use Rattle.std.specs.Prelude.{Some}
use Rattle.std.proofs.lemmas.List.{map-append}
use Rattle.open_periods.specs.Passed.Actions.{Action}
use Rattle.deque_machine.specs.Lists.{Among, total}
use Rattle.deque_machine.specs.Books.{charged}
use Rattle.deque_machine.proofs.Lists.{total_middle, among_left, among_right, among_middle, among_wider, among_here}
use Rattle.deque_machine.specs.Moments as machine
use Rattle.deque_machine.specs.Moments.{Moment, Waiting, threads_in, waiting_threads}
use Rattle.deque_machine.specs.Machine.{Owns}
use Rattle.deque_machine.proofs.Shapes.{threads_append}
use Rattle.open_periods.specs.Laws.{IsCutAt}
use Rattle.open_periods.proofs.Changes.{each_has_its_book}
use Rattle.moment_shown.specs.Parts.{Thread, Deque, Parts, deque_shown, label_of, deque_words}
use Rattle.moment_shown.specs.Standing.{Shows}
use Rattle.moment_shown.specs.Events.{Works}

-- the deques that a list with a deque in the middle shows
pub shown_middle : (left right : List Deque) (d : Deque) → map deque_shown (left ++ d ∷ right) ≡ map deque_shown left ++ deque_shown d ∷ map deque_shown right
shown_middle left right d = map-append deque_shown left (d ∷ right)

pub shown_without : (left right : List Deque) → map deque_shown (left ++ right) ≡ map deque_shown left ++ map deque_shown right
shown_without left right = map-append deque_shown left right

module _ (k : ℕ) (l : List Action) (parts : Parts) (m : Moment) (shows : Shows k l parts m) (worker : ℕ) (o : Works parts worker) where
  pub book_of_it : IsCutAt k l parts.periods o.period m.books
  book_of_it = each_has_its_book k l parts.periods m.books o.period shows.books o.period_there

  pub deques_shown : m.deques ≡ map deque_shown o.left ++ record { id = o.id; owner = Some worker; threads = label_of o.top ∷ map label_of o.under } ∷ map deque_shown o.right
  deques_shown = shows.deques ∙ ap (map deque_shown) o.deques_are ∙ shown_middle o.left o.right (record { id = o.id; owner = Some worker; threads = o.top ∷ o.under })

  -- the worker owns a deque of the moment
  abbrev pub owns : Owns m worker
  owns = record {
    left = map deque_shown o.left;
    id = o.id;
    top = o.top.label;
    under = map label_of o.under;
    right = map deque_shown o.right;
    older = book_of_it.older;
    book = book_of_it.book;
    newer = book_of_it.newer;
    deques_are = deques_shown;
    books_are = book_of_it.books_are;
    open_for_it = book_of_it.is_book.owner ∙ o.open_for_it;
  }

  pub used_is : o.period.used ≡ charged k l book_of_it.book.ran
  used_is = book_of_it.is_book.used worker o.open_for_it

-- who is in deques
abbrev pub InDeques : Thread → List Deque → Type 0
InDeques x deques = (deque : Deque) × Among deque deques × Among x deque.threads

pub in_left : (x : Thread) (left rest : List Deque) → InDeques x left → InDeques x (left ++ rest)
in_left x left rest there = (there.0, among_left there.0 left rest there.1, there.2)

pub in_right : (x : Thread) (left rest : List Deque) → InDeques x rest → InDeques x (left ++ rest)
in_right x left rest there = (there.0, among_right there.0 left rest there.1, there.2)

pub in_here : (x : Thread) (left right : List Deque) (d : Deque) → Among x d.threads → InDeques x (left ++ d ∷ right)
in_here x left right d there = (d, among_here d left right, there)

-- somebody in deques is in the one in the middle, or in those beside it
pub by_deque : (x : Thread) (left right : List Deque) (d : Deque) → InDeques x (left ++ d ∷ right) → Among x d.threads ⊎ InDeques x (left ++ right)
by_deque x left right d there = elim (among_middle there.0 left d right there.1) [
  | inl same ↦ inl (subst (λ e. Among x (Deque.threads e)) same there.2)
  | inr beside ↦ inr (there.0, beside, there.2)
]

pub in_wider : (x : Thread) (left right : List Deque) (d : Deque) → InDeques x (left ++ right) → InDeques x (left ++ d ∷ right)
in_wider x left right d there = (there.0, among_wider there.0 left d right there.1, there.2)

-- labels of those in deques are among the labels that they show
pub among_map : {X Y : Type 0} (f : X → Y) (x : X) (xs : List X) → Among x xs → Among (f x) (map f xs)
among_map f x [] there = there
among_map f x (y ∷ xs) there = elim there [ inl same ↦ inl (ap f same) | inr later ↦ inr (among_map f x xs later) ]

pub label_in : (x : Thread) (deques : List Deque) → InDeques x deques → Among x.label (threads_in (map deque_shown deques))
label_in x [] there = absurd there.1
label_in x (d ∷ deques) there = elim there.1 [
  | inl same ↦ among_left x.label (map label_of d.threads) (threads_in (map deque_shown deques))
      (among_map label_of x d.threads (subst (λ e. Among x (Deque.threads e)) same there.2))
  | inr later ↦ among_right x.label (map label_of d.threads) (threads_in (map deque_shown deques)) (label_in x deques (there.0, later, there.2))
]

-- the words of deques with one in the middle
pub deque_words_middle : (left right : List Deque) (d : Deque) → total deque_words (left ++ d ∷ right) ≡ total deque_words left + (deque_words d + total deque_words right)
deque_words_middle left right d = total_middle deque_words left d right

-- the labels of threads in deques with one in the middle
pub threads_middle : (left right : List machine.Deque) (d : machine.Deque) → threads_in (left ++ d ∷ right) ≡ threads_in left ++ (d.threads ++ threads_in right)
threads_middle left right d = threads_append left (d ∷ right)
