-- What each event does to the books and to those who wait: six kinds.
use Rattle.std.proofs.Common.{◌≡◌, ℕ, ◌+◌, List, [], ◌∷◌, ◌++◌, length, refl, ap, arith, Bool, nat_lt, true}
use Rattle.std.specs.Prelude.{Option, None, Some}
use Rattle.depth_first_list.specs.Actions.{ends}
use Rattle.depth_first_list.specs.Facts.{deed_at}
use Rattle.deque_machine.specs.Books.{Book, booked}
use Rattle.deque_machine.proofs.Keeping.{closed_same, begun_same}
use Rattle.deque_machine.proofs.Whole.{total_ones}
use Rattle.deque_machine.specs.Moments.{Waiting, Moment}
use Rattle.deque_machine.specs.Machine.{Setting, Event, steals, does, suspends, gives_up, Owns, books_with, books_closed, new_book, May, steals_beside, takes_over, forks_child, joins_child, allocates_within, allocates_above, releases_words, meets_fault, runs_dummy, ends_above_parent, ends_and_wakes, ends_and_leaves, suspends_top, gives_deque_up}
use Rattle.deque_machine.specs.Runs.{place_of}
use Rattle.deque_machine.proofs.Sizes.{booked_more}
use Rattle.ready_machine.specs.ReadyMachine.{MayReady, takes, forks_left, as_with_deques}

pub data Changes (s : Setting) (m : Moment) (worker : ℕ) : Event → List Book → List Waiting → Type 0 where
  -- a period begins
  begins : (place id : ℕ) (ahead : Bool) → Changes s m worker (steals place id) (m.books ++ new_book worker ahead ∷ []) m.waiting
  -- the worker's period runs an action and goes on, or ends with it
  runs_on : (o : Owns m worker) (place : ℕ) → Changes s m worker (does place) (books_with o (Some worker) place) m.waiting
  runs_last : (o : Owns m worker) (place : ℕ) → Changes s m worker (does place) (books_with o None place) m.waiting
  -- it runs an End, and one that waits waits no more
  wakes_one : (o : Owns m worker) (place : ℕ) (before later : List Waiting) (parent : Waiting) → m.waiting ≡ before ++ parent ∷ later
      → deed_at s.list place ≡ ends → Changes s m worker (does place) (books_with o (Some worker) place) (before ++ later)
  -- it ends, and one more waits, or not
  one_waits : (o : Owns m worker) (who : Waiting) → Changes s m worker suspends (books_closed o) (who ∷ m.waiting)
  ends_early : (o : Owns m worker) → Changes s m worker gives_up (books_closed o) m.waiting

changes_with_deques : (s : Setting) (m : Moment) (worker : ℕ) (event : Event) (after : Moment) → May s m worker event after
    → Changes s m worker event after.books after.waiting
changes_with_deques s m worker event after
    (steals_beside left right victim first others bottom id idle reach deques_are threads_are new_id) =
    begins (length left) id true
changes_with_deques s m worker event after (takes_over left right thread id idle reach deques_are) = begins (length left) id (nat_lt 0
    (length left))
changes_with_deques s m worker event after (forks_child o place child at fits) = runs_on o place
changes_with_deques s m worker event after (joins_child o place child at has) = runs_on o place
changes_with_deques s m worker event after (allocates_within o place at small fits) = runs_on o place
changes_with_deques s m worker event after (allocates_above o place at large) = runs_on o place
changes_with_deques s m worker event after (releases_words o place at) = runs_on o place
changes_with_deques s m worker event after (meets_fault o place at) = runs_on o place
changes_with_deques s m worker event after (runs_dummy o place at) = runs_last o place
changes_with_deques s m worker event after (ends_above_parent o place child parent below at under_is top_is) = runs_on o place
changes_with_deques s m worker event after (ends_and_wakes o place before later parent at under_is waiting_is top_is) =
    wakes_one o place before later parent waiting_is at.deed_is
changes_with_deques s m worker event after (ends_and_leaves o place at under_is unwaited) = runs_last o place
changes_with_deques s m worker event after (suspends_top o place child at not_ended under_is) =
    one_waits o (record { thread = o.top; child = child })
changes_with_deques s m worker event after (gives_deque_up o) = ends_early o

pub changes : (s : Setting) (m : Moment) (worker : ℕ) (event : Event) (after : Moment) → MayReady s m worker event after
    → Changes s m worker event after.books after.waiting
changes s m worker event after (takes left right thread id idle at) = begins (length left) id (nat_lt 0 (length left))
changes s m worker event after (forks_left o place child new at fits least) = runs_on o place
changes s m worker event after (as_with_deques event' after' shared may) = changes_with_deques s m worker event after may

acted_once : (m : Moment) (worker : ℕ) (o : Owns m worker) (owner : Option ℕ) (place : ℕ)
    → length (booked (books_with o owner place)) ≡ length (booked m.books) + 1
acted_once m worker o owner place =
    let more = booked_more (λ i. 1) o.older o.newer o.book owner place in
    let a = total_ones (booked (books_with o owner place)) in let b = total_ones (booked (o.older ++ o.book ∷ o.newer)) in
    let c : length (booked m.books) ≡ length (booked (o.older ++ o.book ∷ o.newer)) = ap (λ t. length (booked t)) o.books_are in
    omega (arith, more, a, b, c)

closed_as_before : (m : Moment) (worker : ℕ) (o : Owns m worker) → length (booked (books_closed o)) ≡ length (booked m.books) + 0
closed_as_before m worker o =
    let a : length (booked (books_closed o)) ≡ length (booked (o.older ++ o.book ∷ o.newer)) = ap length
    (closed_same o.older o.newer o.book None) in
    let c : length (booked m.books) ≡ length (booked (o.older ++ o.book ∷ o.newer)) = ap (λ t. length (booked t)) o.books_are in
    omega (arith, a, c)

-- with an action one more is done, and else as many as before
pub acts_once : (s : Setting) (m : Moment) (worker : ℕ) (event : Event) (books : List Book) (waiting : List Waiting)
    → Changes s m worker event books waiting → length (booked books) ≡ length (booked m.books) + length (place_of event)
acts_once s m worker event books waiting (begins place id ahead) =
    let same = ap length (begun_same m.books (new_book worker ahead) refl) in omega (arith, same)
acts_once s m worker event books waiting (runs_on o place) = acted_once m worker o (Some worker) place
acts_once s m worker event books waiting (runs_last o place) = acted_once m worker o None place
acts_once s m worker event books waiting (wakes_one o place before later parent waiting_is deed) = acted_once m worker o (Some worker) place
acts_once s m worker event books waiting (one_waits o who) = closed_as_before m worker o
acts_once s m worker event books waiting (ends_early o) = closed_as_before m worker o
