-- How much there is at a moment, and what each event adds.
use Rattle.std.proofs.Common.{◌≡◌, ◌≢◌, ℕ, suc, ◌+◌, ◌≤◌, ◌<◌, List, [], ◌∷◌, ◌++◌, length, map, refl, sym, ap, ◌∙◌, arith, length-append, nat_lt, true, ℤ, pos, ◌+ℤ◌, ◌≤ℤ◌}
use Rattle.std.specs.Prelude.{Option, None, Some}
use Rattle.std.proofs.lemmas.Int.{ints}
use Rattle.depth_first_run.specs.Passed.Actions.{Deed, forks, joins, allocates, releases, dummy, faults, ends, Action, live_words, weight_of}
use Rattle.depth_first_run.specs.Passed.Runs.{IsDepthFirst}
use Rattle.depth_first_run.specs.Passed.Facts.{action_at, deed_at, words_at, weight_at}
use Rattle.deque_machine.specs.Lists.{Each, total}
use Rattle.deque_machine.specs.Books.{Book, booked, words_in_use, one_more, book_of}
use Rattle.deque_machine.specs.Lawful.{LawfulBooks}
use Rattle.deque_machine.proofs.Lists.{total_append, each_from, times_among}
use Rattle.deque_machine.proofs.Keeping.{booked_append, closed_same, begun_same}
use Rattle.deque_machine.proofs.Whole.{total_below_all, up_to, up_to_total}
use Rattle.deque_machine.specs.Moments.{Deque, Moment, opening, live_at, threads_in}
use Rattle.deque_machine.specs.Machine.{Setting, Event, does, Owns, books_with, books_closed, new_book, May, steals_beside, takes_over, forks_child, joins_child, allocates_within, allocates_above, releases_words, meets_fault, runs_dummy, ends_above_parent, ends_and_wakes, ends_and_leaves, suspends_top, gives_deque_up}
use Rattle.deque_machine.specs.LawfulOrder.{IsLawful}
use Rattle.deque_machine.specs.Runs.{Pair, Reaches}
use Rattle.deque_machine.specs.Play.{words_taken, taken_by, one_if_fork, counts_fork}
use Rattle.deque_machine.specs.Laws.{ArenaNeverFills, DequesAtMost}
use Rattle.deque_machine.proofs.Shapes.{threads_append}
use Rattle.deque_machine.proofs.Kept.{kept, opening_is_lawful}
use Rattle.deque_machine.proofs.Reached.{lawful_along, event_writes, Writes}

-- a sum over what stands in the books, with one action more
pub booked_more : (f : ℕ → ℕ) (older newer : List Book) (book : Book) (owner : Option ℕ) (place : ℕ)
    → total f (booked (one_more older book newer owner place)) ≡ total f (booked (older ++ book ∷ newer)) + f place
booked_more f older newer book owner place =
    let b : Book = book_of book owner (book.ran ++ place ∷ []) in
    let was : total f (booked (older ++ book ∷ newer)) ≡ total f (booked older) + (total f book.ran + total f (booked newer)) =
    ap (total f) (booked_append older (book ∷ newer)) ∙ total_append f (booked older) (book.ran ++ booked newer) ∙ ap (λ t. total f (booked older) + t) (total_append f book.ran (booked newer)) in
    let now : total f (booked (older ++ b ∷ newer)) ≡ total f (booked older) + (total f (book.ran ++ place ∷ []) + total f (booked newer)) =
    ap (total f) (booked_append older (b ∷ newer)) ∙ total_append f (booked older) ((book.ran ++ place ∷ []) ++ booked newer)
    ∙ ap (λ t. total f (booked older) + t) (total_append f (book.ran ++ place ∷ []) (booked newer)) in
    let more = total_append f book.ran (place ∷ []) in omega (arith, was, now, more)

-- what is taken
taken_at : List Action → ℕ → ℕ
taken_at l i = words_taken (action_at l i)

weight_below : (l : List Action) (i : ℕ) → weight_at l i ≤ℤ pos (taken_at l i)
unfolding taken_at
weight_below l i = by_deed (deed_at l i) (words_at l i)
  where
    by_deed : (deed : Deed) (words : ℕ) → weight_of deed words ≤ℤ pos (taken_by deed words)
    by_deed (forks child) words = omega (arith, ints)
    by_deed (joins child) words = omega (arith, ints)
    by_deed allocates words = omega (arith, ints)
    by_deed releases words = omega (arith, ints)
    by_deed dummy words = omega (arith, ints)
    by_deed faults words = omega (arith, ints)
    by_deed ends words = omega (arith, ints)

live_below : (l : List Action) (xs : List ℕ) → live_words (map (action_at l) xs) ≤ℤ pos (total (taken_at l) xs)
live_below l [] = omega (arith, ints)
live_below l (x ∷ xs) = both (weight_at l x) (live_words (map (action_at l) xs)) (taken_at l x) (total (taken_at l) xs) (weight_below l x) (live_below l xs)
  where
    both : (w y : ℤ) (a b : ℕ) → w ≤ℤ pos a → y ≤ℤ pos b → (w +ℤ y) ≤ℤ pos (a + b)
    both w y a b p q = omega (arith, ints)

-- what stands in lawful books sums to no more than the whole list
whole_below : (k : ℕ) (l : List Action) (books : List Book) → LawfulBooks k l books → (f : ℕ → ℕ) → total f (booked books) ≤ up_to f (length l)
whole_below k l books lawful f = total_below_all f (booked books) (length l) lawful.different
    (each_from (λ i. i < length l) (booked books) (λ i there. lawful.of_the_list i (times_among i (booked books) there)))

pub live_below_whole : (k : ℕ) (l : List Action) (books : List Book) → LawfulBooks k l books → words_in_use l books ≤ℤ pos (total words_taken l)
unfolding taken_at
live_below_whole k l books lawful =
    let most = whole_below k l books lawful (taken_at l) in
    let same : up_to (taken_at l) (length l) ≡ total words_taken l = up_to_total words_taken l _ in
    below (words_in_use l books) (total (taken_at l) (booked books)) (total words_taken l) (live_below l (booked books)) (omega (arith, most, same))
  where
    below : (x : ℤ) (a b : ℕ) → x ≤ℤ pos a → a ≤ b → x ≤ℤ pos b
    below x a b p q = omega (arith, ints)

-- how many threads are somewhere, and how many Forks are done
somewhere : Moment → ℕ
somewhere m = length (threads_in m.deques) + length m.waiting

fork_at : List Action → ℕ → ℕ
fork_at l i = one_if_fork (action_at l i)

forks_done : List Action → Moment → ℕ
forks_done l m = total (fork_at l) (booked m.books)

middle_length : (left right : List Deque) (d : Deque) → length (threads_in (left ++ d ∷ right)) ≡ length (threads_in left) + (length d.threads + length (threads_in right))
middle_length left right d =
    ap length (threads_append left (d ∷ right)) ∙ length-append (threads_in left) (d.threads ++ threads_in right) ∙ ap (λ t. length (threads_in left) + t) (length-append d.threads (threads_in right))

module _ (s : Setting) (m : Moment) where
  cut_length : (worker : ℕ) (o : Owns m worker) → length (threads_in m.deques) ≡ length (threads_in o.left) + (suc (length o.under) + length (threads_in o.right))
  cut_length worker o = ap (λ t. length (threads_in t)) o.deques_are ∙ middle_length o.left o.right (record { id = o.id; owner = Some worker; threads = o.top ∷ o.under })

  did_more : (worker : ℕ) (o : Owns m worker) (owner : Option ℕ) (place : ℕ) → total (fork_at s.list) (booked (books_with o owner place)) ≡ forks_done s.list m + fork_at s.list place
  unfolding forks_done
  did_more worker o owner place = booked_more (fork_at s.list) o.older o.newer o.book owner place ∙ ap (λ t. total (fork_at s.list) (booked t) + fork_at s.list place) (sym o.books_are)

  did_same : (worker : ℕ) (o : Owns m worker) → total (fork_at s.list) (booked (books_closed o)) ≡ forks_done s.list m
  unfolding forks_done
  did_same worker o = ap (total (fork_at s.list)) (closed_same o.older o.newer o.book None) ∙ ap (λ t. total (fork_at s.list) (booked t)) (sym o.books_are)

  -- an event puts no more threads somewhere than it forks
  event_sizes : (worker : ℕ) (event : Event) (after : Moment) → May s m worker event after → somewhere after + forks_done s.list m ≤ somewhere m + forks_done s.list after
  unfolding somewhere forks_done fork_at
  event_sizes worker event after (steals_beside left right victim first others bottom id idle reach deques_are threads_are new_id) =
      let was : length (threads_in m.deques) ≡ length (threads_in left) + (length victim.threads + length (threads_in right)) = ap (λ t. length (threads_in t)) deques_are ∙ middle_length left right victim in
      let v : length victim.threads ≡ suc (length (others ++ bottom ∷ [])) = ap length threads_are in
      let c = length-append others (bottom ∷ []) in
      let now : length (threads_in after.deques) ≡ length (threads_in left) + (suc (length others) + suc (length (threads_in right))) =
      middle_length left (record { id = id; owner = Some worker; threads = bottom ∷ [] } ∷ right) (record { id = victim.id; owner = victim.owner; threads = first ∷ others }) in
      let same : total (fork_at s.list) (booked after.books) ≡ total (fork_at s.list) (booked m.books) = ap (total (fork_at s.list)) (begun_same m.books (new_book worker true) refl) in
      omega (arith, was, v, c, now, same)
  event_sizes worker event after (takes_over left right thread id idle reach deques_are) =
      let was : length (threads_in m.deques) ≡ length (threads_in left) + (1 + length (threads_in right)) = ap (λ t. length (threads_in t)) deques_are
      ∙ middle_length left right (record { id = id; owner = None; threads = thread ∷ [] }) in
      let now : length (threads_in after.deques) ≡ length (threads_in left) + (1 + length (threads_in right)) = middle_length left right (record { id = id; owner = Some worker; threads = thread ∷ [] }) in
      let same : total (fork_at s.list) (booked after.books) ≡ total (fork_at s.list) (booked m.books) = ap (total (fork_at s.list)) (begun_same m.books (new_book worker (nat_lt 0 (length left))) refl) in
      omega (arith, was, now, same)
  event_sizes worker event after (forks_child o place child at fits) =
      let was = cut_length worker o in
      let now : length (threads_in after.deques) ≡ length (threads_in o.left) + (suc (suc (length o.under)) + length (threads_in o.right)) = middle_length o.left o.right _ in
      let more = did_more worker o (Some worker) place in
      let one : fork_at s.list place ≡ 1 = ap counts_fork at.deed_is in omega (arith, was, now, more, one)
  event_sizes worker event after (joins_child o place child at has) = let more = did_more worker o (Some worker) place in omega (arith, more)
  event_sizes worker event after (allocates_within o place at small fits) = let more = did_more worker o (Some worker) place in omega (arith, more)
  event_sizes worker event after (allocates_above o place at large) = let more = did_more worker o (Some worker) place in omega (arith, more)
  event_sizes worker event after (releases_words o place at) = let more = did_more worker o (Some worker) place in omega (arith, more)
  event_sizes worker event after (meets_fault o place at) = let more = did_more worker o (Some worker) place in omega (arith, more)
  event_sizes worker event after (runs_dummy o place at) =
      let was = cut_length worker o in
      let now : length (threads_in after.deques) ≡ length (threads_in o.left) + (suc (length o.under) + length (threads_in o.right)) = middle_length o.left o.right _ in
      let more = did_more worker o None place in omega (arith, was, now, more)
  event_sizes worker event after (ends_above_parent o place child parent below at under_is top_is) =
      let was = cut_length worker o in
      let now : length (threads_in after.deques) ≡ length (threads_in o.left) + (length o.under + length (threads_in o.right)) = middle_length o.left o.right _ in
      let more = did_more worker o (Some worker) place in omega (arith, was, now, more)
  event_sizes worker event after (ends_and_wakes o place before later parent at under_is waiting_is top_is) =
      let was = cut_length worker o in
      let now : length (threads_in after.deques) ≡ length (threads_in o.left) + (1 + length (threads_in o.right)) = middle_length o.left o.right _ in
      let more = did_more worker o (Some worker) place in
      let w : length m.waiting ≡ length before + suc (length later) = ap length waiting_is ∙ length-append before (parent ∷ later) in
      let v = length-append before later in omega (arith, was, now, more, w, v)
  event_sizes worker event after (ends_and_leaves o place at under_is unwaited) =
      let was = cut_length worker o in
      let now : length (threads_in (o.left ++ o.right)) ≡ length (threads_in o.left) + length (threads_in o.right) = ap length (threads_append o.left o.right) ∙ length-append (threads_in o.left) (threads_in o.right) in
      let more = did_more worker o None place in omega (arith, was, now, more)
  event_sizes worker event after (suspends_top o place child at not_ended under_is) =
      let was = cut_length worker o in
      let now : length (threads_in (o.left ++ o.right)) ≡ length (threads_in o.left) + length (threads_in o.right) = ap length (threads_append o.left o.right) ∙ length-append (threads_in o.left) (threads_in o.right) in
      let same = did_same worker o in omega (arith, was, now, same)
  event_sizes worker event after (gives_deque_up o) =
      let was = cut_length worker o in
      let now : length (threads_in after.deques) ≡ length (threads_in o.left) + (suc (length o.under) + length (threads_in o.right)) = middle_length o.left o.right _ in
      let same = did_same worker o in omega (arith, was, now, same)

sizes_along : (s : Setting) (run : List Pair) (first last : Moment) → Reaches s first run last → somewhere last + forks_done s.list first ≤ somewhere first + forks_done s.list last
sizes_along s [] first last reaches =
    let a : somewhere first ≡ somewhere last = ap somewhere reaches in let b : forks_done s.list first ≡ forks_done s.list last = ap (forks_done s.list) reaches in omega (arith, a, b)
sizes_along s (pair ∷ later) first last reaches =
    let here = event_sizes s first pair.worker pair.event reaches.0 reaches.1 in let rest = sizes_along s later reaches.0 last reaches.2 in omega (arith, here, rest)

-- no deque is empty
as_many_threads : (deques : List Deque) → Each (λ d. d.threads ≢ []) deques → length deques ≤ length (threads_in deques)
as_many_threads [] all = omega arith
as_many_threads (d ∷ deques) all =
    let rest = as_many_threads deques all.1 in let sum = length-append d.threads (threads_in deques) in let one = filled d.threads all.0 in omega (arith, rest, sum, one)
  where
    filled : (xs : List (List ℕ)) → xs ≢ [] → 1 ≤ length xs
    filled [] some = absurd (some refl)
    filled (x ∷ xs) some = omega arith

module _ (s : Setting) (some : 0 < s.quota) (list : IsDepthFirst s.quota s.list) where
  pub arena_never_fills : ArenaNeverFills s
  arena_never_fills run m after worker place reaches may =
      let lawful : IsLawful s m = lawful_along s list run opening m (opening_is_lawful s list) reaches in
      let behind : IsLawful s after = kept s list m lawful worker (does place) after may in
      let w : Writes s.list m (does place) after = event_writes s m worker (does place) after may in
      below (live_at s.list after) (live_at s.list m) (weight_at s.list place) (total words_taken s.list) w.live (live_below_whole s.quota s.list after.books (behind.periods).lawful)
    where
      below : (y x w : ℤ) (n : ℕ) → y ≡ x +ℤ (w +ℤ pos 0) → y ≤ℤ pos n → (x +ℤ w) ≤ℤ pos n
      below y x w n e le = omega (arith, ints)

  pub deques_at_most : DequesAtMost s
  unfolding somewhere forks_done fork_at
  deques_at_most run m reaches =
      let lawful : IsLawful s m = lawful_along s list run opening m (opening_is_lawful s list) reaches in
      let sizes : somewhere m + 0 ≤ 1 + forks_done s.list m = sizes_along s run opening m reaches in
      let filled = as_many_threads m.deques (lawful.order).none_empty in
      let most = whole_below s.quota s.list m.books (lawful.periods).lawful (fork_at s.list) in
      let same : up_to (fork_at s.list) (length s.list) ≡ total one_if_fork s.list = up_to_total one_if_fork s.list _ in
      omega (arith, sizes, filled, most, same)
