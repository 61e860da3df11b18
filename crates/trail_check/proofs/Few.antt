-- A run has no more periods and actions than events.
use Rattle.std.proofs.Common.{◌≡◌, ℕ, suc, ◌+◌, ◌≤◌, List, [], ◌∷◌, ◌++◌, length, ap, arith, length-append, cond, Bool, true, false}
use Rattle.deque_machine.specs.Books.{Book, booked, periods_marked}
use Rattle.deque_machine.specs.Moments.{Moment, opening}
use Rattle.deque_machine.specs.Machine.{Setting, Event, steals, does, suspends, gives_up, Owns, May, steals_beside, takes_over, forks_child, joins_child, allocates_within, allocates_above, releases_words, meets_fault, runs_dummy, ends_above_parent, ends_and_wakes, ends_and_leaves, suspends_top, gives_deque_up}
use Rattle.deque_machine.specs.Runs.{Pair, Reaches, place_of}
use Rattle.deque_machine.proofs.Whole.{total_ones}
use Rattle.trail_check.proofs.Adding.{adds_to_books}
use Rattle.trail_check.specs.declared.checker.Checker.{Checker}
use Rattle.trail_check.specs.Tallies.{IsFew}
use Rattle.trail_check.specs.Standing.{IsStanding}

changed : (m : Moment) (worker : ℕ) (o : Owns m worker) (book : Book) → length (o.older ++ book ∷ o.newer) ≤ suc (length m.books)
changed m worker o book =
    let was : length m.books ≡ length (o.older ++ o.book ∷ o.newer) = ap length o.books_are in
    let a = length-append o.older (o.book ∷ o.newer) in let b = length-append o.older (book ∷ o.newer) in omega (arith, was, a, b)

begun : (bs : List Book) (book : Book) → length (bs ++ book ∷ []) ≤ suc (length bs)
begun bs book = let a = length-append bs (book ∷ []) in omega (arith, a)

-- an event begins one period at most
one_period : (s : Setting) (m : Moment) (worker : ℕ) (event : Event) (after : Moment) → May s m worker event after → length after.books ≤ suc (length m.books)
one_period s m worker event after (steals_beside left right victim first others bottom id idle near deques_are threads_are new_id) = begun m.books _
one_period s m worker event after (takes_over left right thread id idle near deques_are) = begun m.books _
one_period s m worker event after (forks_child o place child at fits) = changed m worker o _
one_period s m worker event after (joins_child o place child at has) = changed m worker o _
one_period s m worker event after (allocates_within o place at small fits) = changed m worker o _
one_period s m worker event after (allocates_above o place at large) = changed m worker o _
one_period s m worker event after (releases_words o place at) = changed m worker o _
one_period s m worker event after (meets_fault o place at) = changed m worker o _
one_period s m worker event after (runs_dummy o place at) = changed m worker o _
one_period s m worker event after (ends_above_parent o place child parent below at under_is top_is) = changed m worker o _
one_period s m worker event after (ends_and_wakes o place before later parent at under_is waiting_is top_is) = changed m worker o _
one_period s m worker event after (ends_and_leaves o place at under_is unwaited) = changed m worker o _
one_period s m worker event after (suspends_top o place child at none under_is) = changed m worker o _
one_period s m worker event after (gives_deque_up o) = changed m worker o _

-- and does one action at most
one_place : (event : Event) → length (place_of event) ≤ 1
one_place (steals place id) = omega arith
one_place (does place) = omega arith
one_place suspends = omega arith
one_place gives_up = omega arith

one_action : (s : Setting) (m : Moment) (worker : ℕ) (event : Event) (after : Moment) → May s m worker event after → length (booked after.books) ≤ suc (length (booked m.books))
one_action s m worker event after may =
    let sum = adds_to_books s (λ i. 1) m worker event after may in
    let a = total_ones (booked after.books) in let b = total_ones (booked m.books) in let c = total_ones (place_of event) in let one = one_place event in
    omega (arith, sum, a, b, c, one)

pub few_from : (s : Setting) (run : List Pair) (first last : Moment) → Reaches s first run last
    → (length last.books ≤ length first.books + length run) × (length (booked last.books) ≤ length (booked first.books) + length run)
few_from s [] first last reaches =
    let a : length first.books ≡ length last.books = ap (λ t. length t.books) reaches in
    let b : length (booked first.books) ≡ length (booked last.books) = ap (λ t. length (booked t.books)) reaches in (omega (arith, a), omega (arith, b))
few_from s (pair ∷ run) first last reaches =
    let rest = few_from s run reaches.0 last reaches.2 in
    let a = one_period s first pair.worker pair.event reaches.0 reaches.1 in let b = one_action s first pair.worker pair.event reaches.0 reaches.1 in
    let x = rest.0 in let y = rest.1 in (omega (arith, a, x), omega (arith, b, y))

pub few_marks : (bs : List Book) → periods_marked bs ≤ length bs
few_marks [] = omega arith
few_marks (b ∷ bs) = let rest = few_marks bs in by_mark b.ahead rest
  where
    by_mark : (ahead : Bool) → periods_marked bs ≤ length bs → cond ahead 1 0 + periods_marked bs ≤ suc (length bs)
    by_mark true rest = omega (arith, rest)
    by_mark false rest = omega (arith, rest)

pub few : (c : Checker) → IsStanding c → IsFew c.tally
few c standing =
    let s = standing.0 in let run = standing.2 in let m = standing.3 in let stands = standing.4 in let short = standing.5 in
    let are = few_from s run opening m stands.reaches in
    let marks = few_marks m.books in
    let periods = (stands.tally).numbers.periods in let ahead = (stands.tally).numbers.ahead in let actions = (stands.tally).actions in
    let a = are.0 in let b = are.1 in
    (omega (arith, actions, b, short), omega (arith, periods, a, short), omega (arith, ahead, marks, a, short))
