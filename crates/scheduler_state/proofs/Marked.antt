-- The marked periods are counted in any order.
use Rattle.std.proofs.Common.{◌≡◌, ℕ, Fits, w32, zero, suc, ◌+◌, ◌≤◌, ◌<◌, Bool, true, false, List, [], ◌∷◌, ◌++◌, map, length, drop, inl, inr, refl, sym, ap, subst, ◌∙◌, arith}
use Rattle.std.proofs.Math.Logic.{∥∥₁_elim}
use Rattle.std.proofs.lemmas.List.{map-append}
use Rattle.std.proofs.lemmas.List.Recursion.{is_count_by}
use Rattle.std.specs.Prelude.{Option, None, Some, cond, slice_get, count_by}
use Rattle.std.proofs.Common.{ℤ, SFits, pos, negsuc, ◌≤ℤ◌, to_z, of_z, w64}
use Rattle.std.proofs.lemmas.Int.{to_z-of_z, ints}
use Rattle.std.proofs.Math.IntN.{nat_abs}
use denote.Struct.Props.{props}
use mir.Val.{bool_byte}
use Rattle.dag_order.specs.Changes.{high_water}
use Rattle.open_periods.specs.Passed.Actions.{weight}
use Rattle.thread_points.specs.Passed.States.{Setting}
use Rattle.open_periods.specs.Passed.DequeMachineRuns.{Pair, moves, high_water_mark}
use Rattle.space_ledger.specs.declared.moved.Moved.{Moved}
use Rattle.space_ledger.specs.Sums.{change_of, highest, IsHighest}
use Rattle.node_table.specs.Table.{Table}
use Rattle.thread_points.specs.Passed.Run.{list_of}
use Rattle.scheduler_state.specs.Held.{Held}
use Rattle.scheduler_state.specs.Moments.{IsSound, HasRun}
use Rattle.open_periods.specs.Passed.Terms.{Terms}
use Rattle.moment_laws.specs.Moves.{AreMovesOf}
use Rattle.open_periods.specs.Passed.Actions.{Action}
use Rattle.open_periods.specs.Passed.Lists.{Among, Differ, total}
use Rattle.open_periods.specs.Passed.Books.{Book, periods_marked}
use Rattle.open_periods.proofs.Passed.Lists.{total_append, total_middle, each_among, among_middle, among_wider, differ_at, differ_without}
use Rattle.open_periods.specs.Passed.Moments.{Moment}
use Rattle.space_ledger.specs.declared.book.Closed.{Closed}
use Rattle.space_ledger.specs.Counts.{is_ahead}
use Rattle.space_ledger.specs.BooksList.{books_list}
use Rattle.open_periods.specs.Periods.{Period, InOrder, closed_shown}
use Rattle.open_periods.specs.Telling.{AreBooks, Tell}
use Rattle.open_periods.specs.declared.seat.Seat.{Seat}
use Rattle.open_periods.specs.declared.table.PeriodTable.{PeriodTable}
use Rattle.open_periods.specs.Numbers.{open_periods, NumbersDiffer}
use Rattle.open_periods.specs.Tables.{periods_of, seat_in}
use Rattle.open_periods.proofs.Lists.{to_differ, among_of_place}
use Rattle.scheduler_state.specs.Marks.{ahead_in, one_if_ahead, open_ahead}

abbrev num : Period → ℕ
num p = p.number

abbrev one_if_marked : Period → ℕ
one_if_marked p = cond p.ahead 1 0

numbered_among : (p : Period) (ps : List Period) → Among p ps → Among p.number (map num ps)
numbered_among p [] there = there
numbered_among p (q ∷ ps) there = elim there [ inl same ↦ inl (ap num same) | inr later ↦ inr (numbered_among p ps later) ]

-- a list is cut at what stands in it
cut_at : (p : Period) (ps : List Period) → Among p ps → (left : List Period) × (right : List Period) × (ps ≡ left ++ p ∷ right)
cut_at p [] there = absurd there
cut_at p (q ∷ ps) there = elim there [
  | inl same ↦ ([], ps, ap (λ x. x ∷ ps) (sym same))
  | inr later ↦ let rest = cut_at p ps later in (q ∷ rest.0, rest.1, ap (λ xs. q ∷ xs) rest.2)
]

-- the same periods of different numbers, in two orders, have the same sum
same_total : (f : Period → ℕ) (xs ys : List Period) → Differ (map num xs) → Differ (map num ys) → ((p : Period) → Among p xs → Among p ys)
    → ((p : Period) → Among p ys → Among p xs) → total f xs ≡ total f ys
same_total f [] [] xs_differ ys_differ there back = refl
same_total f [] (y ∷ ys) xs_differ ys_differ there back = absurd (back y (inl refl))
same_total f (x ∷ xs) ys xs_differ ys_differ there back =
    let cut = cut_at x ys (there x (inl refl)) in
    let left = cut.0 in let right = cut.1 in
    let numbers : Differ (map num left ++ x.number ∷ map num right) =
    subst Differ (map-append num left (x ∷ right)) (subst (λ ps. Differ (map num ps)) cut.2 ys_differ) in
    let rest : total f xs ≡ total f (left ++ right) = same_total f xs (left ++ right) xs_differ.1
    (subst Differ (sym (map-append num left right)) (differ_without (map num left) x.number (map num right) numbers))
    (λ p among. elim (among_middle p left x right (subst (Among p) cut.2 (there p (inr among)))) [
      | inl same ↦ absurd (xs_differ.0 (subst (λ q. Among q.number (map num xs)) same (numbered_among p xs among)))
      | inr beside ↦ beside
    ])
    (λ p among. elim (back p (subst (Among p) (sym cut.2) (among_wider p left x right among))) [
      | inl same ↦ absurd (differ_at (map num left) x.number (map num right) numbers
          (subst (λ q. Among (Period.number q) (map num left ++ map num right)) same
          (subst (Among p.number) (map-append num left right) (numbered_among p (left ++ right) among))))
      | inr later ↦ later
    ]) in
    let whole = ap (total f) cut.2 ∙ total_middle f left x right in
    let parts = total_append f left right in
    omega (arith, rest, whole, parts)

-- the periods in the order of their numbers
sorted_differ : (periods sorted : List Period) → InOrder periods sorted → NumbersDiffer sorted
sorted_differ periods sorted order i j p q p_there q_there same =
    let first = (order.all i p p_there).0 in let second = (order.all j q q_there).0 in omega (arith, first, second, same)

place_of : (p : Period) (ps : List Period) → Among p ps → (n : ℕ) × (slice_get ps n ≡ Some p)
place_of p [] there = absurd there
place_of p (q ∷ ps) there = elim there [
  | inl same ↦ (0, ap Some (sym same))
  | inr later ↦ let found = place_of p ps later in (suc found.0, found.1)
]

-- the sum over periods of different numbers does not depend on their order
pub in_order_total : (f : Period → ℕ) (periods sorted : List Period) → NumbersDiffer periods → InOrder periods sorted → total f periods ≡ total f sorted
in_order_total f periods sorted differ order =
    same_total f periods sorted (to_differ periods differ) (to_differ sorted (sorted_differ periods sorted order))
    (λ p there. let placed = each_among _ p periods order.placed there in among_of_place p sorted placed.0 placed.2)
    (λ p there. let place = place_of p sorted there in (order.all place.0 p place.1).1)

-- the books have the marks of their periods
books_marked : (k : ℕ) (l : List Action) (periods ps : List Period) (books : List Book) → AreBooks k l periods ps books
    → total one_if_marked ps ≡ periods_marked books
books_marked k l periods [] [] are = refl
books_marked k l periods [] (book ∷ books) are = absurd are
books_marked k l periods (p ∷ ps) [] are = absurd are
books_marked k l periods (p ∷ ps) (book ∷ books) are =
    let first : one_if_marked p ≡ cond book.ahead 1 0 = ap (λ b. cond b 1 0) (sym are.0.ahead) in
    let rest = books_marked k l periods ps books are.1 in
    omega (arith, first, rest)

-- what is counted of the closed periods and of the seats
closed_marked : (closed : List Closed) → total one_if_marked (map closed_shown closed) ≡ count_by is_ahead closed
closed_marked closed = is_count_by (λ xs. total one_if_marked (map closed_shown xs)) is_ahead refl (λ p ps. one_more p.ahead (total one_if_marked (map closed_shown ps))) closed
  where
    one_more : (b : Bool) (n : ℕ) → cond b 1 0 + n ≡ cond b (1 + n) n
    one_more true n = refl
    one_more false n = omega arith

open_marked : (worker : ℕ) (seats : List (Option Seat)) → total one_if_marked (open_periods worker seats) ≡ open_ahead seats
open_marked worker [] = refl
open_marked worker (None ∷ seats) = let rest = open_marked (suc worker) seats in omega (arith, rest)
open_marked worker (Some seat ∷ seats) = ap (λ n. cond seat.period.ahead 1 0 + n) (open_marked (suc worker) seats)

pub all_marked : (table : PeriodTable) (k : ℕ) (l : List Action) (books : List Book) → Tell k l (periods_of table) books
    → count_by is_ahead (books_list table.books) + open_ahead table.seats.items ≡ periods_marked books
all_marked table k l books tell =
    let closed = closed_marked (books_list table.books) in
    let open_ones = open_marked 0 table.seats.items in
    let both = total_append one_if_marked (map closed_shown (books_list table.books)) (open_periods 0 table.seats.items) in
    let order = in_order_total one_if_marked (periods_of table) tell.sorted table.numbers_differ tell.in_order in
    let marks = books_marked k l (periods_of table) tell.sorted books tell.are_books in
    omega (arith, closed, open_ones, both, order, marks)

-- no more are marked than there are
pub marked_below : (books : List Book) → periods_marked books ≤ length books
marked_below [] = omega arith
marked_below (book ∷ books) = let rest = marked_below books in step book.ahead rest
  where
    step : (b : Bool) → periods_marked books ≤ length books → cond b 1 0 + periods_marked books ≤ suc (length books)
    step true rest = omega (arith, rest)
    step false rest = omega (arith, rest)

-- one seat more
pub seat_more : (seats : List (Option Seat)) (i : ℕ) → i < length seats
    → open_ahead (drop i seats) ≡ one_if_ahead (seat_in (slice_get seats i)) + open_ahead (drop (suc i) seats)
seat_more [] i below = absurd (omega (arith, below))
seat_more (seat ∷ seats) zero below = refl
seat_more (seat ∷ seats) (suc i) below = seat_more seats i (omega (arith, below))

-- so the sum is that of the moment, and has 32 bits
pub marked_at : (c : Setting) (terms : Terms) (h : Held) (run : List Pair) (m : Moment) → HasRun c terms h run m → (closed open_ones : ℕ)
    → closed ≡ count_by is_ahead (books_list h.table.books) → open_ones ≡ open_ahead h.table.seats.items
    → closed + open_ones ≡ periods_marked m.books
marked_at c terms h run m at closed open_ones closed_is open_is =
    let all = all_marked h.table c.quota (list_of c) m.books at.standing.shows.books in omega (arith, closed_is, open_is, all)

pub marked_fits : (t : Table) (k : ℕ) (terms : Terms) (h : Held) → IsSound t k terms h → h.table.begun < 4294967296 → (closed open_ones : ℕ)
    → closed ≡ count_by is_ahead (books_list h.table.books) → open_ones ≡ open_ahead h.table.seats.items
    → Fits w32 (closed + open_ones)
marked_fits t k terms h sound few closed open_ones closed_is open_is = small (closed + open_ones) (∥∥₁_elim sound.of_program (search props) (λ p.
    ∥∥₁_elim (sound.somewhere p.0 p.1) (search props) (λ w.
    let same = marked_at p.0 terms h w.0 w.1 w.2 closed open_ones closed_is open_is in let below = marked_below w.1.books in
    let begun = w.2.standing.begun in omega (arith, same, below, begun, few))))
  where
    small : (n : ℕ) → n < 4294967296 → Fits w32 n
    small n below = record { fits = below }

-- the moves of the run have the same changes
changes_are : (periods : List Period) (moves : List Moved) (actions : List Action) → AreMovesOf periods moves actions
    → map change_of moves ≡ map weight actions
changes_are periods [] [] are = refl
changes_are periods [] (action ∷ actions) are = absurd are
changes_are periods (moved ∷ moves) [] are = absurd are
changes_are periods (moved ∷ moves) (action ∷ actions) are =
    ap (λ z. z ∷ map change_of moves) are.0.change ∙ ap (λ zs. weight action ∷ zs) (changes_are periods moves actions are.1)

pub high_at : (c : Setting) (terms : Terms) (h : Held) (run : List Pair) (m : Moment) → HasRun c terms h run m → (high : ℤ) → high ≡ highest h.moves
    → IsHighest h.moves high → SFits w64 high → pos (nat_abs (to_z w64 (of_z w64 high))) ≡ high_water_mark (list_of c) run
high_at c terms h run m at high is greatest fits =
    let never : pos 0 ≤ℤ high = greatest.never_above 0 in
    ap (λ z. pos (nat_abs z)) (to_z-of_z w64 high fits) ∙ positive high never ∙ is
    ∙ ap high_water (changes_are (periods_of h.table) h.moves (moves (list_of c) run) at.standing.moves)
  where
    positive : (z : ℤ) → pos 0 ≤ℤ z → pos (nat_abs z) ≡ z
    positive (pos n) some = refl
    positive (negsuc n) some = absurd (omega (arith, ints, some))

pub byte_is : (b : Bool) → bool_byte b ≡ cond b 1 0
byte_is true = refl
byte_is false = refl

pub seat_counted : (seats : List (Option Seat)) (ahead worker more whole : ℕ) (b : Bool) → worker < length seats → more ≡ cond b 1 0
    → b ≡ ahead_in (seat_in (slice_get seats worker)) → (ahead ≤ worker) × (ahead + open_ahead (drop worker seats) ≡ whole)
    → (ahead + more ≤ worker + 1) × (ahead + more + open_ahead (drop (worker + 1) seats) ≡ whole)
seat_counted seats ahead worker more whole b below is same invariant =
    let step = seat_more seats worker below in
    let next : suc worker ≡ worker + 1 = omega arith in
    let index : open_ahead (drop (suc worker) seats) ≡ open_ahead (drop (worker + 1) seats) = ap (λ n. open_ahead (drop n seats)) next in
    let mark : more ≡ one_if_ahead (seat_in (slice_get seats worker)) = is ∙ ap (λ a. cond a 1 0) same in
    let few = at_most b in let low = invariant.0 in let sum = invariant.1 in
    (omega (arith, is, few, low), omega (arith, step, index, mark, sum))
  where
    at_most : (a : Bool) → cond a 1 0 ≤ 1
    at_most true = omega arith
    at_most false = omega arith
