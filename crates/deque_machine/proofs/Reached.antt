-- What holds at each moment that a run reaches.
use Rattle.std.proofs.Common.{◌≡◌, ℕ, ◌*◌, ◌≤◌, ◌<◌, ◌⊎◌, List, [], ◌∷◌, ◌++◌, length, map, inl, inr, refl, sym, ap, subst, ◌∙◌, arith, append_assoc, Bool, true, false, cond, nat_lt, true≢false, ℤ, pos, ◌+ℤ◌, ◌≤ℤ◌, ◌<ℤ◌}
use Rattle.std.specs.Prelude.{Option, None, Some, filter}
use Rattle.std.specs.Int.{int_max}
use Rattle.std.proofs.lemmas.Bool.{cases_Bool, ltb-false}
use Rattle.std.proofs.lemmas.Int.{ints, clamps}
use Rattle.std.proofs.lemmas.Nat.{mul-le}
use Rattle.std.proofs.lemmas.List.{nil_from_length, map-append}
use Rattle.depth_first_run.specs.Passed.Actions.{Deed, forks, joins, allocates, releases, dummy, faults, ends, Action, live_words, peak, weight, weight_of}
use Rattle.depth_first_run.specs.Passed.Runs.{IsDepthFirst}
use Rattle.depth_first_run.specs.Passed.Facts.{action_at, label_at, deed_at, words_at, weight_at}
use Rattle.depth_first_run.proofs.Passed.Weights.{root_end_is_weightless}
use Rattle.deque_machine.specs.Books.{Book, booked, words_in_use, IsPrefix, is_ahead, one_if_ahead, one_if_marked, periods_ahead, periods_marked, bound, one_more, book_of}
use Rattle.deque_machine.proofs.Lists.{total_append, total_below, each_map}
use Rattle.deque_machine.proofs.Parts.{live_append}
use Rattle.deque_machine.proofs.Keeping.{booked_append, closed_same, begun_same, prefix_of, ended_has_all}
use Rattle.deque_machine.proofs.Accounting.{accounting, arena_law}
use Rattle.deque_machine.specs.Moments.{Deque, Waiting, Moment, opening, done_at, live_at}
use Rattle.deque_machine.specs.Machine.{Setting, Event, steals, does, suspends, gives_up, Owns, books_with, books_closed, new_book, May, steals_beside, takes_over, forks_child, joins_child, allocates_within, allocates_above, releases_words, meets_fault, runs_dummy, ends_above_parent, ends_and_wakes, ends_and_leaves, suspends_top, gives_deque_up}
use Rattle.deque_machine.specs.LawfulOrder.{IsLawful}
use Rattle.deque_machine.specs.Runs.{Pair, Reaches, place_of, places_of, moves_words, is_move, moves, high_water_mark}
use Rattle.deque_machine.specs.Laws.{EventsKeepLawful, ReachedIsLawful, BoundAlways, AheadIsMarked, MovesAreLive, MarkedBound, MarksNeverFall, ArenaRefuses, EndedDidAll}
use Rattle.deque_machine.proofs.Kept.{kept, opening_is_lawful}

pub lawful_along : (s : Setting) → IsDepthFirst s.quota s.list → (run : List Pair) (first last : Moment) → IsLawful s first → Reaches s first run last → IsLawful s last
lawful_along s list [] first last lawful reaches = subst (IsLawful s) reaches lawful
lawful_along s list (pair ∷ later) first last lawful reaches =
    lawful_along s list later reaches.0 last (kept s list first lawful pair.worker pair.event reaches.0 reaches.1) reaches.2

-- what an event does to the books: one action more, or none, and no mark is lost
pub record Writes (l : List Action) (m : Moment) (event : Event) (after : Moment) : Type 0 where
  pub live : live_at l after ≡ live_at l m +ℤ live_words (map (action_at l) (place_of event))
  pub marks : periods_marked m.books ≤ periods_marked after.books

live_more : (l : List Action) (older newer : List Book) (book : Book) (owner : Option ℕ) (place : ℕ)
    → words_in_use l (one_more older book newer owner place) ≡ words_in_use l (older ++ book ∷ newer) +ℤ (weight_at l place +ℤ pos 0)
live_more l older newer book owner place =
    let at : ℕ → Action = action_at l in
    let x : List ℕ = booked older ++ book.ran in
    let b : Book = book_of book owner (book.ran ++ place ∷ []) in
    let was : booked (older ++ book ∷ newer) ≡ x ++ booked newer = booked_append older (book ∷ newer) ∙ sym (append_assoc (booked older) book.ran (booked newer)) in
    let behind : booked (older ++ b ∷ newer) ≡ x ++ place ∷ booked newer =
    booked_append older (b ∷ newer) ∙ ap (λ t. booked older ++ t) (append_assoc book.ran (place ∷ []) (booked newer)) ∙ sym (append_assoc (booked older) book.ran (place ∷ booked newer)) in
    let a : words_in_use l (older ++ b ∷ newer) ≡ live_words (map (action_at l) x) +ℤ live_words (map (action_at l) (place ∷ booked newer)) =
    ap (λ t. live_words (map (action_at l) t)) behind ∙ ap live_words (map-append (action_at l) x (place ∷ booked newer)) ∙ live_append (map (action_at l) x) (map (action_at l) (place ∷ booked newer)) in
    let c : words_in_use l (older ++ book ∷ newer) ≡ live_words (map (action_at l) x) +ℤ live_words (map (action_at l) (booked newer)) =
    ap (λ t. live_words (map (action_at l) t)) was ∙ ap live_words (map-append (action_at l) x (booked newer)) ∙ live_append (map (action_at l) x) (map (action_at l) (booked newer)) in
    sums (words_in_use l (older ++ b ∷ newer)) (words_in_use l (older ++ book ∷ newer)) (live_words (map (action_at l) x)) (live_words (map (action_at l) (booked newer))) (weight_at l place) a c
  where
    sums : (p q x y w : ℤ) → p ≡ x +ℤ (w +ℤ y) → q ≡ x +ℤ y → p ≡ q +ℤ (w +ℤ pos 0)
    sums p q x y w a c = omega (arith, ints)

nothing_more : (p q : ℤ) → p ≡ q → p ≡ q +ℤ pos 0
nothing_more p q e = omega (arith, ints)

writes_action : (s : Setting) (m : Moment) (worker : ℕ) (o : Owns m worker) (owner : Option ℕ) (place : ℕ) (deques : List Deque) (waiting : List Waiting)
    → Writes s.list m (does place) (record { deques = deques; waiting = waiting; books = books_with o owner place })
writes_action s m worker o owner place deques waiting = record {
  live = live_more s.list o.older o.newer o.book owner place ∙ ap (λ t. words_in_use s.list t +ℤ (weight_at s.list place +ℤ pos 0)) (sym o.books_are);
  marks =
      let same : periods_marked m.books ≡ periods_marked (o.older ++ o.book ∷ o.newer) = ap periods_marked o.books_are in
      let a = total_append one_if_marked o.older (o.book ∷ o.newer) in
      let b = total_append one_if_marked o.older (book_of o.book owner (o.book.ran ++ place ∷ []) ∷ o.newer) in omega (arith, same, a, b);
}

writes_closed : (s : Setting) (m : Moment) (worker : ℕ) (o : Owns m worker) (event : Event) (deques : List Deque) (waiting : List Waiting) → place_of event ≡ []
    → Writes s.list m event (record { deques = deques; waiting = waiting; books = books_closed o })
writes_closed s m worker o event deques waiting none = record {
  live = nothing_more (words_in_use s.list (books_closed o)) (live_at s.list m)
      (ap (λ t. live_words (map (action_at s.list) t)) (closed_same o.older o.newer o.book None) ∙ ap (words_in_use s.list) (sym o.books_are))
      ∙ ap (λ t. live_at s.list m +ℤ live_words (map (action_at s.list) t)) (sym none);
  marks =
      let same : periods_marked m.books ≡ periods_marked (o.older ++ o.book ∷ o.newer) = ap periods_marked o.books_are in
      let a = total_append one_if_marked o.older (o.book ∷ o.newer) in
      let b = total_append one_if_marked o.older (book_of o.book None o.book.ran ∷ o.newer) in omega (arith, same, a, b);
}

writes_new : (s : Setting) (m : Moment) (worker place id : ℕ) (ahead : Bool) (deques : List Deque)
    → Writes s.list m (steals place id) (record { deques = deques; waiting = m.waiting; books = m.books ++ new_book worker ahead ∷ [] })
writes_new s m worker place id ahead deques = record {
  live = nothing_more (words_in_use s.list (m.books ++ new_book worker ahead ∷ [])) (live_at s.list m)
      (ap (λ t. live_words (map (action_at s.list) t)) (begun_same m.books (new_book worker ahead) refl));
  marks = let a = total_append one_if_marked m.books (new_book worker ahead ∷ []) in omega (arith, a);
}

pub event_writes : (s : Setting) (m : Moment) (worker : ℕ) (event : Event) (after : Moment) → May s m worker event after → Writes s.list m event after
event_writes s m worker event after (steals_beside left right victim first others bottom id idle reach deques_are threads_are new_id) =
    writes_new s m worker (length left) id true (left ++ record { id = victim.id; owner = victim.owner; threads = first ∷ others } ∷ record { id = id; owner = Some worker; threads = bottom ∷ [] } ∷ right)
event_writes s m worker event after (takes_over left right thread id idle reach deques_are) =
    writes_new s m worker (length left) id (nat_lt 0 (length left)) (left ++ record { id = id; owner = Some worker; threads = thread ∷ [] } ∷ right)
event_writes s m worker event after (forks_child o place child at fits) = writes_action s m worker o (Some worker) place after.deques after.waiting
event_writes s m worker event after (joins_child o place child at has) = writes_action s m worker o (Some worker) place after.deques after.waiting
event_writes s m worker event after (allocates_within o place at small fits) = writes_action s m worker o (Some worker) place after.deques after.waiting
event_writes s m worker event after (allocates_above o place at large) = writes_action s m worker o (Some worker) place after.deques after.waiting
event_writes s m worker event after (releases_words o place at) = writes_action s m worker o (Some worker) place after.deques after.waiting
event_writes s m worker event after (meets_fault o place at) = writes_action s m worker o (Some worker) place after.deques after.waiting
event_writes s m worker event after (runs_dummy o place at) = writes_action s m worker o None place after.deques after.waiting
event_writes s m worker event after (ends_above_parent o place child parent below at under_is top_is) = writes_action s m worker o (Some worker) place after.deques after.waiting
event_writes s m worker event after (ends_and_wakes o place before later parent at under_is waiting_is top_is) = writes_action s m worker o (Some worker) place after.deques after.waiting
event_writes s m worker event after (ends_and_leaves o place at under_is unwaited) = writes_action s m worker o None place after.deques after.waiting
event_writes s m worker event after (suspends_top o place child at not_ended under_is) = writes_closed s m worker o suspends after.deques after.waiting refl
event_writes s m worker event after (gives_deque_up o) = writes_closed s m worker o gives_up after.deques after.waiting refl

-- an action that is no move weighs nothing
pub no_move_weighs_nothing : (k : ℕ) (l : List Action) → IsDepthFirst k l → (place : ℕ) → place < length l → is_move (action_at l place) ≡ false → weight_at l place ≡ pos 0
no_move_weighs_nothing k l run place inside is =
    by_deed (deed_at l place) (label_at l place) (words_at l place) (λ end root. (root_end_is_weightless k l run place inside end root).0) is
  where
    by_deed : (deed : Deed) (label : List ℕ) (words : ℕ) → (deed ≡ ends → label ≡ [] → words ≡ 0) → moves_words deed label words ≡ false → weight_of deed words ≡ pos 0
    by_deed (forks child) label words root is = absurd (true≢false is)
    by_deed (joins child) label words root is = let none = ltb-false 0 words is in let w : words ≡ 0 = omega arith in ap (weight_of (joins child)) w
    by_deed allocates label words root is = absurd (true≢false is)
    by_deed releases label words root is = absurd (true≢false is)
    by_deed dummy label words root is = refl
    by_deed faults label words root is = absurd (true≢false is)
    by_deed ends label words root is =
        let w : words ≡ 0 = root refl (nil_from_length label (let none = ltb-false 0 (length label) is in omega arith)) in ap (weight_of ends) w

-- the place of an action that came is of the list
pub place_inside : (s : Setting) (m : Moment) (worker place : ℕ) (after : Moment) → May s m worker (does place) after → place < length s.list
place_inside s m worker place after may = inside (does place) after may place refl
  where
    IsDoes : ℕ → Event → Type 0
    IsDoes place (does other) = other ≡ place
    IsDoes place other = ⊥

    inside : (event : Event) (after : Moment) → May s m worker event after → (place : ℕ) → event ≡ does place → place < length s.list
    inside event after (steals_beside left right victim first others bottom id idle reach deques_are threads_are new_id) place is = absurd (subst (IsDoes place) (sym is) refl)
    inside event after (takes_over left right thread id idle reach deques_are) place is = absurd (subst (IsDoes place) (sym is) refl)
    inside event after (forks_child o p child at fits) place is = subst (λ t. t < length s.list) (subst (IsDoes place) (sym is) refl) (at.next).inside
    inside event after (joins_child o p child at has) place is = subst (λ t. t < length s.list) (subst (IsDoes place) (sym is) refl) (at.next).inside
    inside event after (allocates_within o p at small fits) place is = subst (λ t. t < length s.list) (subst (IsDoes place) (sym is) refl) (at.next).inside
    inside event after (allocates_above o p at large) place is = subst (λ t. t < length s.list) (subst (IsDoes place) (sym is) refl) (at.next).inside
    inside event after (releases_words o p at) place is = subst (λ t. t < length s.list) (subst (IsDoes place) (sym is) refl) (at.next).inside
    inside event after (meets_fault o p at) place is = subst (λ t. t < length s.list) (subst (IsDoes place) (sym is) refl) (at.next).inside
    inside event after (runs_dummy o p at) place is = subst (λ t. t < length s.list) (subst (IsDoes place) (sym is) refl) (at.next).inside
    inside event after (ends_above_parent o p child parent below at under_is top_is) place is = subst (λ t. t < length s.list) (subst (IsDoes place) (sym is) refl) (at.next).inside
    inside event after (ends_and_wakes o p before later parent at under_is waiting_is top_is) place is = subst (λ t. t < length s.list) (subst (IsDoes place) (sym is) refl) (at.next).inside
    inside event after (ends_and_leaves o p at under_is unwaited) place is = subst (λ t. t < length s.list) (subst (IsDoes place) (sym is) refl) (at.next).inside
    inside event after (suspends_top o p child at not_ended under_is) place is = absurd (subst (IsDoes place) (sym is) refl)
    inside event after (gives_deque_up o) place is = absurd (subst (IsDoes place) (sym is) refl)

-- the bound at each moment
pub bound_at : (s : Setting) → 0 < s.quota → IsDepthFirst s.quota s.list → (m : Moment) (n : ℕ) → IsLawful s m → IsPrefix s.list (done_at m) n
    → live_at s.list m ≤ℤ bound s.quota s.list (periods_ahead n m.books)
bound_at s some list m n lawful prefix = accounting s.quota s.list some list m.books n (lawful.periods).lawful prefix

ahead_marked_at : (s : Setting) (m : Moment) (n : ℕ) → IsLawful s m → IsPrefix s.list (done_at m) n → periods_ahead n m.books ≤ periods_marked m.books
ahead_marked_at s m n lawful prefix =
    total_below (one_if_ahead n) one_if_marked m.books
    (each_map (λ book. is_ahead n book ≡ true → book.ahead ≡ true) (λ book. one_if_ahead n book ≤ one_if_marked book) m.books
    (λ book among marked. elim (cases_Bool (is_ahead n book)) [
      | inl ahead ↦ let a : one_if_ahead n book ≡ 1 = ap (λ b. cond b 1 0) ahead in let c : one_if_marked book ≡ 1 = ap (λ b. cond b 1 0) (marked ahead) in omega arith
      | inr none ↦ let a : one_if_ahead n book ≡ 0 = ap (λ b. cond b 1 0) none in omega arith
    ]) ((lawful.begun).ahead_marked n prefix))

-- so also by the marked periods
bound_grows : (k : ℕ) (l : List Action) (a b : ℕ) → a ≤ b → bound k l a ≤ℤ bound k l b
bound_grows k l a b le = grows (peak l) (2 * k * a) (2 * k * b) (mul-le (2 * k) a (2 * k) b (omega arith) le)
  where
    grows : (top : ℤ) (x y : ℕ) → x ≤ y → (top +ℤ pos x) ≤ℤ (top +ℤ pos y)
    grows top x y le = omega (arith, ints)

marked_bound_at : (s : Setting) → 0 < s.quota → IsDepthFirst s.quota s.list → (m : Moment) → IsLawful s m → live_at s.list m ≤ℤ bound s.quota s.list (periods_marked m.books)
marked_bound_at s some list m lawful =
    let p = prefix_of s.list (done_at m) in
    both (live_at s.list m) (bound s.quota s.list (periods_ahead p.0 m.books)) (bound s.quota s.list (periods_marked m.books))
    (bound_at s some list m p.0 lawful p.1)
    (bound_grows s.quota s.list (periods_ahead p.0 m.books) (periods_marked m.books) (ahead_marked_at s m p.0 lawful p.1))
  where
    both : (x y z : ℤ) → x ≤ℤ y → y ≤ℤ z → x ≤ℤ z
    both x y z a b = omega (arith, ints)

marks_grow : (s : Setting) (run : List Pair) (first last : Moment) → Reaches s first run last → periods_marked first.books ≤ periods_marked last.books
marks_grow s [] first last reaches = let same : periods_marked first.books ≡ periods_marked last.books = ap (λ m. periods_marked m.books) reaches in omega arith
marks_grow s (pair ∷ later) first last reaches =
    let w : Writes s.list first pair.event reaches.0 = event_writes s first pair.worker pair.event reaches.0 reaches.1 in
    let here = w.marks in let rest = marks_grow s later reaches.0 last reaches.2 in omega (arith, here, rest)

-- the moves of one event, before those of later ones
moves_first : (l : List Action) (pair : Pair) (later : List Pair) → moves l (pair ∷ later) ≡ filter is_move (map (action_at l) (place_of pair.event)) ++ moves l later
moves_first l pair later = ap (filter is_move) (map-append (action_at l) (place_of pair.event) (places_of later)) ∙ filtered (map (action_at l) (place_of pair.event)) (map (action_at l) (places_of later))
  where
    kept_one : (b : Bool) (x : Action) (xs ys : List Action) → cond b (x ∷ (xs ++ ys)) (xs ++ ys) ≡ cond b (x ∷ xs) xs ++ ys
    kept_one true x xs ys = refl
    kept_one false x xs ys = refl

    filtered : (xs ys : List Action) → filter is_move (xs ++ ys) ≡ filter is_move xs ++ filter is_move ys
    filtered [] ys = refl
    filtered (x ∷ xs) ys = ap (λ t. cond (is_move x) (x ∷ t) t) (filtered xs ys) ∙ kept_one (is_move x) x (filter is_move xs) (filter is_move ys)

-- what one event adds: nothing, or a move of the weight that the live words rise by
one_event : (s : Setting) → IsDepthFirst s.quota s.list → (m : Moment) (worker : ℕ) (event : Event) (after : Moment) → May s m worker event after
    → ((filter is_move (map (action_at s.list) (place_of event)) ≡ []) × (live_at s.list after ≡ live_at s.list m))
    ⊎ ((a : Action) × (filter is_move (map (action_at s.list) (place_of event)) ≡ a ∷ []) × (live_at s.list after ≡ live_at s.list m +ℤ weight a))
one_event s list m worker event after may = by_event event may ((event_writes s m worker event after may).live)
  where
    plain : (x y : ℤ) → x ≡ y +ℤ pos 0 → x ≡ y
    plain x y e = omega (arith, ints)

    weightless : (x y w : ℤ) → x ≡ y +ℤ (w +ℤ pos 0) → w ≡ pos 0 → x ≡ y
    weightless x y w e none = omega (arith, ints)

    weighty : (x y w : ℤ) → x ≡ y +ℤ (w +ℤ pos 0) → x ≡ y +ℤ w
    weighty x y w e = omega (arith, ints)

    by_event : (event : Event) → May s m worker event after → live_at s.list after ≡ live_at s.list m +ℤ live_words (map (action_at s.list) (place_of event))
        → ((filter is_move (map (action_at s.list) (place_of event)) ≡ []) × (live_at s.list after ≡ live_at s.list m))
        ⊎ ((a : Action) × (filter is_move (map (action_at s.list) (place_of event)) ≡ a ∷ []) × (live_at s.list after ≡ live_at s.list m +ℤ weight a))
    by_event (steals place id) may live = inl (refl, plain (live_at s.list after) (live_at s.list m) live)
    by_event suspends may live = inl (refl, plain (live_at s.list after) (live_at s.list m) live)
    by_event gives_up may live = inl (refl, plain (live_at s.list after) (live_at s.list m) live)
    by_event (does place) may live = elim (cases_Bool (is_move (action_at s.list place))) [
      | inl moved ↦ inr (action_at s.list place, ap (λ b. cond b (action_at s.list place ∷ []) []) moved, weighty (live_at s.list after) (live_at s.list m) (weight_at s.list place) live)
      | inr none ↦ inl (
        ap (λ b. cond b (action_at s.list place ∷ []) []) none,
        weightless (live_at s.list after) (live_at s.list m) (weight_at s.list place) live
            (no_move_weighs_nothing s.quota s.list list place (place_inside s m worker place after may) none),
      )
    ]

-- the sum of the moves
moves_sum : (s : Setting) → IsDepthFirst s.quota s.list → (run : List Pair) (first last : Moment) → Reaches s first run last
    → live_at s.list last ≡ live_at s.list first +ℤ live_words (moves s.list run)
moves_sum s list [] first last reaches = ap (live_at s.list) (sym reaches) ∙ plus_none (live_at s.list first)
  where
    plus_none : (x : ℤ) → x ≡ x +ℤ pos 0
    plus_none x = omega (arith, ints)
moves_sum s list (pair ∷ later) first last reaches =
    let rest = moves_sum s list later reaches.0 last reaches.2 in
    elim (one_event s list first pair.worker pair.event reaches.0 reaches.1) [
      | inl none ↦ rest ∙ ap (λ t. t +ℤ live_words (moves s.list later)) none.1
          ∙ ap (λ t. live_at s.list first +ℤ live_words t) (sym (moves_first s.list pair later ∙ ap (λ t. t ++ moves s.list later) none.0))
      | inr moved ↦ rest ∙ ap (λ t. t +ℤ live_words (moves s.list later)) moved.2 ∙ joined (live_at s.list first) (weight moved.0) (live_words (moves s.list later))
          ∙ ap (λ t. live_at s.list first +ℤ live_words t) (sym (moves_first s.list pair later ∙ ap (λ t. t ++ moves s.list later) moved.1))
    ]
  where
    joined : (x w y : ℤ) → (x +ℤ w) +ℤ y ≡ x +ℤ (w +ℤ y)
    joined x w y = omega (arith, ints)

-- the high-water mark from a moment on
high_from : (s : Setting) → 0 < s.quota → IsDepthFirst s.quota s.list → (run : List Pair) (first last : Moment) → IsLawful s first → Reaches s first run last
    → (live_at s.list first +ℤ high_water_mark s.list run) ≤ℤ bound s.quota s.list (periods_marked last.books)
high_from s some list [] first last lawful reaches =
    none_more (live_at s.list first) (bound s.quota s.list (periods_marked last.books)) (subst (λ m. live_at s.list first ≤ℤ bound s.quota s.list (periods_marked m.books)) reaches (marked_bound_at s some list first lawful))
  where
    none_more : (x y : ℤ) → x ≤ℤ y → (x +ℤ pos 0) ≤ℤ y
    none_more x y le = omega (arith, ints)
high_from s some list (pair ∷ later) first last lawful reaches =
    let next : Moment = reaches.0 in
    let rest = high_from s some list later next last (kept s list first lawful pair.worker pair.event next reaches.1) reaches.2 in
    let top : ℤ = bound s.quota s.list (periods_marked last.books) in
    elim (one_event s list first pair.worker pair.event next reaches.1) [
      | inl none ↦ subst (λ t. (live_at s.list first +ℤ peak t) ≤ℤ top) (sym (moves_first s.list pair later ∙ ap (λ t. t ++ moves s.list later) none.0))
          (subst (λ t. (t +ℤ high_water_mark s.list later) ≤ℤ top) none.1 rest)
      | inr moved ↦ subst (λ t. (live_at s.list first +ℤ peak t) ≤ℤ top) (sym (moves_first s.list pair later ∙ ap (λ t. t ++ moves s.list later) moved.1))
          (higher (live_at s.list first) (weight moved.0) (high_water_mark s.list later) top
          (lower (live_at s.list first) (bound s.quota s.list (periods_marked first.books)) top (marked_bound_at s some list first lawful)
          (bound_grows s.quota s.list (periods_marked first.books) (periods_marked last.books) (marks_grow s (pair ∷ later) first last reaches)))
          (subst (λ t. (t +ℤ high_water_mark s.list later) ≤ℤ top) moved.2 rest))
    ]
  where
    lower : (x y z : ℤ) → x ≤ℤ y → y ≤ℤ z → x ≤ℤ z
    lower x y z a b = omega (arith, ints)

    higher : (x w h top : ℤ) → x ≤ℤ top → ((x +ℤ w) +ℤ h) ≤ℤ top → (x +ℤ int_max (pos 0) (w +ℤ h)) ≤ℤ top
    higher x w h top a b = omega (arith, ints, clamps)

module _ (s : Setting) (some : 0 < s.quota) (list : IsDepthFirst s.quota s.list) where
  pub events_keep_lawful : EventsKeepLawful s
  events_keep_lawful m after worker event lawful may = kept s list m lawful worker event after may

  pub reached_is_lawful : ReachedIsLawful s
  reached_is_lawful run m reaches = lawful_along s list run opening m (opening_is_lawful s list) reaches

  pub bound_always : BoundAlways s
  bound_always run m n reaches prefix = bound_at s some list m n (reached_is_lawful run m reaches) prefix

  pub ahead_is_marked : AheadIsMarked s
  ahead_is_marked run m n reaches prefix = ahead_marked_at s m n (reached_is_lawful run m reaches) prefix

  pub moves_are_live : MovesAreLive s
  moves_are_live run m reaches = from_nothing (live_at s.list m) (live_words (moves s.list run)) (moves_sum s list run opening m reaches)
    where
      from_nothing : (x y : ℤ) → x ≡ pos 0 +ℤ y → y ≡ x
      from_nothing x y e = omega (arith, ints)

  pub marked_bound : MarkedBound s
  marked_bound run m reaches = from_nothing (high_water_mark s.list run) (bound s.quota s.list (periods_marked m.books)) (high_from s some list run opening m (opening_is_lawful s list) reaches)
    where
      from_nothing : (x y : ℤ) → (pos 0 +ℤ x) ≤ℤ y → x ≤ℤ y
      from_nothing x y e = omega (arith, ints)

  pub marks_never_fall : MarksNeverFall s
  marks_never_fall run first last reaches = marks_grow s run first last reaches

  pub arena_refuses : ArenaRefuses s
  arena_refuses run m after worker place n periods capacity reaches may room refused prefix =
      let lawful : IsLawful s after = kept s list m (reached_is_lawful run m reaches) worker (does place) after may in
      let w : Writes s.list m (does place) after = event_writes s m worker (does place) after may in
      arena_law s.quota s.list some list after.books n periods (lawful.periods).lawful prefix
      (above (bound s.quota s.list periods) (pos capacity) (live_at s.list m) (weight_at s.list place) (live_at s.list after) room refused w.live)
    where
      above : (b c x w y : ℤ) → b ≤ℤ c → c <ℤ (x +ℤ w) → y ≡ x +ℤ (w +ℤ pos 0) → b <ℤ y
      above b c x w y p q e = omega (arith, ints)

  pub ended_did_all : EndedDidAll s
  ended_did_all run m reaches has place inside =
      ended_has_all s.quota s.list list m.books has.0 ((reached_is_lawful run m reaches).periods).lawful has.1 has.2 has.3 has.4 place inside
