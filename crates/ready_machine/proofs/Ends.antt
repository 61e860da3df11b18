-- A run of a ready list without a free give up ends.
use Rattle.std.proofs.Common.{◌≡◌, ℕ, suc, ◌+◌, ◌*◌, ◌≤◌, ◌<◌, List, [], ◌∷◌, ◌++◌, length, inl, inr, refl, sym, ap, subst, ◌∙◌, arith, length-append, cond, nat_lt, nat_le, Bool, true, false}
use Rattle.std.specs.Prelude.{Option, None, Some}
use Rattle.std.proofs.lemmas.Bool.{cases_lt, lt-ltb, leb-true}
use Rattle.dag_order.specs.LabelOrder.{fork_of}
use Rattle.depth_first_list.specs.Actions.{Deed, forks, joins, allocates, releases, dummy, faults, ends, Action, record_words}
use Rattle.depth_first_list.specs.Runs.{IsDepthFirst}
use Rattle.depth_first_list.specs.Facts.{label_at, deed_at, words_at}
use Rattle.deque_machine.specs.Lists.{Among, Each, Differ, total, times}
use Rattle.deque_machine.specs.Books.{Book, booked, charge, charge_at, charged, book_of}
use Rattle.deque_machine.specs.Lawful.{LawfulBooks}
use Rattle.deque_machine.proofs.Lists.{among_middle, each_map, total_append, each_from, times_among, among_times, one_cases, each_join}
use Rattle.deque_machine.proofs.Keeping.{booked_append, begun_same, times_append}
use Rattle.deque_machine.proofs.Whole.{few_places}
use Rattle.deque_machine.specs.Moments.{Waiting, Moment, opening, done_at, waiting_threads, open_for}
use Rattle.deque_machine.specs.Machine.{Setting, Event, gives_up, Owns, new_book}
use Rattle.deque_machine.specs.LawfulOrder.{Waits, IsLawful}
use Rattle.deque_machine.specs.Runs.{Pair}
use Rattle.deque_machine.specs.Play.{IsForced}
use Rattle.deque_machine.proofs.LiveThreads.{fork_is_done}
use Rattle.deque_machine.proofs.Ends.{one_book}
use Rattle.ready_machine.specs.Entries.{IsReadyList}
use Rattle.ready_machine.specs.ReadyMachine.{ReadyReaches, NoneGivenFree}
use Rattle.ready_machine.specs.Laws.{ReadyRunsEnd, ReadyRunsAreShort}
use Rattle.ready_machine.proofs.Owners.{one_if_some, how_many_owners, few_owners}
use Rattle.ready_machine.proofs.Sharing.{kept_ready, opening_is_ready}
use Rattle.ready_machine.proofs.Along.{ready_along}
use Rattle.ready_machine.proofs.Changes.{Changes, begins, runs_on, runs_last, wakes_one, one_waits, ends_early, changes}

-- 1 for an open period that has taken some of its quota
busy_by : Option ℕ → ℕ → ℕ
busy_by None charged = 0
busy_by (Some owner) charged = cond (nat_lt 0 charged) 1 0

busy_most : (owner : Option ℕ) (c : ℕ) → busy_by owner c ≤ 1
unfolding busy_by
busy_most None c = omega arith
busy_most (Some w) c = by_test (nat_lt 0 c)
  where
    by_test : (b : Bool) → cond b 1 0 ≤ 1
    by_test true = omega arith
    by_test false = omega arith

busy_some : (owner : Option ℕ) (w c : ℕ) → owner ≡ Some w → 0 < c → busy_by owner c ≡ 1
unfolding busy_by
busy_some owner w c is some = ap (λ o. busy_by o c) is ∙ ap (λ b. cond b 1 0) (lt-ltb 0 c some)

-- a busy period is open
busy_within : (owner : Option ℕ) (c : ℕ) → busy_by owner c ≤ one_if_some owner
unfolding busy_by one_if_some
busy_within None c = omega arith
busy_within (Some w) c = busy_most (Some w) c

module _ (s : Setting) where
  is_open : Book → ℕ
  is_open book = one_if_some book.owner

  is_busy : Book → ℕ
  is_busy book = busy_by book.owner (charged s.quota s.list book.ran)

  opens : List Book → ℕ
  opens books = total is_open books

  busies : List Book → ℕ
  busies books = total is_busy books

  acts : List Book → ℕ
  acts books = length (booked books)

  -- an event raises what is used up, except that a period may no longer be busy
  Rises : Moment → List Book → List Waiting → Type 0
  Rises m books waiting = 1 + 2 * busies books + 3 * acts m.books + opens m.books + 2 * length m.waiting
      ≤ 2 * busies m.books + 3 * acts books + opens books + 2 * length waiting

  acts_middle : (older newer : List Book) (book : Book) → acts (older ++ book ∷ newer) ≡ acts older + (length book.ran + acts newer)
  unfolding acts
  acts_middle older newer book = ap length (booked_append older (book ∷ newer)) ∙ length-append (booked older) (book.ran ++ booked newer)
      ∙ ap (λ t. length (booked older) + t) (length-append book.ran (booked newer))

  -- another book in the place of the worker's
  module _ (m : Moment) (worker : ℕ) (o : Owns m worker) where
    with_book : (book : Book) (more : ℕ) (waiting : List Waiting) → length book.ran ≡ length o.book.ran + more
        → 1 + 2 * is_busy book + 1 + 2 * length m.waiting ≤ 2 * is_busy o.book + 3 * more + is_open book + 2 * length waiting
        → Rises m (o.older ++ book ∷ o.newer) waiting
    unfolding Rises opens busies is_open one_if_some
    with_book book more waiting ran rises =
        let opened : is_open o.book ≡ 1 = ap one_if_some o.open_for_it in
        let x : total is_open m.books ≡ total is_open o.older + (is_open o.book + total is_open o.newer) = ap
        (total is_open) o.books_are ∙ total_append is_open o.older (o.book ∷ o.newer) in
        let y : total is_busy m.books ≡ total is_busy o.older + (is_busy o.book + total is_busy o.newer) = ap
        (total is_busy) o.books_are ∙ total_append is_busy o.older (o.book ∷ o.newer) in
        let z : acts m.books ≡ acts o.older + (length o.book.ran + acts o.newer) = ap acts o.books_are
        ∙ acts_middle o.older o.newer o.book in
        let p = total_append is_open o.older (book ∷ o.newer) in let q = total_append is_busy o.older (book ∷ o.newer) in
        let r = acts_middle o.older o.newer book in omega (arith, opened, x, y, z, p, q, r, ran, rises)

    -- an End takes nothing of the quota
    end_is_free : (place : ℕ) → deed_at s.list place ≡ ends
        → is_busy (book_of o.book (Some worker) (o.book.ran ++ place ∷ [])) ≡ is_busy o.book
    unfolding is_busy
    end_is_free place deed =
        let free : charge_at s.quota s.list place ≡ 0 = ap (λ d. charge s.quota d (words_at s.list place)) deed in
        let sum = total_append (charge_at s.quota s.list) o.book.ran (place ∷ []) in
        let taken : charged s.quota s.list (o.book.ran ++ place ∷ []) ≡ charged s.quota s.list o.book.ran = omega (arith, free, sum) in
        ap (busy_by (Some worker)) taken ∙ ap (λ t. busy_by t (charged s.quota s.list o.book.ran)) (sym o.open_for_it)

  -- what one action takes is covered by the quota
  charge_fits : record_words ≤ s.quota → (deed : Deed) (words : ℕ) → charge s.quota deed words ≤ s.quota
  charge_fits fork (forks child) words = fork
  charge_fits fork (joins child) words = omega arith
  charge_fits fork allocates words = by_test (nat_le words s.quota) refl
    where
      by_test : (b : Bool) → nat_le words s.quota ≡ b → cond b words 0 ≤ s.quota
      by_test true is = leb-true words s.quota is
      by_test false is = omega arith
  charge_fits fork releases words = omega arith
  charge_fits fork dummy words = omega arith
  charge_fits fork faults words = omega arith
  charge_fits fork ends words = omega arith

  forced_is_busy : record_words ≤ s.quota → (m : Moment) → IsLawful s m → (worker : ℕ) (o : Owns m worker) → IsForced s m worker
      → 0 < charged s.quota s.list o.book.ran
  forced_is_busy fork m lawful worker o forced =
      let f : Owns m worker = forced.owner in
      let each = (lawful.periods).one_each worker in let most = (lawful.order).owns_one worker in
      let cut : open_for worker m.books ≡ open_for worker (o.older ++ o.book ∷ o.newer) = ap (open_for worker) o.books_are in
      let same : o.book ≡ f.book = one_book s m worker o.older o.newer f.older f.newer o.book f.book (sym o.books_are
      ∙ f.books_are) o.open_for_it f.open_for_it (omega (arith, each, most, cut)) in
      let alike : charged s.quota s.list o.book.ran ≡ charged s.quota s.list f.book.ran = ap (λ b. charged s.quota s.list b.ran) same in
      let full = forced.no_room in
      let fits : charge_at s.quota s.list forced.place ≤ s.quota = charge_fits fork (deed_at s.list forced.place)
      (words_at s.list forced.place) in
      omega (arith, alike, full, fits)

  rises : record_words ≤ s.quota → (m : Moment) → IsLawful s m → (worker : ℕ) (event : Event) (books : List Book) (waiting : List Waiting)
      → Changes s m worker event books waiting → (event ≡ gives_up → IsForced s m worker) → Rises m books waiting
  unfolding Rises opens busies acts is_busy is_open one_if_some busy_by
  rises fork m lawful worker event books waiting (begins place id ahead) forced =
      let new : Book = new_book worker ahead in
      let p = total_append is_open m.books (new ∷ []) in let q = total_append is_busy m.books (new ∷ []) in
      let r : length (booked (m.books ++ new ∷ [])) ≡ length (booked m.books) = ap length (begun_same m.books new refl) in
      let now : is_open new ≡ 1 = refl in let rest : is_busy new ≡ 0 = refl in omega (arith, p, q, r, now, rest)
  rises fork m lawful worker event books waiting (runs_on o place) forced =
      let b : Book = book_of o.book (Some worker) (o.book.ran ++ place ∷ []) in
      let most : is_busy b ≤ 1 = busy_most (Some worker) (charged s.quota s.list (o.book.ran ++ place ∷ [])) in
      let now : is_open b ≡ 1 = refl in
      with_book m worker o b 1 m.waiting (length-append o.book.ran (place ∷ [])) (omega (arith, most, now))
  rises fork m lawful worker event books waiting (runs_last o place) forced =
      let b : Book = book_of o.book None (o.book.ran ++ place ∷ []) in
      let none : is_busy b ≡ 0 = refl in
      with_book m worker o b 1 m.waiting (length-append o.book.ran (place ∷ [])) (omega (arith, none))
  rises fork m lawful worker event books waiting (wakes_one o place before later parent waiting_is deed) forced =
      let b : Book = book_of o.book (Some worker) (o.book.ran ++ place ∷ []) in
      let same : is_busy b ≡ is_busy o.book = end_is_free m worker o place deed in
      let now : is_open b ≡ 1 = refl in
      let w : length m.waiting ≡ length before + suc (length later) = ap length waiting_is ∙ length-append before (parent ∷ later) in
      let v = length-append before later in
      with_book m worker o b 1 (before ++ later) (length-append o.book.ran (place ∷ [])) (omega (arith, same, now, w, v))
  rises fork m lawful worker event books waiting (one_waits o who) forced =
      let b : Book = book_of o.book None o.book.ran in
      let none : is_busy b ≡ 0 = refl in
      with_book m worker o b 0 (who ∷ m.waiting) (omega arith) (omega (arith, none))
  rises fork m lawful worker event books waiting (ends_early o) forced =
      let b : Book = book_of o.book None o.book.ran in
      let some = forced_is_busy fork m lawful worker o (forced refl) in
      let busy : is_busy o.book ≡ 1 = busy_some o.book.owner worker (charged s.quota s.list o.book.ran) o.open_for_it some in
      let none : is_busy b ≡ 0 = refl in
      with_book m worker o b 0 m.waiting (omega arith) (omega (arith, none, busy))

  rises_along : record_words ≤ s.quota → IsDepthFirst s.quota s.list → (run : List Pair) (first last : Moment)
      (reaches : ReadyReaches s first run last) → IsReadyList s first → NoneGivenFree s first run last reaches
      → length run + 2 * busies last.books + 3 * acts first.books + opens first.books + 2 * length first.waiting
      ≤ 2 * busies first.books + 3 * acts last.books + opens last.books + 2 * length last.waiting
  unfolding Rises
  rises_along fork list [] first last reaches ready free =
      let a : busies first.books ≡ busies last.books = ap (λ m. busies m.books) reaches in let b : acts first.books
      ≡ acts last.books = ap (λ m. acts m.books) reaches in
      let c : opens first.books ≡ opens last.books = ap (λ m. opens m.books) reaches in let d : length first.waiting
      ≡ length last.waiting = ap (λ m. length m.waiting) reaches in
      omega (arith, a, b, c, d)
  rises_along fork list (pair ∷ later) first last reaches ready free =
      let next : Moment = reaches.0 in
      let here = rises fork first ready.lawful pair.worker pair.event next.books next.waiting
      (changes s first pair.worker pair.event next reaches.1) free.0 in
      let rest = rises_along fork list later next last reaches.2
      (kept_ready s list first ready pair.worker pair.event next reaches.1) free.1 in
      omega (arith, here, rest)

  -- there are at most as many open periods as workers
  few_open : (m : Moment) → IsLawful s m → opens m.books ≤ s.workers
  unfolding opens is_open
  few_open m lawful =
      let all = how_many_owners (λ b. b.owner) m.books in
      let few = few_owners (λ b. b.owner) m.books s.workers
      (λ w. let each = (lawful.periods).one_each w in let most = (lawful.order).owns_one w in omega (arith, each, most))
      (λ w some. lawful.owners_below w (let each = (lawful.periods).one_each w in omega (arith, some, each))) in
      omega (arith, all, few)

  few_busy : (books : List Book) → busies books ≤ opens books
  unfolding busies opens is_busy is_open
  few_busy [] = omega arith
  few_busy (book ∷ books) = let here = busy_within book.owner (charged s.quota s.list book.ran) in let rest = few_busy books in omega
      (arith, here, rest)

-- Different threads that wait have different places, whichever place of its own each has.
module _ (l : List Action) (Q : ℕ → Type 0) where
  HasPlace : Waiting → Type 0
  HasPlace who = (i : ℕ) × (label_at l i ≡ who.thread) × Q i

  places : (ws : List Waiting) → Each HasPlace ws → List ℕ
  unfolding HasPlace
  places [] all = []
  places (w ∷ ws) all = (all.0).0 ∷ places ws all.1

  as_many : (ws : List Waiting) (all : Each HasPlace ws) → length (places ws all) ≡ length ws
  unfolding places HasPlace
  as_many [] all = refl
  as_many (w ∷ ws) all = ap suc (as_many ws all.1)

  of_those : (ws : List Waiting) (all : Each HasPlace ws) (i : ℕ) → Among i (places ws all)
      → Among (label_at l i) (waiting_threads ws) × Q i
  unfolding places HasPlace
  of_those [] all i there = absurd there
  of_those (w ∷ ws) all i there = elim there [
    | inl same ↦ (inl (ap (label_at l) same ∙ (all.0).1), subst Q (sym same) (all.0).2)
    | inr later ↦ let rest = of_those ws all.1 i later in (inr rest.0, rest.1)
  ]

  differ : (ws : List Waiting) (all : Each HasPlace ws) → Differ (waiting_threads ws) → Differ (places ws all)
  unfolding places HasPlace
  differ [] all apart = tt
  differ (w ∷ ws) all apart = (
    (λ there. apart.0 (subst (λ t. Among t (waiting_threads ws)) (all.0).1 (of_those ws all.1 (all.0).0 there).0)),
    differ ws all.1 apart.1,
  )

differ_once : (xs : List ℕ) → Differ xs → (i : ℕ) → times i xs ≤ 1
differ_once [] differ i = omega arith
differ_once (x ∷ xs) differ i =
    let rest = differ_once xs differ.1 i in
    elim (one_cases i x) [
      | inr other ↦ let none = other.1 in omega (arith, rest, none)
      | inl here ↦ let one = here.1 in elim (cases_lt 0 (times i xs)) [
        | inr none ↦ omega (arith, one, none)
        | inl some ↦ absurd (differ.0 (subst (λ t. Among t xs) here.0 (among_times i xs some)))
      ]
    ]

-- an element of a list, cut out
cut_among : (x : ℕ) (xs : List ℕ) → Among x xs → (left right : List ℕ) × (xs ≡ left ++ x ∷ right)
cut_among x [] there = absurd there
cut_among x (y ∷ xs) there = elim there [
  | inl same ↦ ([], xs, ap (λ t. t ∷ xs) (sym same))
  | inr later ↦ let cut = cut_among x xs later in (y ∷ cut.0, cut.1, ap (λ t. y ∷ t) cut.2)
]

-- different elements of a list are no more than it has
few_among : (xs ys : List ℕ) → Differ xs → Each (λ x. Among x ys) xs → length xs ≤ length ys
few_among [] ys differ all = omega arith
few_among (x ∷ xs) ys differ all =
    let cut = cut_among x ys all.0 in
    let rest = few_among xs (cut.0 ++ cut.1) differ.1 (each_map (λ z. Among z ys) (λ z. Among z (cut.0 ++ cut.1)) xs
    (λ z there among. elim (among_middle z cut.0 x cut.1 (subst (λ t. Among z t) cut.2 among)) [
      | inl same ↦ absurd (differ.0 (subst (λ t. Among t xs) same there))
      | inr beside ↦ beside
    ]) all.1) in
    let whole : length ys ≡ length (cut.0 ++ x ∷ cut.1) = ap length cut.2 in
    let a = length-append cut.0 (x ∷ cut.1) in let b = length-append cut.0 cut.1 in omega (arith, rest, whole, a, b)

module _ (s : Setting) (list : IsDepthFirst s.quota s.list) (m : Moment) (lawful : IsLawful s m) where
  -- what is done and what is waited for are different places of the list
  done_and_waited : length (booked m.books) + length m.waiting ≤ length s.list
  unfolding HasPlace
  done_and_waited =
      let Q : ℕ → Type 0 = λ i. (i < length s.list) × (done_at m i ≡ 0) in
      let all : Each (HasPlace s.list Q) m.waiting = each_map (Waits s.list (done_at m)) (HasPlace s.list Q) m.waiting
      (λ w there waits. (waits.place, (waits.next).by, ((waits.next).inside, (waits.next).missing))) (lawful.order).waits in
      let ws : List ℕ = places s.list Q m.waiting all in
      let xs : List ℕ = booked m.books ++ ws in
      let books : LawfulBooks s.quota s.list m.books = (lawful.periods).lawful in
      let few : length xs ≤ length s.list = few_places xs (length s.list)
      (λ i. let sum = times_append i (booked m.books) ws in let a = books.different i in
      let b = differ_once ws (differ s.list Q m.waiting all (lawful.order).wait_once) i in
      elim (cases_lt 0 (times i ws)) [
        | inr none ↦ omega (arith, sum, a, none)
        | inl some ↦ let missing = ((of_those s.list Q m.waiting all i (among_times i ws some)).1).1 in omega (arith, sum, b, missing)
      ])
      (each_join (λ i. i < length s.list) (booked m.books) ws
      (each_from (λ i. i < length s.list) (booked m.books) (λ i there. books.of_the_list i (times_among i (booked m.books) there)))
      (each_from (λ i. i < length s.list) ws (λ i there. ((of_those s.list Q m.waiting all i there).1).0))) in
      let sum = length-append (booked m.books) ws in
      let same = as_many s.list Q m.waiting all in omega (arith, few, sum, same)

  -- at most as many threads wait as actions are done: the Forks of the children that they wait for
  few_wait : length m.waiting ≤ length (booked m.books)
  unfolding HasPlace
  few_wait =
      let Q : ℕ → Type 0 = λ i. 0 < done_at m i in
      let books : LawfulBooks s.quota s.list m.books = (lawful.periods).lawful in
      let all : Each (HasPlace s.list Q) m.waiting = each_map (Waits s.list (done_at m)) (HasPlace s.list Q) m.waiting
      (λ w there waits.
      let f = fork_is_done s.quota s.list list (done_at m) books.first_actions
      (fork_of w.thread w.child) w.thread [] w.child waits.child_live refl in
      (f.0, f.2, f.4)) (lawful.order).waits in
      let ws : List ℕ = places s.list Q m.waiting all in
      let few = few_among ws (booked m.books) (differ s.list Q m.waiting all (lawful.order).wait_once)
      (each_from (λ i. Among i (booked m.books)) ws (λ i there. among_times i (booked m.books)
      (of_those s.list Q m.waiting all i there).1)) in
      let same = as_many s.list Q m.waiting all in omega (arith, few, same)

module _ (s : Setting) (some : 0 < s.quota) (list : IsDepthFirst s.quota s.list) where
  pub runs_end : ReadyRunsEnd s
  unfolding opens busies acts
  runs_end fork run m reaches free =
      let ready : IsReadyList s m = ready_along s list run opening m (opening_is_ready s list) reaches in
      let rises = rises_along s fork list run opening m reaches (opening_is_ready s list) free in
      let few = done_and_waited s list m ready.lawful in
      let open_ones = few_open s m ready.lawful in
      omega (arith, rises, few, open_ones)

  pub runs_are_short : ReadyRunsAreShort s
  unfolding acts
  runs_are_short fork first last run reaches ready free =
      let later : IsReadyList s last = ready_along s list run first last ready reaches in
      let rises = rises_along s fork list run first last reaches ready free in
      let few = few_wait s list last later.lawful in
      let open_ones = few_open s last later.lawful in
      let opened = few_open s first ready.lawful in
      let busy = few_busy s first.books in
      omega (arith, rises, few, open_ones, opened, busy)
