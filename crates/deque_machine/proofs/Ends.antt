-- A run without a free give up ends.
use Rattle.std.proofs.Common.{◌≡◌, ℕ, suc, ◌+◌, ◌*◌, ◌≤◌, ◌<◌, ◌⊎◌, List, [], ◌∷◌, ◌++◌, length, inl, inr, refl, sym, ap, subst, ◌∙◌, arith, length-append, cond, nat_lt, nat_le, Bool, true, false}
use Rattle.std.specs.Prelude.{Option, None, Some}
use Rattle.std.proofs.lemmas.Bool.{cases_lt, lt-ltb, leb-true}
use Rattle.dag_order.specs.LabelOrder.{fork_of}
use Rattle.depth_first_run.specs.Passed.Actions.{Deed, forks, joins, allocates, releases, dummy, faults, ends, record_words}
use Rattle.depth_first_run.specs.Passed.Runs.{IsDepthFirst}
use Rattle.depth_first_run.specs.Passed.Facts.{label_at, deed_at, words_at, IsDone}
use Rattle.deque_machine.specs.Lists.{Among, Each, Differ, total, times, one_if_same}
use Rattle.deque_machine.specs.Books.{Book, booked, charge, charge_at, charged, book_of}
use Rattle.deque_machine.specs.Lawful.{LawfulBooks}
use Rattle.deque_machine.proofs.Lists.{among_middle, each_map, total_append, each_from, times_among, among_times, one_cases, one_same, same_head, same_tail, each_join}
use Rattle.deque_machine.proofs.Keeping.{booked_append, begun_same, times_append}
use Rattle.deque_machine.proofs.Whole.{few_places}
use Rattle.deque_machine.specs.Moments.{Deque, Waiting, Moment, opening, done_at, waiting_threads, open_for, one_if_open, one_if_worker}
use Rattle.deque_machine.specs.Machine.{Setting, Event, gives_up, Owns, books_with, books_closed, new_book, May, steals_beside, takes_over, forks_child, joins_child, allocates_within, allocates_above, releases_words, meets_fault, runs_dummy, ends_above_parent, ends_and_wakes, ends_and_leaves, suspends_top, gives_deque_up}
use Rattle.deque_machine.specs.LawfulOrder.{Waits, IsLawful}
use Rattle.deque_machine.specs.Runs.{Pair, Reaches}
use Rattle.deque_machine.specs.Play.{IsForced, NoneFree}
use Rattle.deque_machine.specs.Laws.{RunsEnd, RunsAreShort}
use Rattle.deque_machine.proofs.Kept.{kept, opening_is_lawful}
use Rattle.deque_machine.proofs.LiveThreads.{fork_is_done}
use Rattle.deque_machine.proofs.Reached.{lawful_along}

-- 1 for an open period
one_if_some : Option ℕ → ℕ
one_if_some None = 0
one_if_some (Some owner) = 1

is_open : Book → ℕ
is_open book = one_if_some book.owner

-- 1 for an open period that has taken some of its quota
busy_by : Option ℕ → ℕ → ℕ
busy_by None charged = 0
busy_by (Some owner) charged = cond (nat_lt 0 charged) 1 0

busy_most : (owner : Option ℕ) (c : ℕ) → busy_by owner c ≤ 1
unfolding busy_by
busy_most None c = omega arith
busy_most (Some w) c = by_test (nat_lt 0 c)
  where
    by_test : (b : Bool) → cond b 1 0 ≤ 1
    by_test true = omega arith
    by_test false = omega arith

-- a busy period is open
busy_within : (owner : Option ℕ) (c : ℕ) → busy_by owner c ≤ one_if_some owner
unfolding busy_by one_if_some
busy_within None c = omega arith
busy_within (Some w) c = busy_most (Some w) c

busy_some : (owner : Option ℕ) (w c : ℕ) → owner ≡ Some w → 0 < c → busy_by owner c ≡ 1
unfolding busy_by
busy_some owner w c is some = ap (λ o. busy_by o c) is ∙ ap (λ b. cond b 1 0) (lt-ltb 0 c some)

-- the owners of the open periods
with_owner : Option ℕ → List ℕ → List ℕ
with_owner None rest = rest
with_owner (Some w) rest = w ∷ rest

owners : List Book → List ℕ
owners [] = []
owners (book ∷ books) = with_owner book.owner (owners books)

owners_open : (books : List Book) → total is_open books ≡ length (owners books)
unfolding owners is_open with_owner one_if_some
owners_open [] = refl
owners_open (book ∷ books) = by_owner book.owner (owners_open books)
  where
    by_owner : (owner : Option ℕ) → total is_open books ≡ length (owners books) → one_if_some owner + total is_open books ≡ length (with_owner owner (owners books))
    by_owner None rest = omega (arith, rest)
    by_owner (Some w) rest = omega (arith, rest)

owners_times : (w : ℕ) (books : List Book) → times w (owners books) ≡ open_for w books
unfolding owners with_owner
owners_times w [] = refl
owners_times w (book ∷ books) = by_owner book.owner (owners_times w books)
  where
    by_owner : (owner : Option ℕ) → times w (owners books) ≡ open_for w books → times w (with_owner owner (owners books)) ≡ one_if_worker w owner + open_for w books
    by_owner None rest = omega (arith, rest)
    by_owner (Some v) rest = omega (arith, rest)

-- an element of a list, cut out
cut_among : {X : Type 0} → (x : X) (xs : List X) → Among x xs → (left right : List X) × (xs ≡ left ++ x ∷ right)
cut_among x [] there = absurd there
cut_among x (y ∷ xs) there = elim there [
  | inl same ↦ ([], xs, ap (λ t. t ∷ xs) (sym same))
  | inr later ↦ let cut = cut_among x xs later in (y ∷ cut.0, cut.1, ap (λ t. y ∷ t) cut.2)
]

-- different elements of a list are no more than it has
pub few_among : {X : Type 0} → (xs ys : List X) → Differ xs → Each (λ x. Among x ys) xs → length xs ≤ length ys
few_among [] ys differ all = omega arith
few_among (x ∷ xs) ys differ all =
    let cut = cut_among x ys all.0 in
    let rest = few_among xs (cut.0 ++ cut.1) differ.1 (each_map (λ z. Among z ys) (λ z. Among z (cut.0 ++ cut.1)) xs
    (λ z there among. elim (among_middle z cut.0 x cut.1 (subst (λ t. Among z t) cut.2 among)) [
      | inl same ↦ absurd (differ.0 (subst (λ t. Among t xs) same there))
      | inr beside ↦ beside
    ]) all.1) in
    let whole : length ys ≡ length (cut.0 ++ x ∷ cut.1) = ap length cut.2 in
    let a = length-append cut.0 (x ∷ cut.1) in let b = length-append cut.0 cut.1 in omega (arith, rest, whole, a, b)

module _ (s : Setting) where
  is_busy : Book → ℕ
  is_busy book = busy_by book.owner (charged s.quota s.list book.ran)

  opens : List Book → ℕ
  opens books = total is_open books

  busies : List Book → ℕ
  busies books = total is_busy books

  acts : List Book → ℕ
  acts books = length (booked books)

  acts_middle : (older newer : List Book) (book : Book) → acts (older ++ book ∷ newer) ≡ acts older + (length book.ran + acts newer)
  unfolding acts
  acts_middle older newer book = ap length (booked_append older (book ∷ newer)) ∙ length-append (booked older) (book.ran ++ booked newer)
      ∙ ap (λ t. length (booked older) + t) (length-append book.ran (booked newer))

  -- an event raises what is used up, but for a period that is no longer busy
  Rises : Moment → Moment → Type 0
  Rises m after = 1 + 2 * busies after.books + 3 * acts m.books + opens m.books + 2 * length m.waiting ≤ 2 * busies m.books + 3 * acts after.books + opens after.books + 2 * length after.waiting

  module _ (m : Moment) (worker : ℕ) where
    module _ (o : Owns m worker) where
      was_open : is_open o.book ≡ 1
      unfolding is_open one_if_some
      was_open = ap one_if_some o.open_for_it

      cut : (f : Book → ℕ) → total f m.books ≡ total f o.older + (f o.book + total f o.newer)
      cut f = ap (total f) o.books_are ∙ total_append f o.older (o.book ∷ o.newer)

      cut_acts : acts m.books ≡ acts o.older + (length o.book.ran + acts o.newer)
      cut_acts = ap acts o.books_are ∙ acts_middle o.older o.newer o.book

      act_rises : (owner : Option ℕ) (place : ℕ) (deques : List Deque) → (owner ≡ Some worker) ⊎ (owner ≡ None) → Rises m (record { deques = deques; waiting = m.waiting; books = books_with o owner place })
      unfolding Rises opens busies is_busy is_open one_if_some busy_by
      act_rises owner place deques or_closed =
          let b : Book = book_of o.book owner (o.book.ran ++ place ∷ []) in
          let x = cut is_open in let y = cut is_busy in let z = cut_acts in let opened = was_open in
          let p = total_append is_open o.older (b ∷ o.newer) in let q = total_append is_busy o.older (b ∷ o.newer) in
          let r = acts_middle o.older o.newer b in let ran = length-append o.book.ran (place ∷ []) in
          elim or_closed [
            | inl same ↦
                let now : is_open b ≡ 1 = ap one_if_some same in let most : is_busy b ≤ 1 = busy_most owner (charged s.quota s.list (o.book.ran ++ place ∷ [])) in omega (arith, x, y, z, opened, p, q, r, ran, now, most)
            | inr none ↦
                let now : is_open b ≡ 0 = ap one_if_some none in let rest : is_busy b ≡ 0 = ap (λ t. busy_by t (charged s.quota s.list (o.book.ran ++ place ∷ []))) none in
                omega (arith, x, y, z, opened, p, q, r, ran, now, rest)
          ]

      wake_rises : (place : ℕ) (deques : List Deque) (before later : List Waiting) (parent : Waiting) → m.waiting ≡ before ++ parent ∷ later → deed_at s.list place ≡ ends
          → Rises m (record { deques = deques; waiting = before ++ later; books = books_with o (Some worker) place })
      unfolding Rises opens busies is_busy is_open one_if_some
      wake_rises place deques before later parent waiting_is deed =
          let b : Book = book_of o.book (Some worker) (o.book.ran ++ place ∷ []) in
          let x = cut is_open in let y = cut is_busy in let z = cut_acts in let opened = was_open in
          let p = total_append is_open o.older (b ∷ o.newer) in let q = total_append is_busy o.older (b ∷ o.newer) in
          let r = acts_middle o.older o.newer b in let ran = length-append o.book.ran (place ∷ []) in
          let free : charge_at s.quota s.list place ≡ 0 = ap (λ d. charge s.quota d (words_at s.list place)) deed in
          let sum = total_append (charge_at s.quota s.list) o.book.ran (place ∷ []) in
          let taken : charged s.quota s.list (o.book.ran ++ place ∷ []) ≡ charged s.quota s.list o.book.ran = omega (arith, free, sum) in
          let same : is_busy b ≡ is_busy o.book = ap (busy_by (Some worker)) taken ∙ ap (λ t. busy_by t (charged s.quota s.list o.book.ran)) (sym o.open_for_it) in
          let now : is_open b ≡ 1 = refl in
          let w : length m.waiting ≡ length before + suc (length later) = ap length waiting_is ∙ length-append before (parent ∷ later) in
          let v = length-append before later in
          omega (arith, x, y, z, opened, p, q, r, ran, same, now, w, v)

      suspend_rises : (deques : List Deque) (w : Waiting) → Rises m (record { deques = deques; waiting = w ∷ m.waiting; books = books_closed o })
      unfolding Rises opens busies is_busy is_open one_if_some busy_by
      suspend_rises deques w =
          let b : Book = book_of o.book None o.book.ran in
          let x = cut is_open in let y = cut is_busy in let z = cut_acts in let opened = was_open in
          let p = total_append is_open o.older (b ∷ o.newer) in let q = total_append is_busy o.older (b ∷ o.newer) in
          let r = acts_middle o.older o.newer b in
          let now : is_open b ≡ 0 = refl in let rest : is_busy b ≡ 0 = refl in omega (arith, x, y, z, opened, p, q, r, now, rest)

      give_up_rises : (deques : List Deque) → 0 < charged s.quota s.list o.book.ran → Rises m (record { deques = deques; waiting = m.waiting; books = books_closed o })
      unfolding Rises opens busies is_busy is_open one_if_some busy_by
      give_up_rises deques some =
          let b : Book = book_of o.book None o.book.ran in
          let x = cut is_open in let y = cut is_busy in let z = cut_acts in let opened = was_open in
          let p = total_append is_open o.older (b ∷ o.newer) in let q = total_append is_busy o.older (b ∷ o.newer) in
          let r = acts_middle o.older o.newer b in
          let busy : is_busy o.book ≡ 1 = busy_some o.book.owner worker (charged s.quota s.list o.book.ran) o.open_for_it some in
          let now : is_open b ≡ 0 = refl in let rest : is_busy b ≡ 0 = refl in omega (arith, x, y, z, opened, p, q, r, now, rest, busy)

    begin_rises : (deques : List Deque) (ahead : Bool) → Rises m (record { deques = deques; waiting = m.waiting; books = m.books ++ new_book worker ahead ∷ [] })
    unfolding Rises opens busies acts is_busy is_open one_if_some busy_by
    begin_rises deques ahead =
        let new : Book = new_book worker ahead in
        let p = total_append is_open m.books (new ∷ []) in let q = total_append is_busy m.books (new ∷ []) in
        let r : length (booked (m.books ++ new ∷ [])) ≡ length (booked m.books) = ap length (begun_same m.books new refl) in
        let now : is_open new ≡ 1 = refl in let rest : is_busy new ≡ 0 = refl in omega (arith, p, q, r, now, rest)

    -- the one open period of a worker
    pub one_book : (older newer older' newer' : List Book) (b c : Book) → older ++ b ∷ newer ≡ older' ++ c ∷ newer' → b.owner ≡ Some worker → c.owner ≡ Some worker
        → open_for worker (older ++ b ∷ newer) ≤ 1 → b ≡ c
    one_book [] newer [] newer' b c same bo co few = same_head b c newer newer' same
    one_book [] newer (y ∷ older') newer' b c same bo co few =
        let rest : newer ≡ older' ++ c ∷ newer' = same_tail b y newer (older' ++ c ∷ newer') same in
        let one : one_if_open worker b ≡ one_if_same worker worker = ap (one_if_worker worker) bo in
        let two : one_if_open worker c ≡ one_if_same worker worker = ap (one_if_worker worker) co in
        let own = one_same worker worker refl in
        let there : open_for worker newer ≡ open_for worker (older' ++ c ∷ newer') = ap (open_for worker) rest in
        let sum = total_append (one_if_open worker) older' (c ∷ newer') in absurd (omega (arith, one, two, own, there, sum, few))
    one_book (x ∷ older) newer [] newer' b c same bo co few =
        let here : x ≡ c = same_head x c (older ++ b ∷ newer) newer' same in
        let one : one_if_open worker b ≡ one_if_same worker worker = ap (one_if_worker worker) bo in
        let two : one_if_open worker x ≡ one_if_same worker worker = ap (one_if_open worker) here ∙ ap (one_if_worker worker) co in
        let own = one_same worker worker refl in
        let sum = total_append (one_if_open worker) older (b ∷ newer) in absurd (omega (arith, one, two, own, sum, few))
    one_book (x ∷ older) newer (y ∷ older') newer' b c same bo co few =
        one_book older newer older' newer' b c (same_tail x y (older ++ b ∷ newer) (older' ++ c ∷ newer') same) bo co (omega arith)

  -- what one action takes is covered by the quota
  charge_fits : record_words ≤ s.quota → (deed : Deed) (words : ℕ) → charge s.quota deed words ≤ s.quota
  charge_fits fork (forks child) words = fork
  charge_fits fork (joins child) words = omega arith
  charge_fits fork allocates words = by_test (nat_le words s.quota) refl
    where
      by_test : (b : Bool) → nat_le words s.quota ≡ b → cond b words 0 ≤ s.quota
      by_test true is = leb-true words s.quota is
      by_test false is = omega arith
  charge_fits fork releases words = omega arith
  charge_fits fork dummy words = omega arith
  charge_fits fork faults words = omega arith
  charge_fits fork ends words = omega arith

  forced_is_busy : record_words ≤ s.quota → (m : Moment) → IsLawful s m → (worker : ℕ) (o : Owns m worker) → IsForced s m worker → 0 < charged s.quota s.list o.book.ran
  forced_is_busy fork m lawful worker o forced =
      let f : Owns m worker = forced.owner in
      let each = (lawful.periods).one_each worker in let most = (lawful.order).owns_one worker in
      let cut : open_for worker m.books ≡ open_for worker (o.older ++ o.book ∷ o.newer) = ap (open_for worker) o.books_are in
      let same : o.book ≡ f.book = one_book m worker o.older o.newer f.older f.newer o.book f.book (sym o.books_are ∙ f.books_are) o.open_for_it f.open_for_it (omega (arith, each, most, cut)) in
      let alike : charged s.quota s.list o.book.ran ≡ charged s.quota s.list f.book.ran = ap (λ b. charged s.quota s.list b.ran) same in
      let full = forced.no_room in
      let fits : charge_at s.quota s.list forced.place ≤ s.quota = charge_fits fork (deed_at s.list forced.place) (words_at s.list forced.place) in omega (arith, alike, full, fits)

  event_rises : record_words ≤ s.quota → (m : Moment) → IsLawful s m → (worker : ℕ) (event : Event) (after : Moment) → May s m worker event after → (event ≡ gives_up → IsForced s m worker)
      → Rises m after
  event_rises fork m lawful worker event after (steals_beside left right victim first others bottom id idle reach deques_are threads_are new_id) forced = begin_rises m worker after.deques true
  event_rises fork m lawful worker event after (takes_over left right thread id idle reach deques_are) forced = begin_rises m worker after.deques (nat_lt 0 (length left))
  event_rises fork m lawful worker event after (forks_child o place child at fits) forced = act_rises m worker o (Some worker) place after.deques (inl refl)
  event_rises fork m lawful worker event after (joins_child o place child at has) forced = act_rises m worker o (Some worker) place after.deques (inl refl)
  event_rises fork m lawful worker event after (allocates_within o place at small fits) forced = act_rises m worker o (Some worker) place after.deques (inl refl)
  event_rises fork m lawful worker event after (allocates_above o place at large) forced = act_rises m worker o (Some worker) place after.deques (inl refl)
  event_rises fork m lawful worker event after (releases_words o place at) forced = act_rises m worker o (Some worker) place after.deques (inl refl)
  event_rises fork m lawful worker event after (meets_fault o place at) forced = act_rises m worker o (Some worker) place after.deques (inl refl)
  event_rises fork m lawful worker event after (runs_dummy o place at) forced = act_rises m worker o None place after.deques (inr refl)
  event_rises fork m lawful worker event after (ends_above_parent o place child parent below at under_is top_is) forced = act_rises m worker o (Some worker) place after.deques (inl refl)
  event_rises fork m lawful worker event after (ends_and_wakes o place before later parent at under_is waiting_is top_is) forced = wake_rises m worker o place after.deques before later parent waiting_is at.deed_is
  event_rises fork m lawful worker event after (ends_and_leaves o place at under_is unwaited) forced = act_rises m worker o None place after.deques (inr refl)
  event_rises fork m lawful worker event after (suspends_top o place child at not_ended under_is) forced = suspend_rises m worker o after.deques (record { thread = o.top; child = child })
  event_rises fork m lawful worker event after (gives_deque_up o) forced = give_up_rises m worker o after.deques (forced_is_busy fork m lawful worker o (forced refl))

  module _ (fork : record_words ≤ s.quota) (list : IsDepthFirst s.quota s.list) where
    rises_along : (run : List Pair) (first last : Moment) (reaches : Reaches s first run last) → IsLawful s first → NoneFree s first run last reaches
        → length run + 2 * busies last.books + 3 * acts first.books + opens first.books + 2 * length first.waiting
        ≤ 2 * busies first.books + 3 * acts last.books + opens last.books + 2 * length last.waiting
    unfolding Rises
    rises_along [] first last reaches lawful free =
        let a : busies first.books ≡ busies last.books = ap (λ m. busies m.books) reaches in let b : acts first.books ≡ acts last.books = ap (λ m. acts m.books) reaches in
        let c : opens first.books ≡ opens last.books = ap (λ m. opens m.books) reaches in let d : length first.waiting ≡ length last.waiting = ap (λ m. length m.waiting) reaches in
        omega (arith, a, b, c, d)
    rises_along (pair ∷ later) first last reaches lawful free =
        let here = event_rises fork first lawful pair.worker pair.event reaches.0 reaches.1 free.0 in
        let rest = rises_along later reaches.0 last reaches.2 (kept s list first lawful pair.worker pair.event reaches.0 reaches.1) free.1 in
        omega (arith, here, rest)

  -- the next places of those who wait
  places_waited : (done : ℕ → ℕ) (ws : List Waiting) → Each (Waits s.list done) ws → List ℕ
  places_waited done [] all = []
  places_waited done (w ∷ ws) all = (all.0).place ∷ places_waited done ws all.1

  as_many : (done : ℕ → ℕ) (ws : List Waiting) (all : Each (Waits s.list done) ws) → length (places_waited done ws all) ≡ length ws
  unfolding places_waited
  as_many done [] all = refl
  as_many done (w ∷ ws) all = ap suc (as_many done ws all.1)

  waited_by : (done : ℕ → ℕ) (ws : List Waiting) (all : Each (Waits s.list done) ws) (i : ℕ) → Among i (places_waited done ws all) → Among (label_at s.list i) (waiting_threads ws) × (done i ≡ 0) × (i < length s.list)
  unfolding places_waited
  waited_by done [] all i there = absurd there
  waited_by done (w ∷ ws) all i there = elim there [
    | inl same ↦ (inl (ap (λ t. label_at s.list t) same ∙ ((all.0).next).by), ap done same ∙ ((all.0).next).missing, subst (λ t. t < length s.list) (sym same) ((all.0).next).inside)
    | inr later ↦ let rest = waited_by done ws all.1 i later in (inr rest.0, rest.1, rest.2)
  ]

  waited_once : (done : ℕ → ℕ) (ws : List Waiting) (all : Each (Waits s.list done) ws) → Differ (waiting_threads ws) → (i : ℕ) → times i (places_waited done ws all) ≤ 1
  unfolding places_waited
  waited_once done [] all apart i = omega arith
  waited_once done (w ∷ ws) all apart i =
      let rest = waited_once done ws all.1 apart.1 i in
      elim (one_cases i (all.0).place) [
        | inr other ↦ let none = other.1 in omega (arith, rest, none)
        | inl here ↦ let one = here.1 in elim (cases_lt 0 (times i (places_waited done ws all.1))) [
          | inr none ↦ omega (arith, one, none)
          | inl some ↦ absurd (apart.0 (subst (λ t. Among t (waiting_threads ws)) (ap (λ t. label_at s.list t) here.0 ∙ ((all.0).next).by)
              (waited_by done ws all.1 i (among_times i (places_waited done ws all.1) some)).0))
        ]
      ]

  -- what is done and what is waited for are different places of the list
  done_and_waited : (m : Moment) → IsLawful s m → acts m.books + length m.waiting ≤ length s.list
  unfolding acts
  done_and_waited m lawful =
      let ws : List ℕ = places_waited (done_at m) m.waiting (lawful.order).waits in
      let xs : List ℕ = booked m.books ++ places_waited (done_at m) m.waiting (lawful.order).waits in
      let books : LawfulBooks s.quota s.list m.books = (lawful.periods).lawful in
      let once : (i : ℕ) → times i xs ≤ 1 = λ i.
      let sum = times_append i (booked m.books) ws in let a = books.different i in
      let b = waited_once (done_at m) m.waiting (lawful.order).waits (lawful.order).wait_once i in
      elim (cases_lt 0 (times i ws)) [
        | inr none ↦ omega (arith, sum, a, none)
        | inl some ↦ let missing = (waited_by (done_at m) m.waiting (lawful.order).waits i (among_times i ws some)).1 in omega (arith, sum, b, missing)
      ] in
      let inside : Each (λ i. i < length s.list) xs = each_join (λ i. i < length s.list) (booked m.books) ws
      (each_from (λ i. i < length s.list) (booked m.books) (λ i there. books.of_the_list i (times_among i (booked m.books) there)))
      (each_from (λ i. i < length s.list) ws (λ i there. (waited_by (done_at m) m.waiting (lawful.order).waits i there).2)) in
      let few = few_places xs (length s.list) once inside in
      let sum = length-append (booked m.books) ws in
      let same = as_many (done_at m) m.waiting (lawful.order).waits in omega (arith, few, sum, same)

  -- the Forks of the children that are waited for
  module _ (list : IsDepthFirst s.quota s.list) (done : ℕ → ℕ) (closed : IsDone s.list done) where
    fork_waited : (w : Waiting) → Waits s.list done w → (f : ℕ) × (f < length s.list) × (label_at s.list f ≡ w.thread) × (deed_at s.list f ≡ forks w.child) × (0 < done f)
    fork_waited w waits = fork_is_done s.quota s.list list done closed (fork_of w.thread w.child) w.thread [] w.child waits.child_live refl

    forks_waited : (ws : List Waiting) → Each (Waits s.list done) ws → List ℕ
    forks_waited [] all = []
    forks_waited (w ∷ ws) all = (fork_waited w all.0).0 ∷ forks_waited ws all.1

    as_many_forks : (ws : List Waiting) (all : Each (Waits s.list done) ws) → length (forks_waited ws all) ≡ length ws
    unfolding forks_waited
    as_many_forks [] all = refl
    as_many_forks (w ∷ ws) all = ap suc (as_many_forks ws all.1)

    forks_are_done : (ws : List Waiting) (all : Each (Waits s.list done) ws) → Each (λ i. 0 < done i) (forks_waited ws all)
    unfolding forks_waited
    forks_are_done [] all = tt
    forks_are_done (w ∷ ws) all = ((fork_waited w all.0).4, forks_are_done ws all.1)

    forked_by : (ws : List Waiting) (all : Each (Waits s.list done) ws) (i : ℕ) → Among i (forks_waited ws all) → Among (label_at s.list i) (waiting_threads ws)
    unfolding forks_waited
    forked_by [] all i there = absurd there
    forked_by (w ∷ ws) all i there = elim there [
      | inl same ↦ inl (ap (λ t. label_at s.list t) same ∙ (fork_waited w all.0).2)
      | inr later ↦ inr (forked_by ws all.1 i later)
    ]

    forks_differ : (ws : List Waiting) (all : Each (Waits s.list done) ws) → Differ (waiting_threads ws) → Differ (forks_waited ws all)
    unfolding forks_waited
    forks_differ [] all apart = tt
    forks_differ (w ∷ ws) all apart = (
      λ there. apart.0 (subst (λ t. Among t (waiting_threads ws)) (fork_waited w all.0).2 (forked_by ws all.1 (fork_waited w all.0).0 there)),
      forks_differ ws all.1 apart.1,
    )

  -- so at most as many threads wait as actions are done
  few_wait : IsDepthFirst s.quota s.list → (m : Moment) → IsLawful s m → length m.waiting ≤ acts m.books
  unfolding acts
  few_wait list m lawful =
      let books : LawfulBooks s.quota s.list m.books = (lawful.periods).lawful in
      let waits : Each (Waits s.list (done_at m)) m.waiting = (lawful.order).waits in
      let same = as_many_forks list (done_at m) books.first_actions m.waiting waits in
      let few = few_among (forks_waited list (done_at m) books.first_actions m.waiting waits) (booked m.books)
      (forks_differ list (done_at m) books.first_actions m.waiting waits (lawful.order).wait_once)
      (each_map (λ i. 0 < done_at m i) (λ i. Among i (booked m.books)) (forks_waited list (done_at m) books.first_actions m.waiting waits)
      (λ i there did. among_times i (booked m.books) did) (forks_are_done list (done_at m) books.first_actions m.waiting waits)) in
      omega (arith, same, few)

  -- there are at most as many open periods as workers
  few_open : (m : Moment) → IsLawful s m → opens m.books ≤ s.workers
  unfolding opens
  few_open m lawful =
      let same = owners_open m.books in
      let few = few_places (owners m.books) s.workers
      (λ w. let t = owners_times w m.books in let each = (lawful.periods).one_each w in let most = (lawful.order).owns_one w in omega (arith, t, each, most))
      (each_from (λ w. w < s.workers) (owners m.books) (λ w there. lawful.owners_below w
      (let t = owners_times w m.books in let each = (lawful.periods).one_each w in let some = times_among w (owners m.books) there in omega (arith, t, each, some)))) in
      omega (arith, same, few)

  module _ (fork : record_words ≤ s.quota) (list : IsDepthFirst s.quota s.list) where
    events_at_most : (run : List Pair) (m : Moment) (reaches : Reaches s opening run m) → NoneFree s opening run m reaches → length run ≤ 3 * length s.list + s.workers
    unfolding opens busies acts
    events_at_most run m reaches free =
        let lawful : IsLawful s m = lawful_along s list run opening m (opening_is_lawful s list) reaches in
        let rises = rises_along fork list run opening m reaches (opening_is_lawful s list) free in
        let few = done_and_waited m lawful in
        let open_ones = few_open m lawful in
        omega (arith, rises, few, open_ones)

module _ (s : Setting) where
  -- so at most as many are busy as are open
  few_busy : (books : List Book) → busies s books ≤ opens s books
  unfolding busies opens is_busy is_open
  few_busy [] = omega arith
  few_busy (book ∷ books) =
      let here = busy_within book.owner (charged s.quota s.list book.ran) in let rest = few_busy books in omega (arith, here, rest)

  events_by_done : (fork : record_words ≤ s.quota) (list : IsDepthFirst s.quota s.list) (run : List Pair) (first last : Moment) (reaches : Reaches s first run last)
      → IsLawful s first → NoneFree s first run last reaches → length run ≤ 5 * length (booked last.books) + 2 * s.workers
  unfolding acts
  events_by_done fork list run first last reaches lawful free =
      let later : IsLawful s last = lawful_along s list run first last lawful reaches in
      let rises = rises_along s fork list run first last reaches lawful free in
      let few = few_wait s list last later in
      let open_ones = few_open s last later in
      let opened = few_open s first lawful in
      let busy = few_busy first.books in
      omega (arith, rises, few, open_ones, opened, busy)

pub runs_are_short : (s : Setting) → 0 < s.quota → IsDepthFirst s.quota s.list → RunsAreShort s
runs_are_short s some list fork first last run reaches lawful free = events_by_done s fork list run first last reaches lawful free

pub runs_end : (s : Setting) → 0 < s.quota → IsDepthFirst s.quota s.list → RunsEnd s
runs_end s some list fork run m reaches free = events_at_most s fork list run m reaches free
