-- Each case of the machine keeps begun ahead.
use Rattle.std.proofs.Common.{◌≡◌, ◌≢◌, ℕ, ◌≤◌, ◌<◌, ◌⊎◌, List, [], ◌∷◌, ◌++◌, length, inl, inr, refl, sym, ap, subst, ◌∙◌, arith, nat_lt, nat_le, Bool, true, false, ◌||◌, true≢false}
use Rattle.std.specs.Prelude.{Option, None, Some, is_some}
use Rattle.std.proofs.lemmas.Bool.{cases_lt, cases_eq, cases_Bool, leb-true, leb-false, lt-ltb}
use Rattle.dag_order.specs.LabelOrder.{fork_of, Before}
use Rattle.depth_first_run.specs.Passed.Actions.{Action}
use Rattle.depth_first_run.specs.Passed.Runs.{IsDepthFirst}
use Rattle.depth_first_run.specs.Passed.Facts.{label_at, deed_at, IsDone, IsLive, IsNext}
use Rattle.depth_first_run.proofs.Passed.OrderLaw.{labels_follow_the_list, first_missing_is_next}
use Rattle.depth_first_run.proofs.Passed.JoinLaws.{join_stands_behind_child}
use Rattle.deque_machine.specs.Lists.{Among, Each, one_if_same, times}
use Rattle.deque_machine.specs.Books.{Book, booked, done_in, IsPrefix, goes_past, is_ahead, book_of}
use Rattle.deque_machine.specs.Lawful.{LawfulBooks}
use Rattle.deque_machine.proofs.Lists.{each_map, each_from, each_among, each_at, each_join, each_left, each_right, each_change, among_left, among_right, among_parts, total_append, one_same, times_among}
use Rattle.deque_machine.proofs.Keeping.{prefix_of, done_more, closed_same, begun_same}
use Rattle.deque_machine.specs.Moments.{Deque, Waiting, Moment, threads_in, waiting_threads, done_at, owned_by, one_if_owned, one_if_worker, Rises}
use Rattle.deque_machine.specs.Machine.{Setting, Event, Owns, deques_with, books_with, books_closed, new_book, May, steals_beside, takes_over, forks_child, joins_child, allocates_within, allocates_above, releases_words, meets_fault, runs_dummy, ends_above_parent, ends_and_wakes, ends_and_leaves, suspends_top, gives_deque_up}
use Rattle.deque_machine.specs.LawfulOrder.{OrderOf, LawfulOrder, LawfulPeriods, OwnsFirst, BegunAhead, Waits}
use Rattle.deque_machine.proofs.Order.{deque_of}
use Rattle.deque_machine.proofs.Shapes.{threads_append}
use Rattle.deque_machine.proofs.LiveThreads.{one_next}
use Rattle.deque_machine.proofs.OneAction.{still_done}
use Rattle.deque_machine.proofs.KeptPeriods.{apart_books}

none_is_not_some : (w : ℕ) → ¬ (None ≡ Some w)
none_is_not_some w is = true≢false (sym (ap is_some is))

-- an unmarked period ran only what has nothing missing before it
abbrev pub NoGap : (ℕ → ℕ) → List ℕ → Type 0
NoGap done ran = (i : ℕ) → Among i ran → (j : ℕ) → j < i → 0 < done j

abbrev pub Unmarked : (ℕ → ℕ) → Book → Type 0
Unmarked done book = book.ahead ≡ false → NoGap done book.ran

past_all : (n : ℕ) (xs : List ℕ) → goes_past n xs ≡ false → (i : ℕ) → Among i xs → i < n
past_all n [] is i there = absurd there
past_all n (x ∷ xs) is i there = by_first (nat_le n x) refl is (past_all n xs)
  where
    by_first : (a : Bool) → nat_le n x ≡ a → (a || goes_past n xs) ≡ false → (goes_past n xs ≡ false → (i : ℕ) → Among i xs → i < n) → i < n
    by_first true a_is is later = absurd (true≢false is)
    by_first false a_is is later = elim there [ inl same ↦ let lt = leb-false n x a_is in omega arith | inr more ↦ later is i more ]

past_some : (n : ℕ) (xs : List ℕ) → goes_past n xs ≡ true → (i : ℕ) × Among i xs × (n ≤ i)
past_some n [] is = absurd (true≢false (sym is))
past_some n (x ∷ xs) is = by_first (nat_le n x) refl is (past_some n xs)
  where
    by_first : (a : Bool) → nat_le n x ≡ a → (a || goes_past n xs) ≡ true → (goes_past n xs ≡ true → (i : ℕ) × Among i xs × (n ≤ i)) → (i : ℕ) × Among i (x ∷ xs) × (n ≤ i)
    by_first true a_is is later = (x, inl refl, leb-true n x a_is)
    by_first false a_is is later = let m = later is in (m.0, inr m.1, m.2)

-- that the periods ahead are marked says the same
pub gaps_of : (l : List Action) (books : List Book)
    → ((n : ℕ) → IsPrefix l (done_in books) n → Each (λ book. is_ahead n book ≡ true → book.ahead ≡ true) books) → Each (Unmarked (done_in books)) books
gaps_of l books marked =
    let n = prefix_of l (done_in books) in
    each_map (λ book. is_ahead n.0 book ≡ true → book.ahead ≡ true) (Unmarked (done_in books)) books
    (λ book among ahead unmarked i there j lt. elim (cases_Bool (goes_past n.0 book.ran)) [
      | inl past ↦ absurd (true≢false (sym (ahead past) ∙ unmarked))
      | inr none ↦ let below : i < n.0 = past_all n.0 book.ran none i there in (n.1).all_done j (omega arith)
    ]) (marked n.0 n.1)

pub among_booked : (i : ℕ) (book : Book) (books : List Book) → Among book books → Among i book.ran → Among i (booked books)
among_booked i book [] there inside = absurd there
among_booked i book (b ∷ books) there inside = elim there [
  | inl same ↦ among_left i b.ran (booked books) (subst (λ t. Among i t.ran) same inside)
  | inr later ↦ among_right i b.ran (booked books) (among_booked i book books later inside)
]

pub marked_of : (k : ℕ) (l : List Action) (books : List Book) → LawfulBooks k l books → Each (Unmarked (done_in books)) books
    → (n : ℕ) → IsPrefix l (done_in books) n → Each (λ book. is_ahead n book ≡ true → book.ahead ≡ true) books
marked_of k l books lawful gaps n prefix =
    each_map (Unmarked (done_in books)) (λ book. is_ahead n book ≡ true → book.ahead ≡ true) books
    (λ book among no_gap past. elim (cases_Bool book.ahead) [
      | inl marked ↦ marked
      | inr unmarked ↦
          let some = past_some n book.ran past in
          let did : 0 < done_in books some.0 = times_among some.0 (booked books) (among_booked some.0 book books among some.1) in
          let inside = lawful.of_the_list some.0 did in
          let from : n ≤ some.0 = some.2 in
          let missing = prefix.next_missing (omega arith) in
          elim (cases_eq n some.0) [
            | inl same ↦ let alike : done_in books n ≡ done_in books some.0 = ap (done_in books) same in absurd (omega arith)
            | inr apart ↦ let there = no_gap unmarked some.0 some.1 n (omega arith) in absurd (omega arith)
          ]
    ]) gaps

-- the thread of the first that is missing does not wait
waits_not : (k : ℕ) (l : List Action) → IsDepthFirst k l → (done : ℕ → ℕ) → IsDone l done → (n : ℕ) → IsPrefix l done n → (u : List ℕ) → IsNext l done u n
    → (ws : List Waiting) → Each (Waits l done) ws → Among u (waiting_threads ws) → ⊥
waits_not k l run done closed n prefix u next [] all there = there
waits_not k l run done closed n prefix u next (w ∷ ws) all there = elim there [
  | inr later ↦ waits_not k l run done closed n prefix u next ws all.1 later
  | inl same ↦
      let own : Waits l done w = all.0 in
      let here : n ≡ own.place = one_next k l run done closed w.thread n own.place (subst (λ t. IsNext l done t n) same next) own.next in
      let h = join_stands_behind_child k l run n w.child next.inside (ap (λ t. deed_at l t) here ∙ own.joins_it) in
      let e_before : h.1 < n = h.3 in let n_in = next.inside in
      let did = prefix.all_done h.1 e_before in
      let none = (own.child_live).goes_on h.1 (omega arith) (h.6 ∙ ap (λ t. fork_of t w.child) (next.by ∙ same)) h.7 in absurd (omega arith)
]

-- what comes next of the first thread is the first that is missing
pub first_is_missing : (k : ℕ) (l : List Action) → IsDepthFirst k l → (done : ℕ → ℕ) → IsDone l done → (deques : List Deque) (waiting : List Waiting) → OrderOf l done deques waiting
    → (top : List ℕ) (rest : List (List ℕ)) → threads_in deques ≡ top ∷ rest → (place : ℕ) → IsNext l done top place → (j : ℕ) → j < place → 0 < done j
first_is_missing k l run done closed deques waiting order top rest is place next j lt =
    let p = prefix_of l done in let n : ℕ = p.0 in let prefix : IsPrefix l done n = p.1 in
    let place_in = next.inside in
    elim (cases_lt place n) [
      | inl below ↦ prefix.all_done j (omega arith)
      | inr not_below ↦
          let missing = prefix.next_missing (omega arith) in
          let first = first_missing_is_next k l run done closed n (omega arith) missing prefix.all_done in
          let u : List ℕ = label_at l n in
          elim (order.all_placed u first.0) [
            | inr waits ↦ absurd (waits_not k l run done closed n prefix u first.1 waiting order.waits waits)
            | inl there ↦ elim (subst (λ t. Among u t) is there) [
              | inl same ↦
                  let here : n ≡ place = one_next k l run done closed top n place (subst (λ t. IsNext l done t n) same first.1) next in
                  prefix.all_done j (omega arith)
              | inr later ↦
                  let rises = subst Rises is order.rises in
                  let before : Before top u = each_among (Before top) u rest rises.0 later in
                  let top_live : IsLive l done top = (subst (λ t. Each (IsLive l done) t) is order.all_live).0 in
                  let ahead : place < n = labels_follow_the_list k l run done closed top u place n top_live first.0 next first.1 before in absurd (omega arith)
            ]
          ]
    ]

-- while something is missing, there is a deque
pub never_empty : (k : ℕ) (l : List Action) → IsDepthFirst k l → (done : ℕ → ℕ) → IsDone l done → (deques : List Deque) (waiting : List Waiting) → OrderOf l done deques waiting
    → deques ≡ [] → (i : ℕ) → i < length l → done i ≡ 0 → ⊥
never_empty k l run done closed deques waiting order is i inside none =
    let p = prefix_of l done in let n : ℕ = p.0 in let prefix : IsPrefix l done n = p.1 in
    let short : n ≤ i = elim (cases_lt i n) [ inl past ↦ let did = prefix.all_done i past in absurd (omega arith) | inr le ↦ le ] in
    let missing = prefix.next_missing (omega arith) in
    let first = first_missing_is_next k l run done closed n (omega arith) missing prefix.all_done in
    elim (order.all_placed (label_at l n) first.0) [
      | inl there ↦ absurd (subst (λ t. Among (label_at l n) (threads_in t)) is there)
      | inr waits ↦ waits_not k l run done closed n prefix (label_at l n) first.1 waiting order.waits waits
    ]

-- the owner of the first deque, where the worker's deque is cut out
first_of_cut : (left right : List Deque) (d : Deque) (w : ℕ) → OwnsFirst w (left ++ d ∷ right) → ((left ≡ []) × (d.owner ≡ Some w)) ⊎ ((e : Deque) × (rest : List Deque) × (left ≡ e ∷ rest) × (e.owner ≡ Some w))
first_of_cut [] right d w first = inl (refl, first)
first_of_cut (e ∷ rest) right d w first = inr (e, rest, refl, first)

-- another deque in the place of one
first_with : (left right others : List Deque) (d : Deque) (w : ℕ) → OwnsFirst w (left ++ d ∷ right) → (d.owner ≢ Some w) ⊎ ((e : Deque) × (rest : List Deque) × (others ≡ e ∷ rest) × (e.owner ≡ d.owner))
    → OwnsFirst w (left ++ others)
first_with [] right others d w first keeps = elim keeps [
  | inl other ↦ absurd (other first)
  | inr e ↦ subst (OwnsFirst w) (sym e.2) (e.3 ∙ first)
]
first_with (x ∷ left) right others d w first keeps = first

module _ (s : Setting) (run : IsDepthFirst s.quota s.list) (m : Moment) (order : LawfulOrder s.list m) (periods : LawfulPeriods s.quota s.list m) (begun : BegunAhead s.list m) where
  gaps : Each (Unmarked (done_at m)) m.books
  gaps = gaps_of s.list m.books begun.ahead_marked

  module _ (worker : ℕ) (o : Owns m worker) where
    own : Deque
    own = deque_of o.id (Some worker) (o.top ∷ o.under)

    -- where the worker's period is not marked, what comes next of its top thread has nothing missing before it
    no_gap_next : (place : ℕ) → IsNext s.list (done_at m) o.top place → o.book.ahead ≡ false → (j : ℕ) → j < place → 0 < done_at m j
    no_gap_next place next unmarked j lt =
        let cut : Each (λ book. book.owner ≡ Some worker → book.ahead ≡ false → OwnsFirst worker m.deques) (o.older ++ o.book ∷ o.newer) =
        subst (λ t. Each (λ book. book.owner ≡ Some worker → book.ahead ≡ false → OwnsFirst worker m.deques) t) o.books_are (begun.unmarked_first worker) in
        let first : OwnsFirst worker (o.left ++ deque_of o.id (Some worker) (o.top ∷ o.under) ∷ o.right) = subst (OwnsFirst worker) o.deques_are
        (each_at (λ book. book.owner ≡ Some worker → book.ahead ≡ false → OwnsFirst worker m.deques) o.older o.book o.newer cut o.open_for_it unmarked) in
        elim (first_of_cut o.left o.right (deque_of o.id (Some worker) (o.top ∷ o.under)) worker first) [
          | inr other ↦ absurd (twice other.0 other.1 other.2 other.3)
          | inl here ↦
              first_is_missing s.quota s.list run (done_at m) (periods.lawful).first_actions m.deques m.waiting order o.top (o.under ++ threads_in o.right)
              (ap threads_in o.deques_are ∙ threads_append o.left (deque_of o.id (Some worker) (o.top ∷ o.under) ∷ o.right)
              ∙ ap (λ t. threads_in t ++ (o.top ∷ (o.under ++ threads_in o.right))) here.0) place next j lt
        ]
      where
        twice : (e : Deque) (rest : List Deque) → o.left ≡ e ∷ rest → e.owner ≡ Some worker → ⊥
        twice e rest is owner =
            let most = order.owns_one worker in
            let cut : owned_by worker m.deques ≡ owned_by worker (o.left ++ deque_of o.id (Some worker) (o.top ∷ o.under) ∷ o.right) = ap (owned_by worker) o.deques_are in
            let a = total_append (one_if_owned worker) o.left (deque_of o.id (Some worker) (o.top ∷ o.under) ∷ o.right) in
            let b : owned_by worker o.left ≡ owned_by worker (e ∷ rest) = ap (owned_by worker) is in
            let c : one_if_owned worker e ≡ one_if_same worker worker = ap (one_if_worker worker) owner in
            let one = one_same worker worker refl in omega (arith, most, cut, a, b, c, one)

    -- the unmarked periods behind an action
    pub gaps_run : (place : ℕ) (after : Option ℕ) → IsNext s.list (done_at m) o.top place → Each (Unmarked (done_in (books_with o after place))) (books_with o after place)
    gaps_run place after next =
        let done : ℕ → ℕ = done_in (o.older ++ o.book ∷ o.newer) in
        let later : ℕ → ℕ = done_in (books_with o after place) in
        let up : (j : ℕ) → 0 < done_at m j → 0 < done_in (books_with o after place) j = λ j did.
        still_done s.list done later place (λ i. done_more o.older o.newer o.book after place i) j (subst (λ t. 0 < done_in t j) o.books_are did) in
        let cut : Each (Unmarked (done_at m)) (o.older ++ o.book ∷ o.newer) = subst (λ t. Each (Unmarked (done_at m)) t) o.books_are gaps in
        let kept : Each (Unmarked later) (o.older ++ o.book ∷ o.newer) = each_map (Unmarked (done_at m)) (Unmarked later) (o.older ++ o.book ∷ o.newer)
        (λ book among old unmarked i there j lt. up j (old unmarked i there j lt)) cut in
        each_change (Unmarked later) o.older o.book (book_of o.book after (o.book.ran ++ place ∷ [])) o.newer kept
        (λ unmarked i there j lt. elim (among_parts i o.book.ran (place ∷ []) there) [
          | inl old ↦ each_at (Unmarked later) o.older o.book o.newer kept unmarked i old j lt
          | inr new ↦ elim new [ inl same ↦ up j (no_gap_next place next unmarked j (omega arith)) | inr none ↦ absurd none ]
        ])

    pub gaps_closed : Each (Unmarked (done_in (books_closed o))) (books_closed o)
    gaps_closed =
        let same : booked (o.older ++ o.book ∷ o.newer) ≡ booked (books_closed o) = sym (closed_same o.older o.newer o.book None) in
        let cut : Each (Unmarked (done_in (o.older ++ o.book ∷ o.newer))) (o.older ++ o.book ∷ o.newer) =
        subst (λ t. Each (Unmarked (done_in t)) t) o.books_are gaps in
        let kept : Each (Unmarked (done_in (books_closed o))) (o.older ++ o.book ∷ o.newer) = subst (λ t. Each (Unmarked (λ i. times i t)) (o.older ++ o.book ∷ o.newer)) same cut in
        each_change (Unmarked (done_in (books_closed o))) o.older o.book (book_of o.book None o.book.ran) o.newer kept (each_at (Unmarked (done_in (books_closed o))) o.older o.book o.newer kept)

    -- who has an unmarked period
    first_cut : (w : ℕ) → Each (λ book. book.owner ≡ Some w → book.ahead ≡ false → OwnsFirst w (o.left ++ deque_of o.id (Some worker) (o.top ∷ o.under) ∷ o.right)) (o.older ++ o.book ∷ o.newer)
    first_cut w = subst (λ t. Each (λ book. book.owner ≡ Some w → book.ahead ≡ false → OwnsFirst w (o.left ++ deque_of o.id (Some worker) (o.top ∷ o.under) ∷ o.right)) t) o.books_are
        (subst (λ t. Each (λ book. book.owner ≡ Some w → book.ahead ≡ false → OwnsFirst w t) m.books) o.deques_are (begun.unmarked_first w))

    pub first_stays : (threads : List (List ℕ)) (ran : List ℕ) (w : ℕ)
        → Each (λ book. book.owner ≡ Some w → book.ahead ≡ false → OwnsFirst w (deques_with o (Some worker) threads)) (o.older ++ book_of o.book (Some worker) ran ∷ o.newer)
    first_stays threads ran w =
        let ds : List Deque = o.left ++ deque_of o.id (Some worker) (o.top ∷ o.under) ∷ o.right in
        let F : Book → Type 0 = λ book. book.owner ≡ Some w → book.ahead ≡ false → OwnsFirst w ds in
        let G : Book → Type 0 = λ book. book.owner ≡ Some w → book.ahead ≡ false → OwnsFirst w (deques_with o (Some worker) threads) in
        let up : OwnsFirst w ds → OwnsFirst w (deques_with o (Some worker) threads) = λ first.
        first_with o.left o.right (deque_of o.id (Some worker) threads ∷ o.right) (deque_of o.id (Some worker) (o.top ∷ o.under)) w first
        (inr (deque_of o.id (Some worker) threads, o.right, refl, refl)) in
        let kept : Each G (o.older ++ o.book ∷ o.newer) = each_map F G (o.older ++ o.book ∷ o.newer) (λ book among old is unmarked. up (old is unmarked)) (first_cut w) in
        each_change G o.older o.book (book_of o.book (Some worker) ran) o.newer kept
        (λ is unmarked. each_at G o.older o.book o.newer kept (o.open_for_it ∙ is) unmarked)

    pub first_closed : (others : List Deque) (ran : List ℕ) (w : ℕ)
        → Each (λ book. book.owner ≡ Some w → book.ahead ≡ false → OwnsFirst w (o.left ++ others)) (o.older ++ book_of o.book None ran ∷ o.newer)
    first_closed others ran w =
        let ds : List Deque = o.left ++ deque_of o.id (Some worker) (o.top ∷ o.under) ∷ o.right in
        let F : Book → Type 0 = λ book. book.owner ≡ Some w → book.ahead ≡ false → OwnsFirst w ds in
        let G : Book → Type 0 = λ book. book.owner ≡ Some w → book.ahead ≡ false → OwnsFirst w (o.left ++ others) in
        let apart = apart_books s run m order periods worker o in
        let N : Book → Type 0 = λ b. b.owner ≢ Some worker in
        let keep : (book : Book) → F book → N book → G book = λ book old other is unmarked.
        first_with o.left o.right others (deque_of o.id (Some worker) (o.top ∷ o.under)) w (old is unmarked) (inl (λ mine. other (is ∙ sym mine))) in
        let both : (books : List Book) → Each F books → Each N books → Each G books = λ books fs ns.
        each_from G books (λ book among. keep book (each_among F book books fs among) (each_among N book books ns among)) in
        each_join G o.older (book_of o.book None ran ∷ o.newer) (both o.older (each_left F o.older (o.book ∷ o.newer) (first_cut w)) apart.0)
        ((λ is. absurd (none_is_not_some w is)), both o.newer (each_right F o.older (o.book ∷ o.newer) (first_cut w)).1 apart.1)

  -- a period that begins
  gaps_begin : (new : Book) → new.ran ≡ [] → Each (Unmarked (done_in (m.books ++ new ∷ []))) (m.books ++ new ∷ [])
  gaps_begin new empty =
      let kept : Each (Unmarked (done_in (m.books ++ new ∷ []))) m.books = subst (λ t. Each (Unmarked (λ i. times i t)) m.books) (sym (begun_same m.books new empty)) gaps in
      each_join (Unmarked (done_in (m.books ++ new ∷ []))) m.books (new ∷ []) kept
      ((λ unmarked i there j lt. absurd (subst (λ t. Among i t) empty there)), tt)

  marked_from : (books : List Book) → LawfulBooks s.quota s.list books → Each (Unmarked (done_in books)) books
      → (n : ℕ) → IsPrefix s.list (done_in books) n → Each (λ book. is_ahead n book ≡ true → book.ahead ≡ true) books
  marked_from books lawful all = marked_of s.quota s.list books lawful all

  -- who owns the first deque
  FirstOf : Moment → Type 0
  FirstOf after = (w : ℕ) → Each (λ book. book.owner ≡ Some w → book.ahead ≡ false → OwnsFirst w after.deques) after.books

  same_first : (worker : ℕ) (o : Owns m worker) (place : ℕ) (w : ℕ)
      → Each (λ book. book.owner ≡ Some w → book.ahead ≡ false → OwnsFirst w m.deques) (books_with o (Some worker) place)
  same_first worker o place w =
      subst (λ t. Each (λ book. book.owner ≡ Some w → book.ahead ≡ false → OwnsFirst w t) (books_with o (Some worker) place)) (sym o.deques_are)
      (first_stays worker o (o.top ∷ o.under) (o.book.ran ++ place ∷ []) w)

  new_first : (worker w id : ℕ) (thread : List ℕ) (left right : List Deque) → Some worker ≡ Some w → nat_lt 0 (length left) ≡ false
      → OwnsFirst w (left ++ deque_of id (Some worker) (thread ∷ []) ∷ right)
  new_first worker w id thread [] right is unmarked = is
  new_first worker w id thread (d ∷ left) right is unmarked = absurd (true≢false (sym (lt-ltb 0 (length (d ∷ left)) (omega arith)) ∙ unmarked))

  kept_first : (worker : ℕ) (event : Event) (after : Moment) → May s m worker event after → (w : ℕ) → Each (λ book. book.owner ≡ Some w → book.ahead ≡ false → OwnsFirst w after.deques) after.books
  kept_first worker event after (steals_beside left right victim first others bottom id idle reach deques_are threads_are new_id) = λ w.
      let behind : List Deque = left ++ deque_of victim.id victim.owner (first ∷ others) ∷ deque_of id (Some worker) (bottom ∷ []) ∷ right in
      let F : Book → Type 0 = λ book. book.owner ≡ Some w → book.ahead ≡ false → OwnsFirst w m.deques in
      let G : Book → Type 0 = λ book. book.owner ≡ Some w → book.ahead ≡ false → OwnsFirst w behind in
      each_join G m.books (new_book worker true ∷ [])
      (each_map F G m.books (λ book among old is unmarked.
      first_with left right (deque_of victim.id victim.owner (first ∷ others) ∷ deque_of id (Some worker) (bottom ∷ []) ∷ right) victim w (subst (OwnsFirst w) deques_are (old is unmarked))
      (inr (deque_of victim.id victim.owner (first ∷ others), deque_of id (Some worker) (bottom ∷ []) ∷ right, refl, refl))) (begun.unmarked_first w))
      ((λ is marked. absurd (true≢false marked)), tt)
  kept_first worker event after (takes_over left right thread id idle reach deques_are) = λ w.
      let behind : List Deque = left ++ deque_of id (Some worker) (thread ∷ []) ∷ right in
      let F : Book → Type 0 = λ book. book.owner ≡ Some w → book.ahead ≡ false → OwnsFirst w m.deques in
      let G : Book → Type 0 = λ book. book.owner ≡ Some w → book.ahead ≡ false → OwnsFirst w behind in
      each_join G m.books (new_book worker (nat_lt 0 (length left)) ∷ [])
      (each_map F G m.books (λ book among old is unmarked.
      first_with left right (deque_of id (Some worker) (thread ∷ []) ∷ right) (deque_of id None (thread ∷ [])) w (subst (OwnsFirst w) deques_are (old is unmarked))
      (inl (none_is_not_some w))) (begun.unmarked_first w))
      ((λ is unmarked. new_first worker w id thread left right is unmarked), tt)
  kept_first worker event after (forks_child o place child at fits) = first_stays worker o (fork_of o.top child ∷ o.top ∷ o.under) (o.book.ran ++ place ∷ [])
  kept_first worker event after (joins_child o place child at has) = same_first worker o place
  kept_first worker event after (allocates_within o place at small fits) = same_first worker o place
  kept_first worker event after (allocates_above o place at large) = same_first worker o place
  kept_first worker event after (releases_words o place at) = same_first worker o place
  kept_first worker event after (meets_fault o place at) = same_first worker o place
  kept_first worker event after (runs_dummy o place at) = first_closed worker o (deque_of o.id None (o.top ∷ o.under) ∷ o.right) (o.book.ran ++ place ∷ [])
  kept_first worker event after (ends_above_parent o place child parent below at under_is top_is) = first_stays worker o o.under (o.book.ran ++ place ∷ [])
  kept_first worker event after (ends_and_wakes o place before later parent at under_is waiting_is top_is) = first_stays worker o (parent.thread ∷ []) (o.book.ran ++ place ∷ [])
  kept_first worker event after (ends_and_leaves o place at under_is unwaited) = first_closed worker o o.right (o.book.ran ++ place ∷ [])
  kept_first worker event after (suspends_top o place child at not_ended under_is) = first_closed worker o o.right o.book.ran
  kept_first worker event after (gives_deque_up o) = first_closed worker o (deque_of o.id None (o.top ∷ o.under) ∷ o.right) o.book.ran

  kept_gaps : (worker : ℕ) (event : Event) (after : Moment) → May s m worker event after → Each (Unmarked (done_at after)) after.books
  kept_gaps worker event after (steals_beside left right victim first others bottom id idle reach deques_are threads_are new_id) = gaps_begin (new_book worker true) refl
  kept_gaps worker event after (takes_over left right thread id idle reach deques_are) = gaps_begin (new_book worker (nat_lt 0 (length left))) refl
  kept_gaps worker event after (forks_child o place child at fits) = gaps_run worker o place (Some worker) at.next
  kept_gaps worker event after (joins_child o place child at has) = gaps_run worker o place (Some worker) at.next
  kept_gaps worker event after (allocates_within o place at small fits) = gaps_run worker o place (Some worker) at.next
  kept_gaps worker event after (allocates_above o place at large) = gaps_run worker o place (Some worker) at.next
  kept_gaps worker event after (releases_words o place at) = gaps_run worker o place (Some worker) at.next
  kept_gaps worker event after (meets_fault o place at) = gaps_run worker o place (Some worker) at.next
  kept_gaps worker event after (runs_dummy o place at) = gaps_run worker o place None at.next
  kept_gaps worker event after (ends_above_parent o place child parent below at under_is top_is) = gaps_run worker o place (Some worker) at.next
  kept_gaps worker event after (ends_and_wakes o place before later parent at under_is waiting_is top_is) = gaps_run worker o place (Some worker) at.next
  kept_gaps worker event after (ends_and_leaves o place at under_is unwaited) = gaps_run worker o place None at.next
  kept_gaps worker event after (suspends_top o place child at not_ended under_is) = gaps_closed worker o
  kept_gaps worker event after (gives_deque_up o) = gaps_closed worker o

  pub kept_begun : (worker : ℕ) (event : Event) (after : Moment) → LawfulBooks s.quota s.list after.books → May s m worker event after → BegunAhead s.list after
  kept_begun worker event after lawful may = record {
    ahead_marked = marked_of s.quota s.list after.books lawful (kept_gaps worker event after may);
    unmarked_first = kept_first worker event after may;
  }
