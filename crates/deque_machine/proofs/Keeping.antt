-- What keeps books lawful.
use Rattle.std.proofs.Common.{◌≡◌, ℕ, zero, suc, ◌+◌, ◌<◌, ◌⊎◌, List, [], ◌∷◌, ◌++◌, length, inl, inr, refl, sym, ap, subst, ◌∙◌, arith, append_assoc, append-nil, true≢false}
use Rattle.std.specs.Prelude.{Option, None, Some, is_some}
use Rattle.std.proofs.lemmas.Bool.{cases_eq, cases_lt, cases_order}
use Rattle.dag_order.specs.LabelOrder.{fork_of}
use Rattle.depth_first_run.specs.Passed.Actions.{joins, dummy, ends, Action}
use Rattle.depth_first_run.specs.Passed.Runs.{IsDepthFirst}
use Rattle.depth_first_run.specs.Passed.Facts.{deed_at, label_at, IsDone, IsLive, IsNext, StemsFrom}
use Rattle.depth_first_run.proofs.Passed.LiveLaws.{root_end_means_all}
use Rattle.deque_machine.specs.Lists.{one_if_same, times}
use Rattle.deque_machine.specs.Books.{Book, booked, done_in, charge_at, charged, IsPrefix, book_of, one_more}
use Rattle.deque_machine.specs.Lawful.{DummyEnds, IsWithin}
use Rattle.deque_machine.specs.BookLaws.{NoBooksAreLawful, OnePrefix, RunningKeeps, ClosingKeeps, BeginningKeeps, EndedHasAll}
use Rattle.deque_machine.proofs.Lists.{total_append, each_change, each_at, each_join, one_cases, at_end, same_head, same_tail, middle_is_not_nil}

pub booked_append : (xs ys : List Book) → booked (xs ++ ys) ≡ booked xs ++ booked ys
booked_append [] ys = refl
booked_append (x ∷ xs) ys = ap (λ t. x.ran ++ t) (booked_append xs ys) ∙ sym (append_assoc x.ran (booked xs) (booked ys))

pub times_append : (i : ℕ) (xs ys : List ℕ) → times i (xs ++ ys) ≡ times i xs + times i ys
times_append i xs ys = total_append (one_if_same i) xs ys

-- what is done of books with one in the middle
pub done_middle : (older newer : List Book) (book : Book) (i : ℕ) → done_in (older ++ book ∷ newer) i ≡ done_in older i + (times i book.ran + done_in newer i)
done_middle older newer book i =
    ap (times i) (booked_append older (book ∷ newer)) ∙ times_append i (booked older) (book.ran ++ booked newer)
    ∙ ap (λ t. done_in older i + t) (times_append i book.ran (booked newer))

-- one more place is done, and no other
pub done_more : (older newer : List Book) (book : Book) (after : Option ℕ) (place i : ℕ)
    → done_in (one_more older book newer after place) i ≡ done_in (older ++ book ∷ newer) i + one_if_same i place
done_more older newer book after place i =
    let before = done_middle older newer book i in
    let behind = done_middle older newer (book_of book after (book.ran ++ place ∷ [])) i in
    let more = times_append i book.ran (place ∷ []) in omega (arith, before, behind, more)

-- closing a period, or a new one without actions, changes nothing of what stands in the books
pub closed_same : (older newer : List Book) (book : Book) (after : Option ℕ) → booked (older ++ book_of book after book.ran ∷ newer) ≡ booked (older ++ book ∷ newer)
closed_same older newer book after = booked_append older (book_of book after book.ran ∷ newer) ∙ sym (booked_append older (book ∷ newer))

pub begun_same : (books : List Book) (book : Book) → book.ran ≡ [] → booked (books ++ book ∷ []) ≡ booked books
begun_same books book empty = booked_append books (book ∷ []) ∙ ap (λ t. booked books ++ (t ++ [])) empty ∙ append-nil (booked books)

-- what is done with one place more
pub is_done_more : (l : List Action) (done after : ℕ → ℕ) (place : ℕ) → ((i : ℕ) → after i ≡ done i + one_if_same i place) → IsDone l done
    → IsLive l done (label_at l place) → IsNext l done (label_at l place) place
    → ((child e : ℕ) → deed_at l place ≡ joins child → e < length l → label_at l e ≡ fork_of (label_at l place) child → deed_at l e ≡ ends → 0 < done e)
    → IsDone l after
is_done_more l done after place more closed live next child_ended = record {
  earlier = λ i j lt j_in same did. up i (elim (now j did) [
    | inl before ↦ closed.earlier i j lt j_in same before
    | inr here ↦ next.earlier i (let e : j ≡ place = here in omega arith) (same ∙ ap (λ t. label_at l t) here)
  ]);
  forked = λ f i child lt i_in deed stems did. up f (elim (now i did) [
    | inl before ↦ closed.forked f i child lt i_in deed stems before
    | inr here ↦ live.forked f child (omega arith) deed (subst (λ t. StemsFrom (fork_of (label_at l f) child) (label_at l t)) here stems)
  ]);
  child_ended = λ e j child e_in j_in joined label ended did. up e (elim (now j did) [
    | inl before ↦ closed.child_ended e j child e_in j_in joined label ended before
    | inr here ↦ child_ended child e (ap (λ t. deed_at l t) (sym here) ∙ joined) e_in (label ∙ ap (λ t. fork_of (label_at l t) child) here) ended
  ]);
}
  where
    up : (i : ℕ) → 0 < done i → 0 < after i
    up i did = let m = more i in omega arith

    now : (i : ℕ) → 0 < after i → (0 < done i) ⊎ (i ≡ place)
    now i did = let m = more i in elim (one_cases i place) [
      | inl here ↦ inr here.0
      | inr other ↦ let none = other.1 in inl (omega arith)
    ]

-- the same is done, as lists
done_same : (l : List Action) (xs ys : List Book) → booked xs ≡ booked ys → IsDone l (done_in xs) → IsDone l (done_in ys)
done_same l xs ys same closed = subst (λ t. IsDone l (λ i. times i t)) same closed

-- a Dummy still ends its period
dummy_still_ends : (l : List Action) (book : Book) (worker place : ℕ) (after : Option ℕ) → book.owner ≡ Some worker → (deed_at l place ≡ dummy → after ≡ None)
    → DummyEnds l book → DummyEnds l (book_of book after (book.ran ++ place ∷ []))
dummy_still_ends l book worker place after open_for closes ended front back i is deed =
    elim (at_end book.ran front back place i is) [
      | inl last ↦ (last, closes (ap (λ t. deed_at l t) (the_last book.ran front back last is) ∙ deed))
      | inr there ↦ absurd (some_is_not_none worker (sym open_for ∙ (ended front there.0 i there.1 deed).1))
    ]
  where
    some_is_not_none : (w : ℕ) → ¬ (Some w ≡ None)
    some_is_not_none w same = true≢false (ap is_some same)

    the_last : (xs front back : List ℕ) → back ≡ [] → xs ++ place ∷ [] ≡ front ++ i ∷ back → place ≡ i
    the_last [] [] back last is = same_head place i [] back is
    the_last [] (z ∷ front) back last is = absurd (middle_is_not_nil front i back (sym (same_tail place z [] (front ++ i ∷ back) is)))
    the_last (y ∷ xs) [] back last is = absurd (middle_is_not_nil xs place [] (same_tail y i (xs ++ place ∷ []) back is ∙ last))
    the_last (y ∷ xs) (z ∷ front) back last is = the_last xs front back last (same_tail y z (xs ++ place ∷ []) (front ++ i ∷ back) is)

pub running_keeps : (k : ℕ) (l : List Action) → RunningKeeps k l
running_keeps k l older newer book worker place after open_for lawful may = record {
  different = λ i. let more = done_more older newer book after place i in let most = lawful.different i in elim (one_cases i place) [
    | inl here ↦ let missing = may.next.missing in let same : done_in (older ++ book ∷ newer) i ≡ done_in (older ++ book ∷ newer) place = ap (done_in (older ++ book ∷ newer)) here.0 in
        let one = here.1 in omega (arith, more, missing, same, one)
    | inr other ↦ let none = other.1 in omega (arith, more, most, none)
  ];
  of_the_list = λ i did. let more = done_more older newer book after place i in elim (one_cases i place) [
    | inl here ↦ let inside = may.next.inside in let same : i ≡ place = here.0 in omega arith
    | inr other ↦ let none = other.1 in lawful.of_the_list i (omega (arith, more, none, did))
  ];
  first_actions = is_done_more l (done_in (older ++ book ∷ newer)) (done_in (one_more older book newer after place)) place
      (λ i. done_more older newer book after place i) lawful.first_actions may.live may.next may.child_ended;
  within = each_change (IsWithin k l) older book (book_of book after (book.ran ++ place ∷ [])) newer lawful.within
      (let sum = total_append (charge_at k l) book.ran (place ∷ []) in let fits = may.quota in omega (arith, sum, fits));
  dummies_end = each_change (DummyEnds l) older book (book_of book after (book.ran ++ place ∷ [])) newer lawful.dummies_end
      (dummy_still_ends l book worker place after open_for may.closes (each_at (DummyEnds l) older book newer lawful.dummies_end));
}

pub closing_keeps : (k : ℕ) (l : List Action) → ClosingKeeps k l
closing_keeps k l older newer book lawful =
    let same : booked (older ++ book_of book None book.ran ∷ newer) ≡ booked (older ++ book ∷ newer) = closed_same older newer book None in record {
      different = λ i. let s = ap (times i) same in let most = lawful.different i in omega (arith, s, most);
      of_the_list = λ i did. let s = ap (times i) same in lawful.of_the_list i (omega (arith, s, did));
      first_actions = done_same l (older ++ book ∷ newer) (older ++ book_of book None book.ran ∷ newer) (sym same) lawful.first_actions;
      within = each_change (IsWithin k l) older book (book_of book None book.ran) newer lawful.within (each_at (IsWithin k l) older book newer lawful.within);
      dummies_end = each_change (DummyEnds l) older book (book_of book None book.ran) newer lawful.dummies_end
          (λ front back i is deed. ((each_at (DummyEnds l) older book newer lawful.dummies_end front back i is deed).0, refl));
    }

pub beginning_keeps : (k : ℕ) (l : List Action) → BeginningKeeps k l
beginning_keeps k l books book empty lawful =
    let same : booked (books ++ book ∷ []) ≡ booked books = begun_same books book empty in record {
      different = λ i. let s = ap (times i) same in let most = lawful.different i in omega (arith, s, most);
      of_the_list = λ i did. let s = ap (times i) same in lawful.of_the_list i (omega (arith, s, did));
      first_actions = done_same l books (books ++ book ∷ []) (sym same) lawful.first_actions;
      within = each_join (IsWithin k l) books (book ∷ []) lawful.within
          (let none : charged k l book.ran ≡ 0 = ap (charged k l) empty in (omega arith, tt));
      dummies_end = each_join (DummyEnds l) books (book ∷ []) lawful.dummies_end
          (λ front back i is deed. absurd (middle_is_not_nil front i back (sym is ∙ empty)), tt);
    }

pub no_books_are_lawful : (k : ℕ) (l : List Action) → NoBooksAreLawful k l
no_books_are_lawful k l = record {
  different = λ i. omega arith;
  of_the_list = λ i did. absurd (omega arith);
  first_actions = record {
    earlier = λ i j lt j_in same did. absurd (omega arith);
    forked = λ f i child lt i_in deed stems did. absurd (omega arith);
    child_ended = λ e j child e_in j_in joined label ended did. absurd (omega arith);
  };
  within = tt;
  dummies_end = tt;
}

-- the longest part of the list that is all done, searched from n on
prefix_from : (l : List Action) (done : ℕ → ℕ) (turns n : ℕ) → n + turns ≡ length l → ((i : ℕ) → i < n → 0 < done i) → (m : ℕ) × IsPrefix l done m
prefix_from l done zero n at_end before = (n, record { inside = omega arith; all_done = before; next_missing = λ lt. absurd (omega arith) })
prefix_from l done (suc turns) n at_end before = elim (cases_lt 0 (done n)) [
  | inr none ↦ (n, record { inside = omega arith; all_done = before; next_missing = λ lt. omega arith })
  | inl some ↦ prefix_from l done turns (suc n) (omega arith)
      (λ i lt. elim (cases_eq i n) [ inl here ↦ subst (λ t. 0 < done t) (sym here) some | inr other ↦ before i (omega arith) ])
]

pub prefix_of : (l : List Action) (done : ℕ → ℕ) → (m : ℕ) × IsPrefix l done m
prefix_of l done = prefix_from l done (length l) 0 (omega arith) (λ i lt. absurd (omega arith))

pub one_prefix_of : (l : List Action) (done : ℕ → ℕ) (n m : ℕ) → IsPrefix l done n → IsPrefix l done m → m ≡ n
one_prefix_of l done n m p q = elim (cases_order m n) [
  | inl same ↦ same
  | inr r ↦ elim r [
    | inl lt ↦ let n_in = p.inside in let there = p.all_done m lt in let missing = q.next_missing (omega arith) in absurd (omega arith)
    | inr gt ↦ let m_in = q.inside in let there = q.all_done n gt in let missing = p.next_missing (omega arith) in absurd (omega arith)
  ]
]

pub one_prefix : (l : List Action) → OnePrefix l
one_prefix l books =
    let found : (m : ℕ) × IsPrefix l (done_in books) m = prefix_of l (done_in books) in
    (found.0, found.1, λ m p. one_prefix_of l (done_in books) found.0 m found.1 p)

-- where the root has ended, everything is done, and once
pub ended_has_all : (k : ℕ) (l : List Action) → IsDepthFirst k l → EndedHasAll k l
ended_has_all k l run books e lawful e_in root end did place inside =
    let there : 0 < done_in books place = root_end_means_all k l run (done_in books) lawful.first_actions e place e_in inside root end did in
    let most = lawful.different place in omega arith
