-- Each thread of a deque has its End before it, so what is done is at least one action less for each.
use Rattle.std.proofs.Common.{◌≡◌, ◌≢◌, ℕ, suc, ◌+◌, ◌<◌, ◌≤◌, List, [], ◌∷◌, ◌++◌, length, inl, inr, refl, sym, ap, subst, ◌∙◌, arith, length-append}
use Rattle.std.proofs.lemmas.Bool.{cases_lt}
use Rattle.depth_first_list.specs.Actions.{Action}
use Rattle.depth_first_list.specs.Runs.{IsDepthFirst}
use Rattle.depth_first_list.specs.Facts.{label_at, IsLive}
use Rattle.depth_first_list.proofs.ThreadLaws.{each_thread_ends}
use Rattle.depth_first_list.specs.Passed.LabelOrder.{Before}
use Rattle.depth_first_list.specs.Passed.LabelLaws.{never_before_itself}
use Rattle.deque_machine.specs.Lists.{Among, Each, times, one_if_same}
use Rattle.deque_machine.specs.Books.{booked, done_in}
use Rattle.deque_machine.specs.Lawful.{LawfulBooks}
use Rattle.deque_machine.proofs.Lists.{each_from, each_join, each_left, each_among, one_cases, one_same, times_among, among_times, total_append}
use Rattle.deque_machine.proofs.Whole.{few_places}
use Rattle.deque_machine.proofs.Keeping.{done_more, ended_has_all}
use Rattle.deque_machine.specs.Moments.{Deque, done_at, threads_in, Rises}
use Rattle.deque_machine.specs.Machine.{Setting, does, books_with}
use Rattle.moment_laws.proofs.Told.{Acted, tells}
use Rattle.hall_machine.specs.Moments.{AllAreWithin, DequesHoldThreads, EndedHasNoDeques, ActionsAreDone}

-- ---- the Ends of live threads

module _ (l : List Action) (k : ℕ) (run : IsDepthFirst k l) (done : ℕ → ℕ) where
  -- the End of a live thread, which is not done
  end_of : (thread : List ℕ) → IsLive l done thread → (e : ℕ) × (e < length l) × (label_at l e ≡ thread) × (done e ≡ 0)
  end_of thread live =
      let acts = live.acts in let end = each_thread_ends k l run acts.0 acts.1 in
      (end.0, end.2, end.3 ∙ acts.2, live.goes_on end.0 end.2 (end.3 ∙ acts.2) end.4)

  ends_of : (threads : List (List ℕ)) → Each (IsLive l done) threads → List ℕ
  ends_of [] all = []
  ends_of (thread ∷ threads) all = (end_of thread all.0).0 ∷ ends_of threads all.1

  as_many : (threads : List (List ℕ)) (all : Each (IsLive l done) threads) → length (ends_of threads all) ≡ length threads
  unfolding ends_of
  as_many [] all = refl
  as_many (thread ∷ threads) all = ap suc (as_many threads all.1)

  end_by : (threads : List (List ℕ)) (all : Each (IsLive l done) threads) (e : ℕ) → Among e (ends_of threads all)
      → (e < length l) × Among (label_at l e) threads × (done e ≡ 0)
  unfolding ends_of
  end_by [] all e there = absurd there
  end_by (thread ∷ threads) all e there = elim there [
    | inl same ↦
        let end = end_of thread all.0 in
        (subst (λ n. n < length l) (sym same) end.1, inl (ap (label_at l) same ∙ end.2), ap done same ∙ end.3)
    | inr later ↦ let rest = end_by threads all.1 e later in (rest.0, inr rest.1, rest.2)
  ]

  ends_once : (threads : List (List ℕ)) (all : Each (IsLive l done) threads) → Rises threads → (e : ℕ) → times e (ends_of threads all) ≤ 1
  unfolding ends_of
  ends_once [] all rises e = omega arith
  ends_once (thread ∷ threads) all rises e =
      let rest = ends_once threads all.1 rises.1 e in
      elim (one_cases e (end_of thread all.0).0) [
        | inr other ↦ let none = other.1 in omega (arith, rest, none)
        | inl here ↦ let one = here.1 in elim (cases_lt 0 (times e (ends_of threads all.1))) [
          | inr none ↦ omega (arith, one, none)
          | inl some ↦
              let later = (end_by threads all.1 e (among_times e (ends_of threads all.1) some)).1 in
              let its : label_at l e ≡ thread = ap (label_at l) here.0 ∙ (end_of thread all.0).2 in
              absurd (never_before_itself thread (each_among (Before thread) thread threads rises.0 (subst (λ t. Among t threads) its later)))
        ]
      ]

pub all_are_within : (s : Setting) → 0 < s.quota → IsDepthFirst s.quota s.list → AllAreWithin s
all_are_within s some run m lawful =
    let threads : List (List ℕ) = threads_in m.deques in
    let all : Each (IsLive s.list (done_at m)) threads = lawful.order.all_live in
    let es : List ℕ = ends_of s.list s.quota run (done_at m) threads all in
    let books : LawfulBooks s.quota s.list m.books = lawful.periods.lawful in
    let once : (i : ℕ) → times i (booked m.books ++ es) ≤ 1 = λ i.
    let sum = total_append (one_if_same i) (booked m.books) es in let a = books.different i in
    let b = ends_once s.list s.quota run (done_at m) threads all lawful.order.rises i in
    elim (cases_lt 0 (times i es)) [
      | inr none ↦ omega (arith, sum, a, none)
      | inl there ↦ let missing = (end_by s.list s.quota run (done_at m) threads all i (among_times i es there)).2 in omega (arith, sum, b, missing)
    ] in
    let inside : Each (λ i. i < length s.list) (booked m.books ++ es) = each_join (λ i. i < length s.list) (booked m.books) es
    (each_from (λ i. i < length s.list) (booked m.books) (λ i there. books.of_the_list i (times_among i (booked m.books) there)))
    (each_from (λ i. i < length s.list) es (λ i there. (end_by s.list s.quota run (done_at m) threads all i there).0)) in
    let few = few_places (booked m.books ++ es) (length s.list) once inside in
    let sum = length-append (booked m.books) es in
    let same = as_many s.list s.quota run (done_at m) threads all in omega (arith, few, sum, same)

-- ---- deques hold threads

some_thread : (threads : List (List ℕ)) → threads ≢ [] → (first : List ℕ) × (later : List (List ℕ)) × (threads ≡ first ∷ later)
some_thread [] some = absurd (some refl)
some_thread (first ∷ later) some = (first, later, refl)

longer : (xs ys : List (List ℕ)) → xs ≢ [] → length ys + 1 ≤ length (xs ++ ys)
longer xs ys some = let cut = some_thread xs some in let both = length-append xs ys in let one = ap length cut.2 in omega (arith, both, one)

each_holds : (deques : List Deque) → Each (λ deque. deque.threads ≢ []) deques → length deques ≤ length (threads_in deques)
each_holds [] all = omega arith
each_holds (deque ∷ right) all =
    let rest = each_holds right all.1 in let here = longer deque.threads (threads_in right) all.0 in omega (arith, rest, here)

pub deques_hold_threads : (s : Setting) → DequesHoldThreads s
deques_hold_threads s m lawful = each_holds m.deques lawful.order.none_empty

-- ---- after the End of the root

pub ended_has_no_deques : (s : Setting) → 0 < s.quota → IsDepthFirst s.quota s.list → EndedHasNoDeques s
ended_has_no_deques s some run m lawful ended = none_left m.deques lawful.order.none_empty lawful.order.all_live
  where
    none_left : (deques : List Deque) → Each (λ deque. deque.threads ≢ []) deques → Each (IsLive s.list (done_at m)) (threads_in deques) → deques ≡ []
    none_left [] all live = refl
    none_left (deque ∷ right) all live =
        let cut = some_thread deque.threads all.0 in
        let first : IsLive s.list (done_at m) cut.0 =
        (subst (Each (IsLive s.list (done_at m))) cut.2 (each_left (IsLive s.list (done_at m)) deque.threads (threads_in right) live)).0 in
        let end = end_of s.list s.quota run (done_at m) cut.0 first in
        let one = ended_has_all s.quota s.list run m.books ended.0 lawful.periods.lawful ended.1 ended.2 ended.3 ended.4 end.0 end.1 in
        let none = end.3 in absurd (omega (arith, one, none))

-- ---- an action is done after it

pub actions_are_done : (s : Setting) → ActionsAreDone s
actions_are_done s m after worker place may =
    let a : Acted s m worker place after = tells s m worker (does place) after may in
    let more = done_more a.owns.older a.owns.newer a.owns.book a.owner place place in
    let now : done_at after place ≡ done_in (books_with a.owns a.owner place) place = ap (λ b. done_in b place) a.books in
    let one = one_same place place refl in
    omega (arith, more, now, one)
