-- A ready list with one worker: no period is marked, and the actions come in the order of the depth-first list.
use Rattle.std.proofs.Common.{◌≡◌, ℕ, suc, ◌+◌, ◌*◌, ◌≤◌, ◌<◌, List, [], ◌∷◌, ◌++◌, length, drop, map, append-nil, inl, inr, refl, sym, ap, subst}
use Rattle.std.proofs.Common.{◌∙◌, arith, true, false, true≢false, cond, nat_lt, ℤ, pos, ◌+ℤ◌, ◌≤ℤ◌}
use Rattle.std.specs.Prelude.{Option, None, Some, nat_le, ◌||◌, filter}
use Rattle.std.specs.Int.{int_max}
use Rattle.std.proofs.lemmas.Bool.{cases_Bool, cases_lt, cases_eq, leb-false}
use Rattle.std.proofs.lemmas.Int.{ints, clamps}
use Rattle.std.proofs.lemmas.List.{drop_more, drop_all}
use Rattle.depth_first_list.specs.Actions.{Action, ends, peak, weight}
use Rattle.depth_first_list.specs.Runs.{IsDepthFirst}
use Rattle.depth_first_list.specs.Facts.{action_at}
use Rattle.depth_first_list.proofs.Peak.{peak_is_highest}
use Rattle.deque_machine.specs.Lists.{Each, times}
use Rattle.deque_machine.specs.Books.{Book, booked, done_in, IsPrefix, goes_past, is_ahead, one_if_marked, periods_ahead, periods_marked, bound, book_of}
use Rattle.deque_machine.specs.Moments.{Deque, Waiting, Moment, opening, moment_of, done_at, live_at}
use Rattle.deque_machine.specs.Machine.{Setting, Event, steals, does, suspends, gives_up, Owns, HasEnded, books_with, books_closed, new_book, May}
use Rattle.deque_machine.specs.Machine.{steals_beside, takes_over, forks_child, joins_child, allocates_within, allocates_above, releases_words}
use Rattle.deque_machine.specs.Machine.{meets_fault, runs_dummy, ends_above_parent, ends_and_wakes, ends_and_leaves, suspends_top, gives_deque_up}
use Rattle.deque_machine.specs.Runs.{Pair, place_of, places_of, is_move, high_water_mark}
use Rattle.deque_machine.proofs.Keeping.{times_append, done_more, closed_same, begun_same, prefix_of}
use Rattle.deque_machine.proofs.Lists.{total_append, one_same, one_other}
use Rattle.deque_machine.proofs.Reached.{no_move_weighs_nothing}
use Rattle.ready_machine.proofs.Along.{ahead_is_marked, bound_in_ready, events_keep_ready, reached_is_ready, ended_did_all}
use Rattle.ready_machine.proofs.Aside.{ready_runs_go_on}
use Rattle.ready_machine.proofs.Sharing.{in_reach, opening_is_ready}
use Rattle.ready_machine.specs.Entries.{entry, IsReadyList}
use Rattle.ready_machine.specs.PlayLaws.{ReadyCoversNext}
use Rattle.ready_machine.specs.ReadyMachine.{IsShared, MayReady, takes, forks_left, as_with_deques, ReadyReaches}

-- what an event that begins no marked period does to the books: its action is done once more, and as many periods are marked as before
record Quiet (m : Moment) (event : Event) (after : Moment) : Type 0 where
  done : (i : ℕ) → done_at after i ≡ done_at m i + times i (place_of event)
  marks : periods_marked after.books ≡ periods_marked m.books

quiet_action : (m : Moment) (worker : ℕ) (o : Owns m worker) (owner : Option ℕ) (place : ℕ) (deques : List Deque) (waiting : List Waiting)
    → Quiet m (does place) (moment_of deques waiting (books_with o owner place))
quiet_action m worker o owner place deques waiting = record {
  done = λ i.
      let before : done_at m i ≡ done_in (o.older ++ o.book ∷ o.newer) i = ap (λ b. done_in b i) o.books_are in
      let more = done_more o.older o.newer o.book owner place i in omega (arith, before, more);
  marks =
      let before : periods_marked m.books ≡ periods_marked (o.older ++ o.book ∷ o.newer) = ap periods_marked o.books_are in
      let a = total_append one_if_marked o.older (o.book ∷ o.newer) in
      let b = total_append one_if_marked o.older (book_of o.book owner (o.book.ran ++ place ∷ []) ∷ o.newer) in omega (arith, before, a, b);
}

quiet_closed : (m : Moment) (worker : ℕ) (o : Owns m worker) (event : Event) (deques : List Deque) (waiting : List Waiting) → place_of event ≡ []
    → Quiet m event (moment_of deques waiting (books_closed o))
quiet_closed m worker o event deques waiting none = record {
  done = λ i.
      let before : done_at m i ≡ done_in (o.older ++ o.book ∷ o.newer) i = ap (λ b. done_in b i) o.books_are in
      let same : done_in (books_closed o) i ≡ done_in (o.older ++ o.book ∷ o.newer) i =
      ap (times i) (closed_same o.older o.newer o.book None) in
      let nothing : times i (place_of event) ≡ 0 = ap (times i) none in omega (arith, before, same, nothing);
  marks =
      let before : periods_marked m.books ≡ periods_marked (o.older ++ o.book ∷ o.newer) = ap periods_marked o.books_are in
      let a = total_append one_if_marked o.older (o.book ∷ o.newer) in
      let b = total_append one_if_marked o.older (book_of o.book None o.book.ran ∷ o.newer) in omega (arith, before, a, b);
}

quiet_shared : (s : Setting) (m : Moment) (worker : ℕ) (event : Event) (after : Moment) → IsShared s event → May s m worker event after
    → Quiet m event after
quiet_shared s m worker event after shared (steals_beside left right victim first others bottom id idle reach deques_are threads_are new_id) =
    absurd shared
quiet_shared s m worker event after shared (takes_over left right thread id idle reach deques_are) = absurd shared
quiet_shared s m worker event after shared (forks_child o place child at fits) =
    quiet_action m worker o (Some worker) place after.deques after.waiting
quiet_shared s m worker event after shared (joins_child o place child at has) =
    quiet_action m worker o (Some worker) place after.deques after.waiting
quiet_shared s m worker event after shared (allocates_within o place at small fits) =
    quiet_action m worker o (Some worker) place after.deques after.waiting
quiet_shared s m worker event after shared (allocates_above o place at large) =
    quiet_action m worker o (Some worker) place after.deques after.waiting
quiet_shared s m worker event after shared (releases_words o place at) = quiet_action m worker o (Some worker) place after.deques after.waiting
quiet_shared s m worker event after shared (meets_fault o place at) = quiet_action m worker o (Some worker) place after.deques after.waiting
quiet_shared s m worker event after shared (runs_dummy o place at) = quiet_action m worker o None place after.deques after.waiting
quiet_shared s m worker event after shared (ends_above_parent o place child parent below at under_is top_is) =
    quiet_action m worker o (Some worker) place after.deques after.waiting
quiet_shared s m worker event after shared (ends_and_wakes o place before later parent at under_is waiting_is top_is) =
    quiet_action m worker o (Some worker) place after.deques after.waiting
quiet_shared s m worker event after shared (ends_and_leaves o place at under_is unwaited) =
    quiet_action m worker o None place after.deques after.waiting
quiet_shared s m worker event after shared (suspends_top o place child at not_ended under_is) =
    quiet_closed m worker o suspends after.deques after.waiting refl
quiet_shared s m worker event after shared (gives_deque_up o) = quiet_closed m worker o gives_up after.deques after.waiting refl

-- What is to the left of the leftmost ready entry is run by other workers. With one worker that is nothing, so no period begins marked.
quiet : (s : Setting) → s.workers ≡ 1 → (m : Moment) → IsReadyList s m → (worker : ℕ) (event : Event) (after : Moment)
    → MayReady s m worker event after → Quiet m event after
quiet s one m ready worker event after (takes left right thread id idle at) =
    let few = in_reach s m ready.lawful worker idle.is_worker idle.owns_none left (entry id None thread ∷ right) at.deques_are at.left_are_run in
    let none : length left ≡ 0 = omega (arith, few, one) in
    let unmarked : one_if_marked (new_book worker (nat_lt 0 (length left))) ≡ 0 = ap (λ n. cond (nat_lt 0 n) 1 0) none in record {
      done = λ i.
          let same : done_at after i ≡ done_at m i =
          ap (times i) (begun_same m.books (new_book worker (nat_lt 0 (length left))) refl) in omega (arith, same);
      marks = let sum = total_append one_if_marked m.books (new_book worker (nat_lt 0 (length left)) ∷ []) in omega (arith, sum, unmarked);
    }
quiet s one m ready worker event after (forks_left o place child new at fits least) =
    quiet_action m worker o (Some worker) place after.deques after.waiting
quiet s one m ready worker event after (as_with_deques event' after' shared may) = quiet_shared s m worker event after shared may

-- what a period ran that is not ahead is among the first n
ran_before : (n : ℕ) (ran : List ℕ) → goes_past n ran ≡ false → (i : ℕ) → 0 < times i ran → i < n
ran_before n [] none i did = omega (arith, did)
ran_before n (place ∷ later) none i did = elim (cases_Bool (nat_le n place)) [
  | inl past ↦ absurd (true≢false (ap (λ b. b || goes_past n later) (sym past) ∙ none))
  | inr not_past ↦ elim (cases_eq i place) [
    | inl here ↦ let below = leb-false n place not_past in let same : i ≡ place = here in omega (arith, below, same)
    | inr other ↦ let none_here = one_other i place other in
        ran_before n later (ap (λ b. b || goes_past n later) (sym not_past) ∙ none) i (omega (arith, did, none_here))
  ]
]

-- and where no period is marked, and those ahead are, so is all that is done
done_before : (n : ℕ) (books : List Book) → Each (λ book. is_ahead n book ≡ true → book.ahead ≡ true) books → periods_marked books ≡ 0
    → (i : ℕ) → 0 < done_in books i → i < n
done_before n [] marked none i did = omega (arith, did)
done_before n (book ∷ later) marked none i did =
    let parts = times_append i book.ran (booked later) in elim (cases_Bool (goes_past n book.ran)) [
      | inl ahead ↦ let one : one_if_marked book ≡ 1 = ap (λ b. cond b 1 0) (marked.0 ahead) in absurd (omega (arith, none, one))
      | inr not_ahead ↦ elim (cases_lt 0 (times i book.ran)) [
        | inl here ↦ ran_before n book.ran not_ahead i here
        | inr nothing ↦ done_before n later marked.1 (omega (arith, none)) i (omega (arith, did, parts, nothing))
      ]
    ]

-- just the first n actions are done
record DoneUpTo (m : Moment) (n : ℕ) : Type 0 where
  those : (i : ℕ) → i < n → 0 < done_at m i
  no_others : (i : ℕ) → 0 < done_at m i → i < n

-- where the same is done, they are as many
as_many : (m after : Moment) (n k : ℕ) → ((i : ℕ) → done_at after i ≡ done_at m i) → DoneUpTo m n → DoneUpTo after k → n ≡ k
as_many m after n k same before now = elim (cases_lt n k) [
  | inl more ↦ let did = now.those n more in let is = same n in
      let below : n < n = before.no_others n (omega (arith, did, is)) in absurd (omega (arith, below))
  | inr no_more ↦ elim (cases_lt k n) [
    | inl less ↦ let did = before.those k less in let is = same k in
        let below : k < k = now.no_others k (omega (arith, did, is)) in absurd (omega (arith, below))
    | inr no_less ↦ omega (arith, no_more, no_less)
  ]
]

-- where one action more is done, which was not done before, it is the next
is_next : (m after : Moment) (n k place : ℕ) → ((i : ℕ) → done_at after i ≡ done_at m i + times i (place ∷ [])) → done_at after place ≤ 1
    → DoneUpTo m n → DoneUpTo after k → (place ≡ n) × (k ≡ suc n)
is_next m after n k place more once before now =
    let here = more place in
    let itself = one_same place place refl in
    let among : place < k = now.no_others place (omega (arith, here, itself)) in
    let not_below : n ≤ place = elim (cases_lt place n) [
      | inl below ↦ let did = before.those place below in absurd (omega (arith, did, here, itself, once))
      | inr above ↦ omega (arith, above)
    ] in
    let is : place ≡ n = elim (cases_eq n place) [
      | inl same ↦ sym same
      | inr other ↦ absurd (too_far n other (omega (arith, not_below, among)) (omega arith))
    ] in (
      is,
      elim (cases_lt (suc n) k) [
        | inl further ↦ absurd (too_far (suc n) (λ same. omega (arith, same, is)) further (omega arith))
        | inr no_further ↦ omega (arith, no_further, among, is)
      ],
    )
  where
    too_far : (i : ℕ) → (i ≡ place → ⊥) → i < k → n ≤ i → ⊥
    too_far i other inside above =
        let did = now.those i inside in
        let is = more i in
        let not_it = one_other i place other in
        let below : i < n = before.no_others i (omega (arith, did, is, not_it)) in omega (arith, below, above)

-- what is no move weighs nothing, so the moves rise as high as all actions
abbrev Weighs : Action → Type 0
Weighs action = is_move action ≡ false → weight action ≡ pos 0

peak_is_high : (actions : List Action) → pos 0 ≤ℤ peak actions
peak_is_high actions = (peak_is_highest actions).never_above 0

moves_rise_as_high : (actions : List Action) → Each Weighs actions → peak (filter is_move actions) ≡ peak actions
moves_rise_as_high [] weigh = refl
moves_rise_as_high (a ∷ later) weigh =
    let rest = moves_rise_as_high later weigh.1 in elim (cases_Bool (is_move a)) [
      | inl moved ↦ ap (λ b. peak (cond b (a ∷ filter is_move later) (filter is_move later))) moved
          ∙ ap (λ t. int_max (pos 0) (weight a +ℤ t)) rest
      | inr none ↦ ap (λ b. peak (cond b (a ∷ filter is_move later) (filter is_move later))) none
          ∙ drops (peak (filter is_move later)) (peak later) (weight a) rest (weigh.0 none) (peak_is_high later)
    ]
  where
    drops : (x y w : ℤ) → x ≡ y → w ≡ pos 0 → pos 0 ≤ℤ y → x ≡ int_max (pos 0) (w +ℤ y)
    drops x y w e none high = omega (arith, ints, clamps)

-- what holds at each place of a list holds of each of its actions
each_of_list : (P : Action → Type 0) (l : List Action) → ((i : ℕ) → i < length l → P (action_at l i)) → Each P l
each_of_list P [] at = tt
each_of_list P (a ∷ l) at = (at 0 (omega arith), each_of_list P l (λ i inside. at (suc i) (omega (arith, inside))))

module _ (s : Setting) (some : 0 < s.quota) (list : IsDepthFirst s.quota s.list) (one : s.workers ≡ 1) where
  keeps_unmarked : (m after : Moment) (worker : ℕ) (event : Event) → IsReadyList s m → periods_marked m.books ≡ 0
      → MayReady s m worker event after → periods_marked after.books ≡ 0
  keeps_unmarked m after worker event ready none may = (quiet s one m ready worker event after may).marks ∙ none

  unmarked_from : (run : List Pair) (first last : Moment) → IsReadyList s first → periods_marked first.books ≡ 0
      → ReadyReaches s first run last → periods_marked last.books ≡ 0
  unmarked_from [] first last ready none reaches = subst (λ m. periods_marked m.books ≡ 0) reaches none
  unmarked_from (pair ∷ later) first last ready none reaches =
      unmarked_from later reaches.0 last (events_keep_ready s some list first reaches.0 pair.worker pair.event ready reaches.1)
      (keeps_unmarked first reaches.0 pair.worker pair.event ready none reaches.1) reaches.2

  -- no period of a run is marked
  pub none_marked : (run : List Pair) (m : Moment) → ReadyReaches s opening run m → periods_marked m.books ≡ 0
  none_marked run m reaches = unmarked_from run opening m (opening_is_ready s list) refl reaches

  -- so none is ahead
  pub none_ahead : (run : List Pair) (m : Moment) (n : ℕ) → ReadyReaches s opening run m → IsPrefix s.list (done_at m) n
      → periods_ahead n m.books ≡ 0
  none_ahead run m n reaches prefix =
      let few = ahead_is_marked s some list run m n reaches prefix in let none = none_marked run m reaches in omega (arith, few, none)

  -- and the words in use are at most the peak
  pub never_above_peak : (run : List Pair) (m : Moment) → ReadyReaches s opening run m → live_at s.list m ≤ℤ peak s.list
  never_above_peak run m reaches =
      let p = prefix_of s.list (done_at m) in
      no_more (live_at s.list m) (peak s.list) (subst (λ a. live_at s.list m ≤ℤ bound s.quota s.list a)
      (none_ahead run m p.0 reaches p.1) (bound_in_ready s some list run m p.0 reaches p.1))
    where
      no_more : (x top : ℤ) → x ≤ℤ (top +ℤ pos (2 * s.quota * 0)) → x ≤ℤ top
      no_more x top le = omega (arith, ints, le)

  -- an arena with room for the peak has room for the bound after whatever comes next
  pub peak_covers : (run : List Pair) (m : Moment) (capacity : ℕ) → ReadyReaches s opening run m → peak s.list ≤ℤ pos capacity
      → ReadyCoversNext s capacity m
  peak_covers run m capacity reaches room worker place n after may takes_words prefix =
      let next = ready_runs_go_on s run m after worker (does place) reaches may in
      let none = none_ahead (run ++ record { worker = worker; event = does place } ∷ []) after n next prefix in
      subst (λ a. bound s.quota s.list a ≤ℤ pos capacity) (sym none) (no_more (peak s.list) (pos capacity) room)
    where
      no_more : (top y : ℤ) → top ≤ℤ y → (top +ℤ pos (2 * s.quota * 0)) ≤ℤ y
      no_more top y le = omega (arith, ints, le)

  up_to : (m : Moment) → IsReadyList s m → periods_marked m.books ≡ 0 → (n : ℕ) × DoneUpTo m n
  up_to m ready none =
      let p = prefix_of s.list (done_at m) in (
        p.0,
        record {
          those = (p.1).all_done;
          no_others = done_before p.0 m.books (((ready.lawful).begun).ahead_marked p.0 p.1) none;
        },
      )

  -- the actions of a run are those of the list that it comes past, in their order
  in_order_from : (run : List Pair) (first last : Moment) (n k : ℕ) → IsReadyList s first → periods_marked first.books ≡ 0
      → ReadyReaches s first run last → DoneUpTo first n → DoneUpTo last k
      → drop n s.list ≡ map (action_at s.list) (places_of run) ++ drop k s.list
  in_order_from [] first last n k ready none reaches before now =
      let same : n ≡ k = as_many first last n k (λ i. ap (λ m. done_at m i) (sym reaches)) before now in ap (λ t. drop t s.list) same
  in_order_from (pair ∷ later) first last n k ready none reaches before now =
      let next : IsReadyList s reaches.0 = events_keep_ready s some list first reaches.0 pair.worker pair.event ready reaches.1 in
      let unmarked : periods_marked (reaches.0).books ≡ 0 = keeps_unmarked first reaches.0 pair.worker pair.event ready none reaches.1 in
      let between = up_to reaches.0 next unmarked in
      by_event pair.event (quiet s one first ready pair.worker pair.event reaches.0 reaches.1).done between.0 between.1
      ((next.lawful).periods).lawful.different ((next.lawful).periods).lawful.of_the_list
      (in_order_from later reaches.0 last between.0 k next unmarked reaches.2 between.1 now)
    where
      by_event : (event : Event) → ((i : ℕ) → done_at reaches.0 i ≡ done_at first i + times i (place_of event)) → (j : ℕ)
          → DoneUpTo reaches.0 j → ((place : ℕ) → done_at reaches.0 place ≤ 1)
          → ((place : ℕ) → 0 < done_at reaches.0 place → place < length s.list)
          → drop j s.list ≡ map (action_at s.list) (places_of later) ++ drop k s.list
          → drop n s.list ≡ map (action_at s.list) (place_of event ++ places_of later) ++ drop k s.list
      by_event (steals place id) more j after once inside rest =
          let same : n ≡ j = as_many first reaches.0 n j (λ i. let is = more i in omega (arith, is)) before after in
          ap (λ t. drop t s.list) same ∙ rest
      by_event suspends more j after once inside rest =
          let same : n ≡ j = as_many first reaches.0 n j (λ i. let is = more i in omega (arith, is)) before after in
          ap (λ t. drop t s.list) same ∙ rest
      by_event gives_up more j after once inside rest =
          let same : n ≡ j = as_many first reaches.0 n j (λ i. let is = more i in omega (arith, is)) before after in
          ap (λ t. drop t s.list) same ∙ rest
      by_event (does place) more j after once inside rest =
          let next = is_next first reaches.0 n j place more (once place) before after in
          let is : place ≡ n = next.0 in
          let j_is : n + 1 ≡ j = let j_next = next.1 in omega (arith, j_next) in
          let did = more place in
          let itself = one_same place place refl in
          let within : place < length s.list = inside place (omega (arith, did, itself)) in
          ap (λ t. drop t s.list) (sym is)
          ∙ drop_more s.list place (record { label = []; index = 0; deed = ends; words = 0 }) within
          ∙ ap (λ t. action_at s.list place ∷ drop t s.list) (ap (λ t. t + 1) is ∙ j_is)
          ∙ ap (λ t. action_at s.list place ∷ t) rest

  nothing_done : DoneUpTo opening 0
  nothing_done = record { those = λ i below. absurd (omega (arith, below)); no_others = λ i did. absurd (omega (arith, did)) }

  -- so the actions of a run are the first of the list, in its order
  pub in_list_order : (run : List Pair) (m : Moment) → ReadyReaches s opening run m
      → (rest : List Action) × (s.list ≡ map (action_at s.list) (places_of run) ++ rest)
  in_list_order run m reaches =
      let now = up_to m (reached_is_ready s some list run m reaches) (none_marked run m reaches) in
      (drop now.0 s.list, in_order_from run opening m 0 now.0 (opening_is_ready s list) refl reaches nothing_done now.1)

  -- and a run in which the root has ended rises just to the peak
  pub high_is_peak : (run : List Pair) (m : Moment) → ReadyReaches s opening run m → HasEnded s m [] → high_water_mark s.list run ≡ peak s.list
  high_is_peak run m reaches has =
      let all : DoneUpTo m (length s.list) = record {
        those = λ i inside. let once = ended_did_all s some list run m reaches has i inside in omega (arith, once);
        no_others = (((reached_is_ready s some list run m reaches).lawful).periods).lawful.of_the_list;
      } in
      let cut = in_order_from run opening m 0 (length s.list) (opening_is_ready s list) refl reaches nothing_done all in
      let is : s.list ≡ map (action_at s.list) (places_of run) =
      cut ∙ ap (λ t. map (action_at s.list) (places_of run) ++ t) (drop_all (length s.list) s.list (omega arith))
      ∙ append-nil (map (action_at s.list) (places_of run)) in
      ap (λ t. peak (filter is_move t)) (sym is)
      ∙ moves_rise_as_high s.list (each_of_list Weighs s.list (no_move_weighs_nothing s.quota s.list list))
