-- Somebody can always move, and the rules want something of who moves.
use Rattle.std.proofs.Common.{◌≡◌, ◌≢◌, ℕ, zero, suc, ◌+◌, ◌*◌, ◌-◌, ◌/◌, ◌%◌, ◌≤◌, ◌<◌, ◌⊎◌, List, [], ◌∷◌, ◌++◌, length, inl, inr, refl, sym, ap, subst, ◌∙◌, arith, true≢false}
use Rattle.std.specs.Prelude.{Option, None, Some, is_some, slice_get, unwrap_or}
use Rattle.std.proofs.lemmas.Bool.{cases_lt, cases_eq}
use Rattle.std.proofs.Math.Nat.{div-add-mod, mod-lt, mod-eq_of_lt, add-mul-mod_self_left, mul-add}
use Rattle.dag_order.specs.LabelOrder.{fork_of}
use Rattle.depth_first_run.specs.Passed.Actions.{Deed, forks, joins, allocates, releases, dummy, faults, ends}
use Rattle.depth_first_run.specs.Passed.Runs.{IsDepthFirst}
use Rattle.depth_first_run.specs.Passed.Facts.{label_at, deed_at, IsLive, IsNext}
use Rattle.depth_first_run.proofs.Passed.ThreadLaws.{root_ends}
use Rattle.depth_first_run.proofs.Passed.OrderLaw.{live_has_next}
use Rattle.deque_machine.specs.Lists.{Each, one_if_same}
use Rattle.deque_machine.specs.Books.{Book, charge_at, charged}
use Rattle.deque_machine.proofs.Lists.{each_at, one_cases, one_same, one_other}
use Rattle.deque_machine.specs.Moments.{Deque, Moment, done_at, threads_in, owned_by, open_for, with_id, one_if_owned, one_if_open, one_if_id, one_if_worker}
use Rattle.deque_machine.specs.Machine.{Setting, Event, steals, does, suspends, gives_up, Owns, HasEnded}
use Rattle.deque_machine.specs.LawfulOrder.{IsLawful}
use Rattle.deque_machine.specs.Play.{IsFirst, IsReady, CanMove, reach, Stays, Wants, a_theft, a_give_up, a_wait, an_action}
use Rattle.deque_machine.proofs.Progress.{same_label}
use Rattle.deque_machine.proofs.Shapes.{threads_append}
use Rattle.deque_machine.proofs.KeptBegun.{never_empty}
use Rattle.deque_machine.proofs.KeptOrder.{own_alloc, own_release, own_dummy, own_fault, fork_is_no_join, end_is_no_join}
use Rattle.deque_machine.proofs.OneAction.{end_is_no_fork}
use Rattle.deque_machine.proofs.LiveThreads.{join_is_no_end}

-- something holds, or not
abbrev pub Decided : Type 0 → Type 0
Decided P = P ⊎ (¬ P)

-- some turn comes to each number below n
turn_to : (word n x : ℕ) → x < n → (e : ℕ) × (e < n) × ((word + e) % n ≡ x)
turn_to word n x lt =
    let cut : n * (word / n) + word % n ≡ word = div-add-mod word n in
    let below : word % n < n = mod-lt word (let some : 0 < n = omega arith in some) in
    elim (cases_lt x (word % n)) [
      | inr up ↦
          let e : ℕ = x - word % n in
          let is : word + (x - word % n) ≡ x + n * (word / n) = omega (arith, cut, up) in
          (e, omega (arith, up), ap (λ t. t % n) is ∙ add-mul-mod_self_left x n (word / n) ∙ mod-eq_of_lt lt)
      | inl down ↦
          let more : n * (word / n + 1) ≡ n * (word / n) + n * 1 = mul-add n (word / n) 1 in
          let is : word + (x + n - word % n) ≡ x + n * (word / n + 1) = omega (arith, cut, down, more) in
          (x + n - word % n, omega (arith, down, below), ap (λ t. t % n) is ∙ add-mul-mod_self_left x n (word / n + 1) ∙ mod-eq_of_lt lt)
    ]

-- the first of n numbers, from one on, that passes
module _ (n word : ℕ) (Passes : ℕ → Type 0) (decide : (x : ℕ) → Decided (Passes x)) where
  first_from : (left turns : ℕ) → turns + left ≡ n → ((e : ℕ) → e < turns → ¬ Passes ((word + e) % n)) → ((x : ℕ) × IsFirst n word Passes x) ⊎ ((e : ℕ) → e < n → ¬ Passes ((word + e) % n))
  first_from zero turns at none = inr (λ e lt. none e (omega arith))
  first_from (suc left) turns at none = elim (decide ((word + turns) % n)) [
    | inl here ↦ inl ((word + turns) % n, record { turns = turns; few = omega arith; is = refl; passes = here; none_before = none })
    | inr not_here ↦ first_from left (suc turns) (omega arith) (λ e lt. elim (cases_eq e turns) [
      | inl same ↦ subst (λ t. ¬ Passes ((word + t) % n)) (sym same) not_here
      | inr other ↦ none e (omega arith)
    ])
  ]

  -- one that passes is met on the way
  pub first_there : (x : ℕ) → x < n → Passes x → (y : ℕ) × IsFirst n word Passes y
  first_there x lt passes = elim (first_from n 0 (omega arith) (λ e none. absurd (omega arith))) [
    | inl found ↦ found
    | inr none ↦ let turn : (e : ℕ) × (e < n) × ((word + e) % n ≡ x) = turn_to word n x lt in
        absurd (none turn.0 turn.1 (subst Passes (sym turn.2) passes))
  ]

-- whether some number below a bound passes
some_below : (P : ℕ → Type 0) → ((x : ℕ) → Decided (P x)) → (n : ℕ) → Decided ((x : ℕ) × (x < n) × P x)
some_below P decide zero = inr (λ some. absurd (let lt = some.1 in omega arith))
some_below P decide (suc n) = elim (decide n) [
  | inl here ↦ inl (n, omega arith, here)
  | inr not_here ↦ elim (some_below P decide n) [
    | inl found ↦ inl (found.0, let lt = found.1 in omega arith, found.2)
    | inr none ↦ inr (λ some. elim (cases_eq some.0 n) [
      | inl same ↦ not_here (subst P same some.2)
      | inr other ↦ none (some.0, (let lt = some.1 in omega arith), some.2)
    ])
  ]
]

-- a deque at a place is ready, or not
ready_or_not : (m : Moment) (place : ℕ) → Decided (IsReady m place)
ready_or_not m place = by_place (slice_get m.deques place) refl
  where
    by_owner : (d : Deque) → slice_get m.deques place ≡ Some d → (owner : Option ℕ) → d.owner ≡ owner → Decided (IsReady m place)
    by_owner d is None o = inl (d, is, inl o)
    by_owner d is (Some w) o = elim (cases_lt 1 (length d.threads)) [
      | inl many ↦ inl (d, is, inr (omega arith))
      | inr few ↦ inr (λ ready. let same : ready.0 ≡ d = ap (λ u. unwrap_or u d) (sym ready.1 ∙ is) in elim ready.2 [
        | inl none ↦ true≢false (sym (ap is_some (sym none ∙ ap (λ u. u.owner) same ∙ o)))
        | inr two ↦ let alike : length (ready.0).threads ≡ length d.threads = ap (λ u. length u.threads) same in absurd (omega arith)
      ])
    ]

    by_place : (o : Option Deque) → slice_get m.deques place ≡ o → Decided (IsReady m place)
    by_place None is = inr (λ ready. true≢false (sym (ap is_some (sym is ∙ ready.1))))
    by_place (Some d) is = by_owner d is d.owner refl

pub can_move_or_not : (s : Setting) (m : Moment) (worker : ℕ) → Decided (CanMove s m worker)
can_move_or_not s m worker = elim (cases_lt 0 (owned_by worker m.deques)) [
  | inl owns ↦ inl (inl owns)
  | inr idle ↦ elim (some_below (IsReady m) (ready_or_not m) (reach s m)) [
    | inl found ↦ inl (inr found)
    | inr none ↦ inr (λ can. elim can [ inl owns ↦ absurd (omega arith) | inr found ↦ none found ])
  ]
]

-- whether a thread has ended
pub ended_or_not : (s : Setting) (m : Moment) (thread : List ℕ) → Decided (HasEnded s m thread)
ended_or_not s m thread =
    elim (some_below (λ e. (label_at s.list e ≡ thread) × (deed_at s.list e ≡ ends) × (0 < done_at m e)) (λ e. by_label e (same_label (label_at s.list e) thread)) (length s.list)) [
      | inl found ↦ inl (found.0, found.1, (found.2).0, (found.2).1, (found.2).2)
      | inr none ↦ inr (λ has. none (has.0, has.1, (has.2, has.3, has.4)))
    ]
  where
    is_end_or_not : (deed : Deed) → Decided (deed ≡ ends)
    is_end_or_not (forks child) = inr (λ e. end_is_no_fork child (sym e))
    is_end_or_not (joins child) = inr (λ e. join_is_no_end child e)
    is_end_or_not allocates = inr (λ e. own_alloc.no_end e)
    is_end_or_not releases = inr (λ e. own_release.no_end e)
    is_end_or_not dummy = inr (λ e. own_dummy.no_end e)
    is_end_or_not faults = inr (λ e. own_fault.no_end e)
    is_end_or_not ends = inl refl

    by_label : (e : ℕ) → (label_at s.list e ≡ thread) ⊎ (label_at s.list e ≢ thread) → Decided ((label_at s.list e ≡ thread) × (deed_at s.list e ≡ ends) × (0 < done_at m e))
    by_label e (inr other) = inr (λ has. other has.0)
    by_label e (inl mine) = elim (is_end_or_not (deed_at s.list e)) [
      | inr other ↦ inr (λ has. other has.1)
      | inl end ↦ elim (cases_lt 0 (done_at m e)) [
        | inl did ↦ inl (mine, end, did)
        | inr none ↦ inr (λ has. let did = has.2 in absurd (omega arith))
      ]
    ]

-- a book and a deque of a worker, cut out
pub cut_owned : (worker : ℕ) (ds : List Deque) → 0 < owned_by worker ds → (left right : List Deque) × (d : Deque) × (ds ≡ left ++ d ∷ right) × (d.owner ≡ Some worker)
cut_owned worker [] some = absurd (omega arith)
cut_owned worker (d ∷ ds) some = by_owner d.owner refl (λ further. cut_owned worker ds further)
  where
    later : (0 < owned_by worker ds → (left right : List Deque) × (d : Deque) × (ds ≡ left ++ d ∷ right) × (d.owner ≡ Some worker)) → one_if_owned worker d ≡ 0
        → (left right : List Deque) × (e : Deque) × (d ∷ ds ≡ left ++ e ∷ right) × (e.owner ≡ Some worker)
    later rest none = let c = rest (omega arith) in (d ∷ c.0, c.1, c.2, ap (λ t. d ∷ t) c.3, c.4)

    by_owner : (owner : Option ℕ) → d.owner ≡ owner → (0 < owned_by worker ds → (left right : List Deque) × (d : Deque) × (ds ≡ left ++ d ∷ right) × (d.owner ≡ Some worker))
        → (left right : List Deque) × (e : Deque) × (d ∷ ds ≡ left ++ e ∷ right) × (e.owner ≡ Some worker)
    by_owner None is rest = later rest (ap (one_if_worker worker) is)
    by_owner (Some w) is rest = elim (one_cases worker w) [
      | inl here ↦ ([], ds, d, refl, is ∙ ap Some (sym here.0))
      | inr other ↦ later rest (ap (one_if_worker worker) is ∙ other.1)
    ]

pub cut_open : (worker : ℕ) (bs : List Book) → 0 < open_for worker bs → (older newer : List Book) × (b : Book) × (bs ≡ older ++ b ∷ newer) × (b.owner ≡ Some worker)
cut_open worker [] some = absurd (omega arith)
cut_open worker (b ∷ bs) some = by_owner b.owner refl (λ further. cut_open worker bs further)
  where
    later : (0 < open_for worker bs → (older newer : List Book) × (b : Book) × (bs ≡ older ++ b ∷ newer) × (b.owner ≡ Some worker)) → one_if_open worker b ≡ 0
        → (older newer : List Book) × (c : Book) × (b ∷ bs ≡ older ++ c ∷ newer) × (c.owner ≡ Some worker)
    later rest none = let c = rest (omega arith) in (b ∷ c.0, c.1, c.2, ap (λ t. b ∷ t) c.3, c.4)

    by_owner : (owner : Option ℕ) → b.owner ≡ owner → (0 < open_for worker bs → (older newer : List Book) × (b : Book) × (bs ≡ older ++ b ∷ newer) × (b.owner ≡ Some worker))
        → (older newer : List Book) × (c : Book) × (b ∷ bs ≡ older ++ c ∷ newer) × (c.owner ≡ Some worker)
    by_owner None is rest = later rest (ap (one_if_worker worker) is)
    by_owner (Some w) is rest = elim (one_cases worker w) [
      | inl here ↦ ([], bs, b, refl, is ∙ ap Some (sym here.0))
      | inr other ↦ later rest (ap (one_if_worker worker) is ∙ other.1)
    ]

-- the least number that passes
least_from : (P : ℕ → Type 0) → ((x : ℕ) → Decided (P x)) → (turns x : ℕ) → ((i : ℕ) → i < x → ¬ P i) → ((y : ℕ) × P y × ((i : ℕ) → i < y → ¬ P i)) ⊎ ((i : ℕ) → i < x + turns → ¬ P i)
least_from P decide zero x none = inr (λ i lt. none i (omega arith))
least_from P decide (suc turns) x none = elim (decide x) [
  | inl here ↦ inl (x, here, none)
  | inr not_here ↦ elim (least_from P decide turns (suc x) (λ i lt. elim (cases_eq i x) [ inl same ↦ subst (λ t. ¬ P t) (sym same) not_here | inr other ↦ none i (omega arith) ])) [
    | inl found ↦ inl found
    | inr all ↦ inr (λ i lt. all i (omega arith))
  ]
]

-- how many deques have an id below a bound
ids_below : ℕ → List Deque → ℕ
ids_below zero ds = 0
ids_below (suc n) ds = ids_below n ds + with_id n ds

-- one deque has one id
hits : ℕ → Deque → ℕ
hits zero d = 0
hits (suc n) d = hits n d + one_if_id n d

hits_low : (n : ℕ) (d : Deque) → n ≤ d.id → hits n d ≡ 0
unfolding hits
hits_low zero d low = refl
hits_low (suc n) d low = let rest = hits_low n d (omega arith) in let none : one_if_id n d ≡ 0 = one_other n d.id (λ e. omega arith) in omega (arith, rest, none)

hits_once : (n : ℕ) (d : Deque) → hits n d ≤ 1
unfolding hits
hits_once zero d = omega arith
hits_once (suc n) d = elim (one_cases n d.id) [
  | inl here ↦ let low = hits_low n d (let e : n ≡ d.id = here.0 in omega arith) in let one = here.1 in omega (arith, low, one)
  | inr other ↦ let rest = hits_once n d in let none = other.1 in omega (arith, rest, none)
]

ids_one : (n : ℕ) (d : Deque) (ds : List Deque) → ids_below n (d ∷ ds) ≡ ids_below n ds + hits n d
unfolding ids_below hits
ids_one zero d ds = refl
ids_one (suc n) d ds = let rest = ids_one n d ds in omega (arith, rest)

ids_none : (n : ℕ) → ids_below n [] ≡ 0
unfolding ids_below
ids_none zero = refl
ids_none (suc n) = let rest = ids_none n in omega (arith, rest)

ids_few : (n : ℕ) (ds : List Deque) → ids_below n ds ≤ length ds
ids_few n [] = let none = ids_none n in omega (arith, none)
ids_few n (d ∷ ds) = let one = ids_one n d ds in let once = hits_once n d in let rest = ids_few n ds in omega (arith, one, once, rest)

ids_all : (n : ℕ) (ds : List Deque) → ((i : ℕ) → i < n → 0 < with_id i ds) → n ≤ ids_below n ds
unfolding ids_below
ids_all zero ds all = omega arith
ids_all (suc n) ds all = let rest = ids_all n ds (λ i lt. all i (omega arith)) in let here = all n (omega arith) in omega (arith, rest, here)

-- there is an id that no deque has
free_id : (ds : List Deque) → (id : ℕ) × (with_id id ds ≡ 0) × ((i : ℕ) → i < id → 0 < with_id i ds)
free_id ds = elim (least_from (λ i. with_id i ds ≡ 0) (λ i. cases_eq (with_id i ds) 0) (suc (length ds)) 0 (λ i lt. absurd (omega arith))) [
  | inl found ↦ (found.0, found.1, λ i lt. some_of (with_id i ds) (found.2 i lt))
  | inr all ↦
      let many = ids_all (suc (length ds)) ds (λ i lt. some_of (with_id i ds) (all i (omega arith))) in
      let few = ids_few (suc (length ds)) ds in absurd (omega (arith, many, few))
]
  where
    some_of : (n : ℕ) → n ≢ 0 → 0 < n
    some_of n some = elim (cases_lt 0 n) [ inl lt ↦ lt | inr le ↦ absurd (some (omega arith)) ]

-- a deque stays behind a theft, or not
pub stays_or_not : (d : Deque) → Decided (Stays d)
stays_or_not d = by_owner d.owner refl
  where
    by_owner : (owner : Option ℕ) → d.owner ≡ owner → Decided (Stays d)
    by_owner (Some w) is = inl (inl (λ none. true≢false (ap is_some (sym is ∙ none))))
    by_owner None is = elim (cases_lt 1 (length d.threads)) [
      | inl many ↦ inl (inr (omega arith))
      | inr few ↦ inr (λ stays. elim stays [ inl owned ↦ owned is | inr two ↦ absurd (omega arith) ])
    ]

module _ (s : Setting) (list : IsDepthFirst s.quota s.list) (m : Moment) (lawful : IsLawful s m) where
  -- what the rules want of a thief
  thief_wants : (worker word : ℕ) → owned_by worker m.deques ≡ 0 → (place : ℕ) → place < reach s m → IsReady m place → (event : Event) × Wants s m worker word event
  thief_wants worker word idle place near ready =
      let first = first_there (reach s m) word (IsReady m) (ready_or_not m) place near ready in
      let there = (first.1).passes in
      elim (stays_or_not there.0) [
        | inl stays ↦ let free = free_id m.deques in (steals first.0 free.0, a_theft first.0 free.0 idle first.1 (there.0, there.1, inr (stays, free.1, free.2)))
        | inr not ↦ (steals first.0 (there.0).id, a_theft first.0 (there.0).id idle first.1 (there.0, there.1, inl (not, refl)))
      ]

  -- what a worker has that owns a deque
  owns : (worker : ℕ) → 0 < owned_by worker m.deques → Owns m worker
  owns worker some =
      let d = cut_owned worker m.deques some in
      let b = cut_open worker m.books (let each = (lawful.periods).one_each worker in omega (arith, each, some)) in
      by_threads d.0 d.1 d.2 d.3 d.4 (d.2).threads refl b.0 b.1 b.2 b.3 b.4
    where
      by_threads : (left right : List Deque) (d : Deque) → m.deques ≡ left ++ d ∷ right → d.owner ≡ Some worker → (threads : List (List ℕ)) → d.threads ≡ threads
          → (older newer : List Book) (b : Book) → m.books ≡ older ++ b ∷ newer → b.owner ≡ Some worker → Owns m worker
      by_threads left right d cut owner [] t older newer b books open_for_it =
          absurd (each_at (λ d. d.threads ≢ []) left d right (subst (λ u. Each (λ d. d.threads ≢ []) u) cut (lawful.order).none_empty) t)
      by_threads left right d cut owner (top ∷ under) t older newer b books open_for_it =
          let whole : d ≡ record { id = d.id; owner = Some worker; threads = top ∷ under } = λ i. record { id = d.id; owner = owner i; threads = t i } in record {
            left = left;
            id = d.id;
            top = top;
            under = under;
            right = right;
            older = older;
            book = b;
            newer = newer;
            deques_are = cut ∙ ap (λ u. left ++ u ∷ right) whole;
            books_are = books;
            open_for_it = open_for_it;
          }

  -- and what the rules want of it
  owner_wants : (worker word : ℕ) → 0 < owned_by worker m.deques → (event : Event) × Wants s m worker word event
  owner_wants worker word some =
      let o : Owns m worker = owns worker some in
      let d : Deque = record { id = o.id; owner = Some worker; threads = o.top ∷ o.under } in
      let live : IsLive s.list (done_at m) o.top = each_at (IsLive s.list (done_at m)) (threads_in o.left) o.top (o.under ++ threads_in o.right)
      (subst (λ t. Each (IsLive s.list (done_at m)) t) (ap threads_in o.deques_are ∙ threads_append o.left (d ∷ o.right)) (lawful.order).all_live) in
      let next : (n : ℕ) × IsNext s.list (done_at m) o.top n = live_has_next s.quota s.list list (done_at m) o.top live in
      elim (cases_lt s.quota (charged s.quota s.list o.book.ran + charge_at s.quota s.list next.0)) [
        | inl full ↦ (gives_up, a_give_up (record { owner = o; place = next.0; next = next.1; no_room = full }))
        | inr fits ↦ by_deed o next.0 next.1 fits (deed_at s.list next.0) refl
      ]
    where
      by_deed : (o : Owns m worker) (place : ℕ) → IsNext s.list (done_at m) o.top place → charged s.quota s.list o.book.ran + charge_at s.quota s.list place ≤ s.quota
          → (deed : Deed) → deed_at s.list place ≡ deed → (event : Event) × Wants s m worker word event
      by_deed o place next fits (joins child) is = elim (ended_or_not s m (fork_of o.top child)) [
        | inl has ↦ (does place, an_action o place next (λ c c_is. subst (λ t. HasEnded s m (fork_of o.top t)) (one_join child c (sym is ∙ c_is)) has) fits)
        | inr none ↦ (suspends, a_wait o place child (record { next = next; deed_is = is }) none)
      ]
        where
          one_join : (a b : ℕ) → joins a ≡ joins b → a ≡ b
          one_join a b e = cc
      by_deed o place next fits (forks child) is = (does place, an_action o place next (λ c c_is. absurd (fork_is_no_join child c (sym is ∙ c_is))) fits)
      by_deed o place next fits allocates is = (does place, an_action o place next (λ c c_is. absurd (own_alloc.no_join c (sym is ∙ c_is))) fits)
      by_deed o place next fits releases is = (does place, an_action o place next (λ c c_is. absurd (own_release.no_join c (sym is ∙ c_is))) fits)
      by_deed o place next fits dummy is = (does place, an_action o place next (λ c c_is. absurd (own_dummy.no_join c (sym is ∙ c_is))) fits)
      by_deed o place next fits faults is = (does place, an_action o place next (λ c c_is. absurd (own_fault.no_join c (sym is ∙ c_is))) fits)
      by_deed o place next fits ends is = (does place, an_action o place next (λ c c_is. absurd (end_is_no_join c (sym is ∙ c_is))) fits)

  pub mover_wants : (worker word : ℕ) → CanMove s m worker → (event : Event) × Wants s m worker word event
  mover_wants worker word can = elim (cases_lt 0 (owned_by worker m.deques)) [
    | inl some ↦ owner_wants worker word some
    | inr none ↦ elim can [
      | inl some ↦ absurd (omega arith)
      | inr found ↦ thief_wants worker word (omega arith) found.0 found.1 found.2
    ]
  ]

  -- while the root has not ended, some deque is there
  pub some_deque : ¬ HasEnded s m [] → (first : Deque) × (right : List Deque) × (m.deques ≡ first ∷ right)
  some_deque not_over = by_deques m.deques refl
    where
      by_deques : (ds : List Deque) → m.deques ≡ ds → (first : Deque) × (right : List Deque) × (m.deques ≡ first ∷ right)
      by_deques (d ∷ ds) is = (d, ds, is)
      by_deques [] is =
          let root = root_ends s.quota s.list list in
          let size = root.1 in
          let missing : done_at m root.0 ≡ 0 = elim (cases_lt 0 (done_at m root.0)) [ inl did ↦ absurd (not_over (root.0, omega (arith, size), root.2, root.3, did)) | inr none ↦ omega arith ] in
          absurd (never_empty s.quota s.list list (done_at m) ((lawful.periods).lawful).first_actions m.deques m.waiting lawful.order is root.0 (omega (arith, size)) missing)

  -- so somebody can move
  pub somebody_moves : 0 < s.workers → (word : ℕ) → ¬ HasEnded s m [] → (worker : ℕ) × IsFirst s.workers word (CanMove s m) worker
  somebody_moves some word not_over =
      let d = some_deque not_over in by_owner d.0 d.1 d.2 (d.0).owner refl
    where
      by_owner : (first : Deque) (right : List Deque) → m.deques ≡ first ∷ right → (owner : Option ℕ) → first.owner ≡ owner → (worker : ℕ) × IsFirst s.workers word (CanMove s m) worker
      by_owner first right is None o =
          let size : length m.deques ≡ suc (length right) = ap length is in
          first_there s.workers word (CanMove s m) (can_move_or_not s m) 0 some (inr (0, omega (arith, size, some), (first, ap (λ t. slice_get t 0) is, inl o)))
      by_owner first right is (Some w) o =
          let owned : owned_by w m.deques ≡ owned_by w (first ∷ right) = ap (owned_by w) is in
          let one : one_if_owned w first ≡ one_if_same w w = ap (one_if_worker w) o in
          let own = one_same w w refl in
          let some_owned : 0 < owned_by w m.deques = omega (arith, owned, one, own) in
          first_there s.workers word (CanMove s m) (can_move_or_not s m) w (lawful.owners_below w some_owned) (inl some_owned)
