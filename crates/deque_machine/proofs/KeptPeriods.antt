-- Each case of the machine keeps the periods and the births in order.
use Rattle.std.proofs.Common.{◌≡◌, ◌≢◌, ℕ, ◌≤◌, ◌<◌, ◌⊎◌, List, [], ◌∷◌, ◌++◌, length, inl, inr, refl, sym, ap, subst, ◌∙◌, arith, append_assoc, nat_lt, true, true≢false}
use Rattle.std.specs.Prelude.{Option, None, Some, is_some}
use Rattle.dag_order.specs.LabelOrder.{fork_of}
use Rattle.depth_first_run.specs.Passed.Actions.{forks, Action}
use Rattle.depth_first_run.specs.Passed.Runs.{IsDepthFirst}
use Rattle.depth_first_run.specs.Passed.Facts.{label_at, deed_at, IsLive, IsNext}
use Rattle.deque_machine.specs.Lists.{Among, Each}
use Rattle.deque_machine.specs.Books.{Book, booked, one_more, book_of}
use Rattle.deque_machine.proofs.Lists.{each_map, each_from, each_among, each_at, each_join, each_left, each_right, among_here, among_left, among_right, among_wider, among_parts, total_append, one_cases}
use Rattle.deque_machine.proofs.Keeping.{booked_append, closed_same, begun_same}
use Rattle.deque_machine.specs.Moments.{Deque, Moment, threads_in, done_at, owned_by, open_for, one_if_owned, one_if_open, one_if_worker}
use Rattle.deque_machine.specs.Machine.{Setting, Event, Owns, deques_with, books_with, books_closed, IsIdle, new_book, May, steals_beside, takes_over, forks_child, joins_child, allocates_within, allocates_above, releases_words, meets_fault, runs_dummy, ends_above_parent, ends_and_wakes, ends_and_leaves, suspends_top, gives_deque_up}
use Rattle.deque_machine.specs.LawfulOrder.{LawfulOrder, IsRootOrBorn, ParentsFirst, BirthsOf, OnePeriodEach, LawfulPeriods}
use Rattle.deque_machine.proofs.Order.{deque_of}
use Rattle.deque_machine.proofs.Shapes.{in_threads}
use Rattle.deque_machine.proofs.Labels.{fork_is_not_root}
use Rattle.deque_machine.proofs.Counts.{same_worker, counts_stay, counts_leave, none_open, no_other_open}
use Rattle.deque_machine.proofs.Births.{Within, HasOf, born_wider, parents_insert, parents_front, parent_born, live_is_born, owned_kept, owned_parts, owned_join}

some_is_not_none : (w : ℕ) → ¬ (None ≡ Some w)
some_is_not_none w is = true≢false (sym (ap is_some is))

-- a deque that is as it was, or has no owner, or is the worker's and has threads that were born
abbrev pub Comes : List Action → List Deque → ℕ → List ℕ → Deque → Type 0
Comes l deques worker seen d = HasOf deques d ⊎ ((d.owner ≡ None) ⊎ ((d.owner ≡ Some worker) × Each (IsRootOrBorn l seen) d.threads))

as_it_was : (deques : List Deque) (d : Deque) → Among d deques → HasOf deques d
as_it_was deques d there = (d, there, refl, λ t among. among)

-- books of others, with the deques that came
others_kept : (l : List Action) (deques others : List Deque) (worker : ℕ) (seen : List ℕ) → Each (Comes l deques worker seen) others
    → (books : List Book) → Each (λ book. book.owner ≢ Some worker) books
    → Each (λ book. (w : ℕ) → book.owner ≡ Some w → Each (λ d. d.owner ≡ Some w → HasOf deques d) others) books
others_kept l deques others worker seen come books apart =
    each_map (λ book. book.owner ≢ Some worker) (λ book. (w : ℕ) → book.owner ≡ Some w → Each (λ d. d.owner ≡ Some w → HasOf deques d) others) books
    (λ book among other w is.
    each_map (Comes l deques worker seen) (λ d. d.owner ≡ Some w → HasOf deques d) others
    (λ d there comes owned. elim comes [
      | inl has ↦ has
      | inr r ↦ elim r [
        | inl none ↦ absurd (some_is_not_none w (sym none ∙ owned))
        | inr own ↦ absurd (other (is ∙ sym owned ∙ own.0))
      ]
    ]) come) apart

-- births behind an action of a worker
births_run : (l : List Action) (deques others : List Deque) (older newer : List Book) (book : Book) (worker place : ℕ) (after : Option ℕ) → book.owner ≡ Some worker
    → (after ≡ Some worker) ⊎ (after ≡ None)
    → Each (λ b. b.owner ≢ Some worker) older → Each (λ b. b.owner ≢ Some worker) newer
    → Each (Comes l deques worker (booked older ++ (book.ran ++ place ∷ []))) others
    → IsRootOrBorn l (booked older ++ book.ran) (label_at l place)
    → BirthsOf l deques (older ++ book ∷ newer) → BirthsOf l others (one_more older book newer after place)
births_run l deques others older newer book worker place after is or_closed apart_older apart_newer come born births =
    let x : List ℕ = booked older ++ book.ran in
    let s : List ℕ = booked older ++ (book.ran ++ place ∷ []) in
    let b : Book = book_of book after (book.ran ++ place ∷ []) in
    let was : booked (older ++ book ∷ newer) ≡ x ++ booked newer = booked_append older (book ∷ newer) ∙ sym (append_assoc (booked older) book.ran (booked newer)) in
    let behind : booked (older ++ b ∷ newer) ≡ x ++ place ∷ booked newer =
    booked_append older (b ∷ newer) ∙ ap (λ t. booked older ++ t) (append_assoc book.ran (place ∷ []) (booked newer)) ∙ sym (append_assoc (booked older) book.ran (place ∷ booked newer)) in
    let wider : Within x s = λ y there. elim (among_parts y (booked older) book.ran there) [
      | inl o ↦ among_left y (booked older) (book.ran ++ place ∷ []) o
      | inr r ↦ among_right y (booked older) (book.ran ++ place ∷ []) (among_left y book.ran (place ∷ []) r)
    ] in
    let parts = owned_parts l deques [] older (book ∷ newer) births.owned_born in
    record {
      parents_first = subst (ParentsFirst l []) (sym behind) (parents_insert l [] x (booked newer) place
          (λ seen in_seen child deed. born_wider l x seen (label_at l place) (λ y there. in_seen y (inr there)) born)
          (subst (ParentsFirst l []) was births.parents_first));
      owned_born = owned_join l others [] older (b ∷ newer)
          (owned_kept l deques others [] [] older (λ y there. there) (others_kept l deques others worker s come older apart_older) parts.0) (
            (λ w owned.
                let mine : w ≡ worker = elim or_closed [ inl same ↦ same_worker w worker (sym owned ∙ same) | inr none ↦ absurd (some_is_not_none w (sym none ∙ owned)) ] in
                each_map (Comes l deques worker s) (λ d. d.owner ≡ Some w → Each (IsRootOrBorn l s) d.threads) others
                (λ d there comes d_owned. elim comes [
                  | inr r ↦ elim r [ inl none ↦ absurd (some_is_not_none w (sym none ∙ d_owned)) | inr own ↦ own.1 ]
                  | inl e ↦
                      let all : Each (IsRootOrBorn l x) (e.0).threads =
                      each_among (λ d. d.owner ≡ Some worker → Each (IsRootOrBorn l x) d.threads) e.0 deques ((parts.1).0 worker is) e.1 (sym e.2 ∙ d_owned ∙ ap Some mine) in
                      each_from (IsRootOrBorn l s) d.threads (λ t in_d. born_wider l x s t wider (each_among (IsRootOrBorn l x) t (e.0).threads all (e.3 t in_d)))
                ]) come),
            owned_kept l deques others x s newer wider (others_kept l deques others worker s come newer apart_newer) (parts.1).1,
          );
    }

-- births where a worker's period is closed
births_close : (l : List Action) (deques others : List Deque) (older newer : List Book) (book : Book) (worker : ℕ) → book.owner ≡ Some worker
    → Each (λ b. b.owner ≢ Some worker) older → Each (λ b. b.owner ≢ Some worker) newer
    → Each (Comes l deques worker []) others
    → BirthsOf l deques (older ++ book ∷ newer) → BirthsOf l others (older ++ book_of book None book.ran ∷ newer)
births_close l deques others older newer book worker is apart_older apart_newer come births =
    let parts = owned_parts l deques [] older (book ∷ newer) births.owned_born in
    record {
      parents_first = subst (ParentsFirst l []) (sym (closed_same older newer book None)) births.parents_first;
      owned_born = owned_join l others [] older (book_of book None book.ran ∷ newer)
          (owned_kept l deques others [] [] older (λ y there. there) (others_kept l deques others worker [] come older apart_older) parts.0) (
            (λ w owned. absurd (some_is_not_none w owned)),
            owned_kept l deques others (booked older ++ book.ran) (booked older ++ book.ran) newer (λ y there. there) (others_kept l deques others worker [] come newer apart_newer) (parts.1).1,
          );
    }

-- births where a worker begins a period
births_begin : (l : List Action) (deques others : List Deque) (books : List Book) (new : Book) (worker : ℕ) → new.ran ≡ []
    → Each (λ b. b.owner ≢ Some worker) books → Each (Comes l deques worker (booked books)) others
    → Each (λ d. Each (IsRootOrBorn l (booked books)) d.threads) others
    → BirthsOf l deques books → BirthsOf l others (books ++ new ∷ [])
births_begin l deques others books new worker empty apart come all births = record {
  parents_first = subst (ParentsFirst l []) (sym (begun_same books new empty)) births.parents_first;
  owned_born = owned_join l others [] books (new ∷ [])
      (owned_kept l deques others [] [] books (λ y there. there) (others_kept l deques others worker (booked books) come books apart) births.owned_born) (
        (λ w owned. each_map (λ d. Each (IsRootOrBorn l (booked books)) d.threads) (λ d. d.owner ≡ Some w → Each (IsRootOrBorn l (booked books ++ new.ran)) d.threads) others
            (λ d there born d_owned. each_from (IsRootOrBorn l (booked books ++ new.ran)) d.threads
            (λ t in_d. born_wider l (booked books) (booked books ++ new.ran) t (λ y among. among_left y (booked books) new.ran among) (each_among (IsRootOrBorn l (booked books)) t d.threads born in_d))) all),
        tt,
      );
}

module _ (s : Setting) (run : IsDepthFirst s.quota s.list) (m : Moment) (order : LawfulOrder s.list m) (periods : LawfulPeriods s.quota s.list m) where
  module _ (worker : ℕ) (o : Owns m worker) where
    own : Deque
    own = deque_of o.id (Some worker) (o.top ∷ o.under)

    each_period : OnePeriodEach (o.left ++ deque_of o.id (Some worker) (o.top ∷ o.under) ∷ o.right) (o.older ++ o.book ∷ o.newer)
    each_period = subst (λ t. OnePeriodEach (o.left ++ deque_of o.id (Some worker) (o.top ∷ o.under) ∷ o.right) t) o.books_are
        (subst (λ t. OnePeriodEach t m.books) o.deques_are periods.one_each)

    cut_births : BirthsOf s.list (o.left ++ deque_of o.id (Some worker) (o.top ∷ o.under) ∷ o.right) (o.older ++ o.book ∷ o.newer)
    cut_births = subst (λ t. BirthsOf s.list (o.left ++ deque_of o.id (Some worker) (o.top ∷ o.under) ∷ o.right) t) o.books_are
        (subst (λ t. BirthsOf s.list t m.books) o.deques_are periods.births)

    -- the books of others
    pub apart_books : Each (λ b. b.owner ≢ Some worker) o.older × Each (λ b. b.owner ≢ Some worker) o.newer
    apart_books = no_other_open worker o.older o.newer o.book o.open_for_it
        (let same = each_period worker in let most = order.owns_one worker in
        let cut : owned_by worker m.deques ≡ owned_by worker (o.left ++ deque_of o.id (Some worker) (o.top ∷ o.under) ∷ o.right) = ap (owned_by worker) o.deques_are in omega (arith, same, most, cut))

    -- the threads of the worker's deque were born
    own_born : Each (IsRootOrBorn s.list (booked o.older ++ o.book.ran)) (o.top ∷ o.under)
    own_born =
        let ds : List Deque = o.left ++ deque_of o.id (Some worker) (o.top ∷ o.under) ∷ o.right in
        let parts = owned_parts s.list ds [] o.older (o.book ∷ o.newer) (cut_births).owned_born in
        each_at (λ d. d.owner ≡ Some worker → Each (IsRootOrBorn s.list (booked o.older ++ o.book.ran)) d.threads) o.left (deque_of o.id (Some worker) (o.top ∷ o.under)) o.right
        ((parts.1).0 worker o.open_for_it) refl

    -- all deques but the worker's
    sides : (seen : List ℕ) → Each (Comes s.list (o.left ++ deque_of o.id (Some worker) (o.top ∷ o.under) ∷ o.right) worker seen) (o.left ++ o.right)
    sides seen =
        let ds : List Deque = o.left ++ deque_of o.id (Some worker) (o.top ∷ o.under) ∷ o.right in
        each_from (Comes s.list ds worker seen) (o.left ++ o.right)
        (λ d there. inl (as_it_was ds d (among_wider d o.left (deque_of o.id (Some worker) (o.top ∷ o.under)) o.right there)))

    with_middle : (seen : List ℕ) (e : Deque) → Comes s.list (o.left ++ deque_of o.id (Some worker) (o.top ∷ o.under) ∷ o.right) worker seen e
        → Each (Comes s.list (o.left ++ deque_of o.id (Some worker) (o.top ∷ o.under) ∷ o.right) worker seen) (o.left ++ e ∷ o.right)
    with_middle seen e comes =
        let C : Deque → Type 0 = Comes s.list (o.left ++ deque_of o.id (Some worker) (o.top ∷ o.under) ∷ o.right) worker seen in
        each_join C o.left (e ∷ o.right) (each_left C o.left o.right (sides seen)) (comes, each_right C o.left o.right (sides seen))

    module _ (place : ℕ) (next : IsNext s.list (done_at m) o.top place) where
      top_born : IsRootOrBorn s.list (booked o.older ++ o.book.ran) (label_at s.list place)
      top_born = subst (IsRootOrBorn s.list (booked o.older ++ o.book.ran)) (sym next.by) own_born.0

      run_births : (others : List Deque) (after : Option ℕ) → (after ≡ Some worker) ⊎ (after ≡ None)
          → Each (Comes s.list (o.left ++ deque_of o.id (Some worker) (o.top ∷ o.under) ∷ o.right) worker (booked o.older ++ (o.book.ran ++ place ∷ []))) others
          → BirthsOf s.list others (books_with o after place)
      run_births others after or_closed come =
          births_run s.list (o.left ++ deque_of o.id (Some worker) (o.top ∷ o.under) ∷ o.right) others o.older o.newer o.book worker place after o.open_for_it or_closed
          apart_books.0 apart_books.1 come top_born cut_births

      wider : Within (booked o.older ++ o.book.ran) (booked o.older ++ (o.book.ran ++ place ∷ []))
      wider y there = elim (among_parts y (booked o.older) o.book.ran there) [
        | inl b ↦ among_left y (booked o.older) (o.book.ran ++ place ∷ []) b
        | inr r ↦ among_right y (booked o.older) (o.book.ran ++ place ∷ []) (among_left y o.book.ran (place ∷ []) r)
      ]

      still_born : (threads : List (List ℕ)) → Each (IsRootOrBorn s.list (booked o.older ++ o.book.ran)) threads
          → Each (IsRootOrBorn s.list (booked o.older ++ (o.book.ran ++ place ∷ []))) threads
      still_born threads all = each_map (IsRootOrBorn s.list (booked o.older ++ o.book.ran)) (IsRootOrBorn s.list (booked o.older ++ (o.book.ran ++ place ∷ []))) threads
          (λ t there. born_wider s.list (booked o.older ++ o.book.ran) (booked o.older ++ (o.book.ran ++ place ∷ [])) t wider) all

      -- an own action: deques as they were
      pub plain_births : BirthsOf s.list m.deques (books_with o (Some worker) place)
      plain_births = subst (λ t. BirthsOf s.list t (books_with o (Some worker) place)) (sym o.deques_are)
          (run_births (o.left ++ deque_of o.id (Some worker) (o.top ∷ o.under) ∷ o.right) (Some worker) (inl refl)
          (with_middle (booked o.older ++ (o.book.ran ++ place ∷ [])) (deque_of o.id (Some worker) (o.top ∷ o.under))
          (inl (as_it_was (o.left ++ deque_of o.id (Some worker) (o.top ∷ o.under) ∷ o.right) (deque_of o.id (Some worker) (o.top ∷ o.under)) (among_here (deque_of o.id (Some worker) (o.top ∷ o.under)) o.left o.right)))))

      pub threads_births : (threads : List (List ℕ)) → Each (IsRootOrBorn s.list (booked o.older ++ (o.book.ran ++ place ∷ []))) threads
          → BirthsOf s.list (deques_with o (Some worker) threads) (books_with o (Some worker) place)
      threads_births threads all = run_births (deques_with o (Some worker) threads) (Some worker) (inl refl)
          (with_middle (booked o.older ++ (o.book.ran ++ place ∷ [])) (deque_of o.id (Some worker) threads) (inr (inr (refl, all))))

      pub fork_births : (child : ℕ) → deed_at s.list place ≡ forks child → BirthsOf s.list (deques_with o (Some worker) (fork_of o.top child ∷ o.top ∷ o.under)) (books_with o (Some worker) place)
      fork_births child deed = threads_births (fork_of o.top child ∷ o.top ∷ o.under) (
        inr (place, child, among_right place (booked o.older) (o.book.ran ++ place ∷ []) (among_here place o.book.ran []), deed, ap (λ t. fork_of t child) (sym next.by)),
        still_born (o.top ∷ o.under) own_born,
      )

      pub under_births : BirthsOf s.list (deques_with o (Some worker) o.under) (books_with o (Some worker) place)
      under_births = threads_births o.under (still_born o.under own_born.1)

      pub dummy_births : BirthsOf s.list (deques_with o None (o.top ∷ o.under)) (books_with o None place)
      dummy_births = run_births (deques_with o None (o.top ∷ o.under)) None (inr refl)
          (with_middle (booked o.older ++ (o.book.ran ++ place ∷ [])) (deque_of o.id None (o.top ∷ o.under)) (inr (inl refl)))

      pub leave_births : BirthsOf s.list (o.left ++ o.right) (books_with o None place)
      leave_births = run_births (o.left ++ o.right) None (inr refl) (sides (booked o.older ++ (o.book.ran ++ place ∷ [])))

      pub wake_births : (parent : List ℕ) (child : ℕ) → o.top ≡ fork_of parent child → BirthsOf s.list (deques_with o (Some worker) (parent ∷ [])) (books_with o (Some worker) place)
      wake_births parent child is = threads_births (parent ∷ []) (
        elim own_born.0 [
          | inl root ↦ absurd (fork_is_not_root parent child (sym is ∙ root))
          | inr b ↦ parent_born s.list [] (booked o.older ++ o.book.ran) o.top parent child is
              (parents_front s.list [] (booked o.older ++ o.book.ran) (booked o.newer)
              (subst (ParentsFirst s.list []) (booked_append o.older (o.book ∷ o.newer) ∙ sym (append_assoc (booked o.older) o.book.ran (booked o.newer))) (cut_births).parents_first))
              b.0 b.1 b.2 b.3 b.4 (booked o.older ++ (o.book.ran ++ place ∷ [])) (λ y none. absurd none) wider
        ],
        tt,
      )

    pub close_births : (others : List Deque) → Each (Comes s.list (o.left ++ deque_of o.id (Some worker) (o.top ∷ o.under) ∷ o.right) worker []) others
        → BirthsOf s.list others (books_closed o)
    close_births others come = births_close s.list (o.left ++ deque_of o.id (Some worker) (o.top ∷ o.under) ∷ o.right) others o.older o.newer o.book worker o.open_for_it
        apart_books.0 apart_books.1 come cut_births

    -- the counts
    stay_counts : (threads : List (List ℕ)) (place : ℕ) → OnePeriodEach (deques_with o (Some worker) threads) (books_with o (Some worker) place)
    stay_counts threads place = counts_stay o.left o.right (deque_of o.id (Some worker) (o.top ∷ o.under)) (deque_of o.id (Some worker) threads) o.older o.newer o.book
        (book_of o.book (Some worker) (o.book.ran ++ place ∷ [])) each_period
        (λ w. let same : one_if_worker w o.book.owner ≡ one_if_worker w (Some worker) = ap (one_if_worker w) o.open_for_it in omega (arith, same))

    closed_counts : (ran : List ℕ) → OnePeriodEach (deques_with o None (o.top ∷ o.under)) (o.older ++ book_of o.book None ran ∷ o.newer)
    closed_counts ran = counts_stay o.left o.right (deque_of o.id (Some worker) (o.top ∷ o.under)) (deque_of o.id None (o.top ∷ o.under)) o.older o.newer o.book (book_of o.book None ran) each_period
        (λ w. let same : one_if_worker w o.book.owner ≡ one_if_worker w (Some worker) = ap (one_if_worker w) o.open_for_it in omega (arith, same))

    leave_counts : (ran : List ℕ) → OnePeriodEach (o.left ++ o.right) (o.older ++ book_of o.book None ran ∷ o.newer)
    leave_counts ran = counts_leave o.left o.right (deque_of o.id (Some worker) (o.top ∷ o.under)) o.older o.newer o.book (book_of o.book None ran) each_period
        (λ w. let same : one_if_worker w o.book.owner ≡ one_if_worker w (Some worker) = ap (one_if_worker w) o.open_for_it in omega (arith, same))

    same_counts : (place : ℕ) → OnePeriodEach m.deques (books_with o (Some worker) place)
    same_counts place = subst (λ t. OnePeriodEach t (books_with o (Some worker) place)) (sym o.deques_are) (stay_counts (o.top ∷ o.under) place)

  -- for a thief: the threads of all deques were born, and no period is open for it
  live_born : (deques : List Deque) (others : List Deque) → m.deques ≡ deques → Each (λ d. (t : List ℕ) → Among t d.threads → Among t (threads_in deques)) others
      → Each (λ d. Each (IsRootOrBorn s.list (booked m.books)) d.threads) others
  live_born deques others is inside =
      each_map (λ d. (t : List ℕ) → Among t d.threads → Among t (threads_in deques)) (λ d. Each (IsRootOrBorn s.list (booked m.books)) d.threads) others
      (λ d there in_all. each_from (IsRootOrBorn s.list (booked m.books)) d.threads (λ t among. live_is_born s.quota s.list run m.books (periods.lawful).first_actions t
      (each_among (IsLive s.list (done_at m)) t (threads_in m.deques) order.all_live (subst (λ u. Among t (threads_in u)) (sym is) (in_all t among))))) inside

  idle_books : (worker : ℕ) → IsIdle s m worker → Each (λ b. b.owner ≢ Some worker) m.books
  idle_books worker idle = none_open worker m.books (periods.one_each worker ∙ idle.owns_none)

  pub kept_births : (worker : ℕ) (event : Event) (after : Moment) → May s m worker event after → BirthsOf s.list after.deques after.books
  kept_births worker event after (steals_beside left right victim first others bottom id idle reach deques_are threads_are new_id) =
      let ds : List Deque = left ++ victim ∷ right in
      let e : Deque = deque_of victim.id victim.owner (first ∷ others) in let n : Deque = deque_of id (Some worker) (bottom ∷ []) in
      let wide : (d : Deque) → Among d (left ++ right) → Among d ds = λ d there. among_wider d left victim right there in
      let front : (t : List ℕ) → Among t (first ∷ others) → Among t victim.threads = λ t there. subst (λ u. Among t u) (sym threads_are) (among_left t (first ∷ others) (bottom ∷ []) there) in
      let last : (t : List ℕ) → Among t (bottom ∷ []) → Among t victim.threads = λ t there. subst (λ u. Among t u) (sym threads_are) (among_right t (first ∷ others) (bottom ∷ []) there) in
      let C : Deque → Type 0 = Comes s.list ds worker (booked m.books) in
      let I : Deque → Type 0 = λ d. (t : List ℕ) → Among t d.threads → Among t (threads_in ds) in
      let in_victim : (t : List ℕ) → Among t victim.threads → Among t (threads_in ds) = λ t there. in_threads t victim ds (among_here victim left right) there in
      let inside : Each I (left ++ e ∷ n ∷ right) = each_join I left (e ∷ n ∷ right)
      (each_from I left (λ d there t among. in_threads t d ds (wide d (among_left d left right there)) among))
      ((λ t there. in_victim t (front t there)), ((λ t there. in_victim t (last t there)), each_from I right (λ d there t among. in_threads t d ds (wide d (among_right d left right there)) among))) in
      let born : Each (λ d. Each (IsRootOrBorn s.list (booked m.books)) d.threads) (left ++ e ∷ n ∷ right) = live_born ds (left ++ e ∷ n ∷ right) deques_are inside in
      births_begin s.list ds (left ++ e ∷ n ∷ right) m.books (new_book worker true) worker refl (idle_books worker idle)
      (each_join C left (e ∷ n ∷ right) (each_from C left (λ d there. inl (as_it_was ds d (wide d (among_left d left right there))))) (
        inl (victim, among_here victim left right, refl, front),
        (
          inr (inr (refl, (each_right (λ d. Each (IsRootOrBorn s.list (booked m.books)) d.threads) left (e ∷ n ∷ right) born).1.0)),
          each_from C right (λ d there. inl (as_it_was ds d (wide d (among_right d left right there)))),
        ),
      ))
      born (subst (λ t. BirthsOf s.list t m.books) deques_are periods.births)
  kept_births worker event after (takes_over left right thread id idle reach deques_are) =
      let d : Deque = deque_of id None (thread ∷ []) in let e : Deque = deque_of id (Some worker) (thread ∷ []) in
      let ds : List Deque = left ++ d ∷ right in
      let wide : (d : Deque) → Among d (left ++ right) → Among d ds = λ x there. among_wider x left d right there in
      let C : Deque → Type 0 = Comes s.list ds worker (booked m.books) in
      let I : Deque → Type 0 = λ d. (t : List ℕ) → Among t d.threads → Among t (threads_in ds) in
      let inside : Each I (left ++ e ∷ right) = each_join I left (e ∷ right)
      (each_from I left (λ d there t among. in_threads t d ds (wide d (among_left d left right there)) among))
      ((λ t there. in_threads t d ds (among_here d left right) there), each_from I right (λ d there t among. in_threads t d ds (wide d (among_right d left right there)) among)) in
      let born : Each (λ d. Each (IsRootOrBorn s.list (booked m.books)) d.threads) (left ++ e ∷ right) = live_born ds (left ++ e ∷ right) deques_are inside in
      births_begin s.list ds (left ++ e ∷ right) m.books (new_book worker (nat_lt 0 (length left))) worker refl (idle_books worker idle)
      (each_join C left (e ∷ right) (each_from C left (λ d there. inl (as_it_was ds d (wide d (among_left d left right there))))) (
        inr (inr (refl, (each_right (λ d. Each (IsRootOrBorn s.list (booked m.books)) d.threads) left (e ∷ right) born).0)),
        each_from C right (λ d there. inl (as_it_was ds d (wide d (among_right d left right there)))),
      ))
      born (subst (λ t. BirthsOf s.list t m.books) deques_are periods.births)
  kept_births worker event after (forks_child o place child at fits) = fork_births worker o place at.next child at.deed_is
  kept_births worker event after (joins_child o place child at has) = plain_births worker o place at.next
  kept_births worker event after (allocates_within o place at small fits) = plain_births worker o place at.next
  kept_births worker event after (allocates_above o place at large) = plain_births worker o place at.next
  kept_births worker event after (releases_words o place at) = plain_births worker o place at.next
  kept_births worker event after (meets_fault o place at) = plain_births worker o place at.next
  kept_births worker event after (runs_dummy o place at) = dummy_births worker o place at.next
  kept_births worker event after (ends_above_parent o place child parent below at under_is top_is) = under_births worker o place at.next
  kept_births worker event after (ends_and_wakes o place before later parent at under_is waiting_is top_is) = wake_births worker o place at.next parent.thread parent.child top_is
  kept_births worker event after (ends_and_leaves o place at under_is unwaited) = leave_births worker o place at.next
  kept_births worker event after (suspends_top o place child at not_ended under_is) = close_births worker o (o.left ++ o.right) (sides worker o [])
  kept_births worker event after (gives_deque_up o) =
      close_births worker o (deques_with o None (o.top ∷ o.under)) (with_middle worker o [] (deque_of o.id None (o.top ∷ o.under)) (inr (inl refl)))

  pub kept_counts : (worker : ℕ) (event : Event) (after : Moment) → May s m worker event after → OnePeriodEach after.deques after.books
  kept_counts worker event after (steals_beside left right victim first others bottom id idle reach deques_are threads_are new_id) = λ w.
      let e : Deque = deque_of victim.id victim.owner (first ∷ others) in let n : Deque = deque_of id (Some worker) (bottom ∷ []) in
      let was : open_for w m.books ≡ owned_by w (left ++ victim ∷ right) = periods.one_each w ∙ ap (owned_by w) deques_are in
      let a = total_append (one_if_owned w) left (victim ∷ right) in let b = total_append (one_if_owned w) left (e ∷ n ∷ right) in
      let c = total_append (one_if_open w) m.books (new_book worker true ∷ []) in omega (arith, was, a, b, c)
  kept_counts worker event after (takes_over left right thread id idle reach deques_are) = λ w.
      let d : Deque = deque_of id None (thread ∷ []) in let e : Deque = deque_of id (Some worker) (thread ∷ []) in
      let was : open_for w m.books ≡ owned_by w (left ++ d ∷ right) = periods.one_each w ∙ ap (owned_by w) deques_are in
      let a = total_append (one_if_owned w) left (d ∷ right) in let b = total_append (one_if_owned w) left (e ∷ right) in
      let c = total_append (one_if_open w) m.books (new_book worker (nat_lt 0 (length left)) ∷ []) in omega (arith, was, a, b, c)
  kept_counts worker event after (forks_child o place child at fits) = stay_counts worker o (fork_of o.top child ∷ o.top ∷ o.under) place
  kept_counts worker event after (joins_child o place child at has) = same_counts worker o place
  kept_counts worker event after (allocates_within o place at small fits) = same_counts worker o place
  kept_counts worker event after (allocates_above o place at large) = same_counts worker o place
  kept_counts worker event after (releases_words o place at) = same_counts worker o place
  kept_counts worker event after (meets_fault o place at) = same_counts worker o place
  kept_counts worker event after (runs_dummy o place at) = closed_counts worker o (o.book.ran ++ place ∷ [])
  kept_counts worker event after (ends_above_parent o place child parent below at under_is top_is) = stay_counts worker o o.under place
  kept_counts worker event after (ends_and_wakes o place before later parent at under_is waiting_is top_is) = stay_counts worker o (parent.thread ∷ []) place
  kept_counts worker event after (ends_and_leaves o place at under_is unwaited) = leave_counts worker o (o.book.ran ++ place ∷ [])
  kept_counts worker event after (suspends_top o place child at not_ended under_is) = leave_counts worker o o.book.ran
  kept_counts worker event after (gives_deque_up o) = closed_counts worker o o.book.ran

  -- owners are workers
  fewer_open : (worker : ℕ) (o : Owns m worker) (owner : Option ℕ) (ran : List ℕ) → ((w : ℕ) → one_if_worker w owner ≤ one_if_worker w (Some worker))
      → (w : ℕ) → 0 < open_for w (o.older ++ book_of o.book owner ran ∷ o.newer) → 0 < open_for w m.books
  fewer_open worker o owner ran less w some =
      let l = less w in
      let same : one_if_worker w o.book.owner ≡ one_if_worker w (Some worker) = ap (one_if_worker w) o.open_for_it in
      let cut : open_for w m.books ≡ open_for w (o.older ++ o.book ∷ o.newer) = ap (open_for w) o.books_are in
      let a = total_append (one_if_open w) o.older (o.book ∷ o.newer) in let b = total_append (one_if_open w) o.older (book_of o.book owner ran ∷ o.newer) in
      omega (arith, l, same, cut, a, b, some)

  stays_open : (worker : ℕ) (o : Owns m worker) (place : ℕ) (w : ℕ) → 0 < open_for w (books_with o (Some worker) place) → 0 < open_for w m.books
  stays_open worker o place w some = fewer_open worker o (Some worker) (o.book.ran ++ place ∷ []) (λ w. omega arith) w some

  is_closed : (worker : ℕ) (o : Owns m worker) (ran : List ℕ) (w : ℕ) → 0 < open_for w (o.older ++ book_of o.book None ran ∷ o.newer) → 0 < open_for w m.books
  is_closed worker o ran w some = fewer_open worker o None ran (λ w. omega arith) w some

  begins_open : (worker : ℕ) (new : Book) → IsIdle s m worker → new.owner ≡ Some worker → (w : ℕ) → 0 < open_for w (m.books ++ new ∷ []) → (w < s.workers) ⊎ (0 < open_for w m.books)
  begins_open worker new idle is w some =
      let a = total_append (one_if_open w) m.books (new ∷ []) in
      let same : one_if_worker w new.owner ≡ one_if_worker w (Some worker) = ap (one_if_worker w) is in
      elim (one_cases w worker) [
        | inl here ↦ inl (let below = idle.is_worker in let e : w ≡ worker = here.0 in omega arith)
        | inr other ↦ let none = other.1 in inr (omega (arith, a, same, none, some))
      ]

  open_before : (worker : ℕ) (event : Event) (after : Moment) → May s m worker event after → (w : ℕ) → 0 < open_for w after.books → (w < s.workers) ⊎ (0 < open_for w m.books)
  open_before worker event after (steals_beside left right victim first others bottom id idle reach deques_are threads_are new_id) = begins_open worker (new_book worker true) idle refl
  open_before worker event after (takes_over left right thread id idle reach deques_are) = begins_open worker (new_book worker (nat_lt 0 (length left))) idle refl
  open_before worker event after (forks_child o place child at fits) = λ w some. inr (stays_open worker o place w some)
  open_before worker event after (joins_child o place child at has) = λ w some. inr (stays_open worker o place w some)
  open_before worker event after (allocates_within o place at small fits) = λ w some. inr (stays_open worker o place w some)
  open_before worker event after (allocates_above o place at large) = λ w some. inr (stays_open worker o place w some)
  open_before worker event after (releases_words o place at) = λ w some. inr (stays_open worker o place w some)
  open_before worker event after (meets_fault o place at) = λ w some. inr (stays_open worker o place w some)
  open_before worker event after (runs_dummy o place at) = λ w some. inr (is_closed worker o (o.book.ran ++ place ∷ []) w some)
  open_before worker event after (ends_above_parent o place child parent below at under_is top_is) = λ w some. inr (stays_open worker o place w some)
  open_before worker event after (ends_and_wakes o place before later parent at under_is waiting_is top_is) = λ w some. inr (stays_open worker o place w some)
  open_before worker event after (ends_and_leaves o place at under_is unwaited) = λ w some. inr (is_closed worker o (o.book.ran ++ place ∷ []) w some)
  open_before worker event after (suspends_top o place child at not_ended under_is) = λ w some. inr (is_closed worker o o.book.ran w some)
  open_before worker event after (gives_deque_up o) = λ w some. inr (is_closed worker o o.book.ran w some)

  pub kept_workers : ((w : ℕ) → 0 < owned_by w m.deques → w < s.workers) → (worker : ℕ) (event : Event) (after : Moment) → May s m worker event after
      → (w : ℕ) → 0 < owned_by w after.deques → w < s.workers
  kept_workers were worker event after may w some =
      let same = kept_counts worker event after may w in
      elim (open_before worker event after may w (omega (arith, same, some))) [
        | inl below ↦ below
        | inr before ↦ let each = periods.one_each w in were w (omega (arith, each, before))
      ]
