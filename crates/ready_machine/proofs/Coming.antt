-- What the rules want of a worker may come, and while the root has not ended it is somebody's turn.
use Rattle.std.proofs.Common.{◌≡◌, ◌≢◌, ℕ, suc, ◌+◌, ◌%◌, ◌≤◌, ◌<◌, ◌⊎◌, List, [], ◌∷◌, ◌++◌, inl, inr, refl, sym, ap, subst, ◌∙◌, arith}
use Rattle.std.specs.Prelude.{None, Some}
use Rattle.std.proofs.lemmas.Bool.{cases_lt, cases_eq}
use Rattle.std.proofs.Math.Nat.{mod-lt, mod-eq_of_lt}
use Rattle.dag_order.specs.LabelOrder.{fork_of}
use Rattle.depth_first_list.specs.Actions.{Deed, forks, joins, allocates, releases, dummy, faults, ends, record_words}
use Rattle.deque_machine.specs.Books.{charged}
use Rattle.depth_first_list.specs.Runs.{IsDepthFirst}
use Rattle.depth_first_list.specs.Facts.{deed_at}
use Rattle.deque_machine.specs.Lists.{Each, total}
use Rattle.deque_machine.proofs.Lists.{same_head, same_tail, cons_is_not_nil, each_left, each_right, one_other}
use Rattle.deque_machine.specs.Moments.{Deque, Moment, moment_of, deque_of, owned_by, with_id, one_if_id}
use Rattle.deque_machine.specs.Machine.{Setting, Event, does, Owns, IsAtTop, booked_with, books_with, May, steals_beside, takes_over, forks_child, joins_child, allocates_within, allocates_above, releases_words, meets_fault, runs_dummy, ends_above_parent, ends_and_wakes, ends_and_leaves, suspends_top, gives_deque_up}
use Rattle.deque_machine.specs.Play.{IsFirst, CanMove}
use Rattle.deque_machine.proofs.KeptOrder.{own_alloc, own_release, own_dummy, own_fault}
use Rattle.deque_machine.proofs.LiveThreads.{join_is_no_fork}
use Rattle.deque_machine.proofs.OneAction.{end_is_no_fork}
use Rattle.deque_machine.proofs.Progress.{wanted_comes}
use Rattle.deque_machine.proofs.Movers.{Decided, first_there, mover_wants, somebody_moves}
use Rattle.ready_machine.specs.Entries.{entry, IsEntry, IsLeastFree, IsReadyList}
use Rattle.ready_machine.specs.ReadyMachine.{IsShared, MayReady, takes, forks_left, as_with_deques}
use Rattle.ready_machine.specs.ReadyPlay.{WantsReady, a_take, of_its_entry}
use Rattle.ready_machine.specs.Laws.{AllButForksAreShared, ForksAreCut}
use Rattle.ready_machine.specs.PlayLaws.{ReadyWantedMayCome, ReadySomebodysTurn}
use Rattle.ready_machine.proofs.Sharing.{take_is_theft}
use Rattle.ready_machine.proofs.Cuts.{IsSameCut, one_only_cut}
use Rattle.ready_machine.proofs.Agreeing.{can_go, can_move, wants_ready}

-- there is a least id that no entry has
sum_of_ids : List Deque → ℕ
sum_of_ids ds = total (λ d. d.id) ds

above_all : (ds : List Deque) (i : ℕ) → sum_of_ids ds < i → with_id i ds ≡ 0
unfolding sum_of_ids
above_all [] i lt = refl
above_all (d ∷ ds) i lt =
    let here : one_if_id i d ≡ 0 = one_other i d.id (λ same. omega (arith, lt, same)) in
    let rest = above_all ds i (omega (arith, lt)) in omega (arith, here, rest)

free_or_not : (ds : List Deque) (i : ℕ) → Decided (with_id i ds ≡ 0)
free_or_not ds i = cases_eq (with_id i ds) 0

pub least_free : (ds : List Deque) → (id : ℕ) × IsLeastFree ds id
least_free ds =
    let n : ℕ = suc (suc (sum_of_ids ds)) in
    let found = first_there n 0 (λ i. with_id i ds ≡ 0) (free_or_not ds) (suc (sum_of_ids ds)) (omega arith) (above_all ds (suc
    (sum_of_ids ds)) (omega arith)) in
    let first = found.1 in
    let few = first.few in
    let at : found.0 ≡ first.turns = first.is ∙ place_itself n first.turns first.few in (
      found.0,
      record {
        free = first.passes;
        none_less = λ i lt. some_of (with_id i ds)
            (λ none. first.none_before i (omega (arith, lt, at)) (subst (λ t. with_id t ds ≡ 0) (sym (place_itself n i (omega
            (arith, lt, at, few)))) none));
      },
    )
  where
    place_itself : (n e : ℕ) → e < n → (0 + e) % n ≡ e
    place_itself n e lt = let same : 0 + e ≡ e = omega arith in ap (λ t. t % n) same ∙ mod-eq_of_lt lt

    some_of : (n : ℕ) → n ≢ 0 → 0 < n
    some_of n some = elim (cases_lt 0 n) [ inl lt ↦ lt | inr le ↦ absurd (some (omega (arith, le))) ]

module _ (s : Setting) (m : Moment) (ready : IsReadyList s m) (worker : ℕ) where
  not_a_fork : (place : ℕ) (deed : Deed) → deed_at s.list place ≡ deed → ((child : ℕ) → deed ≢ forks child) → IsShared s (does place)
  not_a_fork place deed is none child fork = none child (sym is ∙ fork)

  -- a case of the machine of deques for a worker that runs an entry comes in the ready list too, a Fork with the deque cut in two
  pub comes : 0 < owned_by worker m.deques → (event : Event) (after : Moment) → May s m worker event after
      → (next : Moment) × MayReady s m worker event next
  comes some event after (steals_beside left right victim first others bottom id idle reach deques_are threads_are new_id) =
      let none = idle.owns_none in absurd (omega (arith, some, none))
  comes some event after (takes_over left right thread id idle reach deques_are) = let none = idle.owns_none in absurd (omega
      (arith, some, none))
  comes some event after (forks_child o place child at fits) =
      let least = least_free m.deques in (_, forks_left o place child least.0 at fits least.1)
  comes some event after (joins_child o place child at has) = (
    after,
    as_with_deques event after (not_a_fork place (joins child) at.deed_is (join_is_no_fork child))
        (joins_child o place child at has),
  )
  comes some event after (allocates_within o place at small fits) =
      (after, as_with_deques event after (not_a_fork place allocates at.deed_is own_alloc.no_fork) (allocates_within o place at small fits))
  comes some event after (allocates_above o place at large) =
      (after, as_with_deques event after (not_a_fork place allocates at.deed_is own_alloc.no_fork) (allocates_above o place at large))
  comes some event after (releases_words o place at) =
      (after, as_with_deques event after (not_a_fork place releases at.deed_is own_release.no_fork) (releases_words o place at))
  comes some event after (meets_fault o place at) =
      (after, as_with_deques event after (not_a_fork place faults at.deed_is own_fault.no_fork) (meets_fault o place at))
  comes some event after (runs_dummy o place at) =
      (after, as_with_deques event after (not_a_fork place dummy at.deed_is own_dummy.no_fork) (runs_dummy o place at))
  comes some event after (ends_above_parent o place child parent below at under_is top_is) = (
    after,
    as_with_deques event after (not_a_fork place ends at.deed_is end_is_no_fork)
        (ends_above_parent o place child parent below at under_is top_is),
  )
  comes some event after (ends_and_wakes o place before later parent at under_is waiting_is top_is) = (
    after,
    as_with_deques event after (not_a_fork place ends at.deed_is end_is_no_fork)
        (ends_and_wakes o place before later parent at under_is waiting_is top_is),
  )
  comes some event after (ends_and_leaves o place at under_is unwaited) =
      (after, as_with_deques event after (not_a_fork place ends at.deed_is end_is_no_fork) (ends_and_leaves o place at under_is unwaited))
  comes some event after (suspends_top o place child at not_ended under_is) =
      (after, as_with_deques event after tt (suspends_top o place child at not_ended under_is))
  comes some event after (gives_deque_up o) = (after, as_with_deques event after tt (gives_deque_up o))

  -- a Fork of the machine of deques, by the deque of two that it leaves
  IsTheFork : ℕ → Event → Type 0
  IsTheFork place (does other) = other ≡ place
  IsTheFork place other = ⊥

  no_other : (p : ℕ) (deed : Deed) → deed_at s.list p ≡ deed → ((child : ℕ) → deed ≢ forks child) → (place child : ℕ) → does p ≡ does place
      → deed_at s.list place ≡ forks child → ⊥
  unfolding IsTheFork
  no_other p deed mine none place child is fork =
      let same : p ≡ place = subst (IsTheFork place) (sym is) refl in none child (sym mine ∙ ap (deed_at s.list) same ∙ fork)

  pub no_entry : (id : ℕ) (upper lower : List ℕ) (under : List (List ℕ)) → ¬ IsEntry (deque_of id (Some worker) (upper ∷ lower ∷ under))
  no_entry id upper lower under is = cons_is_not_nil lower under (same_tail upper is.0 (lower ∷ under) [] is.1)

  pub each_beside : (o : Owns m worker) → Each IsEntry o.left × Each IsEntry o.right
  each_beside o =
      let all : Each IsEntry (o.left ++ deque_of o.id (Some worker) (o.top ∷ o.under) ∷ o.right) = subst
      (λ t. Each IsEntry t) o.deques_are ready.entries in (
        each_left IsEntry o.left (deque_of o.id (Some worker) (o.top ∷ o.under) ∷ o.right) all,
        (each_right IsEntry o.left (deque_of o.id (Some worker) (o.top ∷ o.under) ∷ o.right) all).1,
      )

  -- what the machine of deques does at a Fork
  pub record IsMachinesFork (after : Moment) : Type 0 where
    pub owner : Owns m worker
    pub place : ℕ
    pub child : ℕ
    pub at : IsAtTop s m owner.top place (forks child)
    pub fits : charged s.quota s.list owner.book.ran + record_words ≤ s.quota
    pub after_is : after ≡ booked_with m worker owner (fork_of owner.top child ∷ owner.top ∷ owner.under) place

  pub machines_fork : (event : Event) (after : Moment) → May s m worker event after → (place child : ℕ) → event ≡ does place
      → deed_at s.list place ≡ forks child → (fork : IsMachinesFork after) × (fork.place ≡ place)
  unfolding IsTheFork
  machines_fork event after (steals_beside l r victim first others bottom i idle reach deques_are threads_are new_id) place child is deed =
      absurd (subst (IsTheFork place) (sym is) refl)
  machines_fork event after (takes_over l r t i idle reach deques_are) place child is deed = absurd (subst (IsTheFork place) (sym is) refl)
  machines_fork event after (forks_child o p c at fits) place child is deed =
      (record { owner = o; place = p; child = c; at = at; fits = fits; after_is = refl }, subst (IsTheFork place) (sym is) refl)
  machines_fork event after (joins_child o p c at has) place child is deed = absurd (no_other p (joins c) at.deed_is
      (join_is_no_fork c) place child is deed)
  machines_fork event after (allocates_within o p at small fits) place child is deed = absurd
      (no_other p allocates at.deed_is own_alloc.no_fork place child is deed)
  machines_fork event after (allocates_above o p at large) place child is deed = absurd
      (no_other p allocates at.deed_is own_alloc.no_fork place child is deed)
  machines_fork event after (releases_words o p at) place child is deed = absurd
      (no_other p releases at.deed_is own_release.no_fork place child is deed)
  machines_fork event after (meets_fault o p at) place child is deed = absurd
      (no_other p faults at.deed_is own_fault.no_fork place child is deed)
  machines_fork event after (runs_dummy o p at) place child is deed = absurd
      (no_other p dummy at.deed_is own_dummy.no_fork place child is deed)
  machines_fork event after (ends_above_parent o p c parent below at under_is top_is) place child is deed = absurd
      (no_other p ends at.deed_is end_is_no_fork place child is deed)
  machines_fork event after (ends_and_wakes o p before later parent at under_is waiting_is top_is) place child is deed = absurd
      (no_other p ends at.deed_is end_is_no_fork place child is deed)
  machines_fork event after (ends_and_leaves o p at under_is unwaited) place child is deed = absurd
      (no_other p ends at.deed_is end_is_no_fork place child is deed)
  machines_fork event after (suspends_top o p c at not_ended under_is) place child is deed = absurd (subst (IsTheFork place) (sym is) refl)
  machines_fork event after (gives_deque_up o) place child is deed = absurd (subst (IsTheFork place) (sym is) refl)

  fork_cut : (place child : ℕ) (after : Moment) → May s m worker (does place) after → deed_at s.list place ≡ forks child
      → (left right : List Deque) (id new : ℕ) (thread : List ℕ) → IsLeastFree m.deques new
      → after.deques ≡ left ++ deque_of id (Some worker) (fork_of thread child ∷ thread ∷ []) ∷ right
      → MayReady s m worker (does place)
      (moment_of (left ++ entry id (Some worker) (fork_of thread child) ∷ entry new None thread ∷ right) after.waiting after.books)
  fork_cut place child after may deed left right id new thread least are =
      let found = machines_fork (does place) after may place child refl deed in
      let f : IsMachinesFork after = found.0 in
      let o : Owns m worker = f.owner in
      let both : Deque = deque_of id (Some worker) (fork_of thread child ∷ thread ∷ []) in
      let forked : Deque = deque_of o.id (Some worker) (fork_of o.top f.child ∷ o.top ∷ o.under) in
      let others = each_beside o in
      let cut : IsSameCut o.left o.right left right forked both = one_only_cut IsEntry o.left o.right left right forked both
      (ap (λ x. x.deques) (sym f.after_is) ∙ are) others.0 others.1
      (no_entry o.id (fork_of o.top f.child) o.top o.under) (no_entry id (fork_of thread child) thread []) in
      let ids : o.id ≡ id = ap (λ d. d.id) cut.heres in
      let threads : fork_of o.top f.child ∷ o.top ∷ o.under ≡ fork_of thread child ∷ thread ∷ [] = ap (λ d. d.threads) cut.heres in
      let upper : fork_of o.top f.child ≡ fork_of thread child = same_head (fork_of o.top f.child) (fork_of thread child)
      (o.top ∷ o.under) (thread ∷ []) threads in
      let lower : o.top ≡ thread = same_head o.top thread o.under []
      (same_tail (fork_of o.top f.child) (fork_of thread child) (o.top ∷ o.under) (thread ∷ []) threads) in
      let parted : moment_of (o.left ++ entry o.id (Some worker) (fork_of o.top f.child) ∷ entry new None o.top ∷ o.right) m.waiting
      (books_with o (Some worker) f.place)
      ≡ moment_of (left ++ entry id (Some worker) (fork_of thread child) ∷ entry new None thread ∷ right) after.waiting after.books =
      λ i. moment_of (cut.lefts i ++ entry (ids i) (Some worker) (upper i) ∷ entry new None (lower i) ∷ cut.rights i)
      ((sym f.after_is) i).waiting ((sym f.after_is) i).books in
      subst (MayReady s m worker (does place)) parted
      (subst (λ p. MayReady s m worker (does p)
      (moment_of (o.left ++ entry o.id (Some worker) (fork_of o.top f.child) ∷ entry new None o.top ∷ o.right) m.waiting (books_with o
      (Some worker) f.place)))
      found.1 (forks_left o f.place f.child new f.at f.fits least))

-- the event that a Take is, and any shared one, is no Fork
abbrev pub IsForkEvent : Setting → Event → Type 0
IsForkEvent s event = (place child : ℕ) × (event ≡ does place) × (deed_at s.list place ≡ forks child)

pub shared_is_no_fork : (s : Setting) (event : Event) → IsShared s event → ¬ IsForkEvent s event
shared_is_no_fork s event shared fork =
    let there : IsShared s (does fork.0) = subst (IsShared s) fork.2 shared in there fork.1 fork.3

pub all_but_forks_are_shared : (s : Setting) → AllButForksAreShared s
all_but_forks_are_shared s m after worker event ready may = by_case event after may
  where
    by_case : (event : Event) (after : Moment) → MayReady s m worker event after → May s m worker event after ⊎ IsForkEvent s event
    by_case event after (takes left right thread id idle at) = inl (take_is_theft s m ready.lawful worker left right thread id idle at)
    by_case event after (forks_left o place child new at fits least) = inr (place, child, refl, at.deed_is)
    by_case event after (as_with_deques event' after' shared may) = inl may

pub forks_are_cut : (s : Setting) → ForksAreCut s
forks_are_cut s m worker place child left right id new thread after ready deed least may are =
    fork_cut s m ready worker place child after may deed left right id new thread least are

module _ (s : Setting) (list : IsDepthFirst s.quota s.list) where
  pub wanted_may_come : ReadyWantedMayCome s
  wanted_may_come m worker event ready below wants = by_case event wants
    where
      by_case : (event : Event) → WantsReady s m worker event → (after : Moment) × MayReady s m worker event after
      by_case event (a_take left right id thread idle at) =
          (_, takes left right thread id (record { is_worker = below; owns_none = idle }) at)
      by_case event (of_its_entry event' some wants) =
          let with_deques = wanted_comes s list m ready.lawful worker below 0 event wants in
          comes s m ready worker some event with_deques.0 with_deques.1

  pub somebodys_turn : ReadySomebodysTurn s
  somebodys_turn words n m ready workers not_over =
      let w = somebody_moves s list m ready.lawful workers (words n) not_over in
      let first : IsFirst s.workers (words n) (CanMove s m) w.0 = w.1 in
      let e = mover_wants s list m ready.lawful w.0 0 first.passes in (
        record { worker = w.0; event = e.0 },
        record {
          not_over = not_over;
          first = record {
            turns = first.turns;
            few = first.few;
            is = first.is;
            passes = can_go s m ready w.0 first.passes;
            none_before = λ t lt can. first.none_before t lt (can_move s m ready ((words n + t) % s.workers) (mod-lt
                (words n + t) workers) can);
          };
          wants = wants_ready s m ready w.0 e.0 e.1;
        },
      )
