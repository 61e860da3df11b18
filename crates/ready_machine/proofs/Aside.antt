-- A scheduler stands at one ready list after another.
use Rattle.std.proofs.Common.{◌≡◌, ℕ, ◌<◌, List, [], ◌∷◌, ◌++◌, map, length, inl, inr, refl, sym, ap, subst, ◌∙◌, arith, length-append, ◌+ℤ◌}
use Rattle.std.specs.Prelude.{None, Some}
use Rattle.dag_order.specs.LabelOrder.{fork_of}
use Rattle.depth_first_list.specs.Actions.{forks}
use Rattle.depth_first_list.specs.Facts.{deed_at}
use Rattle.depth_first_list.specs.Runs.{IsDepthFirst}
use Rattle.depth_first_list.proofs.Weights.{forks_take_records}
use Rattle.deque_machine.specs.Lists.{Each}
use Rattle.deque_machine.proofs.Lists.{each_at, total_append, one_same, same_head, same_tail}
use Rattle.deque_machine.specs.Moments as machine
use Rattle.deque_machine.specs.Moments.{Moment, opening, moment_of, with_id, one_if_id, owned_by, one_if_owned, live_at}
use Rattle.deque_machine.specs.Machine.{Setting, Event, does, Owns, May}
use Rattle.deque_machine.specs.Runs.{Pair}
use Rattle.deque_machine.proofs.Reached.{place_inside}
use Rattle.deque_machine.proofs.OnePlay as replay
use Rattle.moment_laws.specs.Passed.Parts.{Deque, deque_shown}
use Rattle.moment_laws.specs.Passed.Cuts.{deque_with}
use Rattle.moment_laws.proofs.Passed.Cutting.{setting_aside_shows}
use Rattle.moment_laws.proofs.Standing.{root_stands}
use Rattle.moment_laws.proofs.Told.{actions_are_added}
use Rattle.ready_machine.specs.Entries.{entry, IsEntry, IsLeastFree, IsReadyList}
use Rattle.ready_machine.specs.ReadyMachine.{MayReady, ReadyReaches}
use Rattle.ready_machine.specs.ReadyPlay.{WantsReady}
use Rattle.ready_machine.proofs.Sharing.{alone, kept_ready}
use Rattle.ready_machine.proofs.Cuts.{one_only_cut}
use Rattle.ready_machine.proofs.Coming.{IsForkEvent, IsMachinesFork, machines_fork, each_beside, no_entry, all_but_forks_are_shared, forks_are_cut, wanted_may_come}
use Rattle.ready_machine.specs.Standing.{HasOneThread, cut_moment, RootStandsReady, OneThreadEach, TwoAreCut, ReadyRunsGoOn, LeavesTwo, OneOrTwo}

goes_on : (s : Setting) (run : List Pair) (first m after : Moment) (worker : ℕ) (event : Event) → ReadyReaches s first run m
    → MayReady s m worker event after → ReadyReaches s first (run ++ record { worker = worker; event = event } ∷ []) after
goes_on s [] first m after worker event reaches may = (after, subst (λ t. MayReady s t worker event after) (sym reaches) may, refl)
goes_on s (pair ∷ run) first m after worker event reaches may =
    (reaches.0, reaches.1, goes_on s run reaches.0 m after worker event reaches.2 may)

pub ready_runs_go_on : (s : Setting) → ReadyRunsGoOn s
ready_runs_go_on s run m after worker event reaches may = goes_on s run opening m after worker event reaches may

pub root_stands_ready : (s : Setting) → 0 < s.quota → IsDepthFirst s.quota s.list → RootStandsReady s
root_stands_ready s some list x shown id label done children words parts live begun moves =
    record { entries = (([], refl), tt); standing = root_stands s some list x shown id label done children words parts live begun moves }

-- deques of one thread are entries
shown_entries : (ds : List Deque) → Each HasOneThread ds → Each IsEntry (map deque_shown ds)
shown_entries [] all = tt
shown_entries (d ∷ ds) all = (((all.0).0.label, ap (map (λ x. x.label)) (all.0).1), shown_entries ds all.1)

shown_middle : (left right : List Deque) (d : Deque) → map deque_shown (left ++ d ∷ right)
    ≡ map deque_shown left ++ deque_shown d ∷ map deque_shown right
shown_middle [] right d = refl
shown_middle (x ∷ left) right d = ap (λ t. deque_shown x ∷ t) (shown_middle left right d)

module _ (s : Setting) (some : 0 < s.quota) (list : IsDepthFirst s.quota s.list) (m next : Moment) (ready : IsReadyList s m) (worker : ℕ)
    (event : Event)
    (below : worker < s.workers) (wants : WantsReady s m worker event) (may : May s m worker event next) where
  -- what is wanted and is no Fork comes as in the machine of deques
  as_it_came : ¬ IsForkEvent s event → MayReady s m worker event next
  as_it_came no_fork =
      let comes = wanted_may_come s list m worker event ready below wants in
      elim (all_but_forks_are_shared s m comes.0 worker event ready comes.1) [
        | inl shared ↦ subst (λ x. MayReady s m worker event x)
            (replay.one_way s some list m comes.0 next worker event ready.lawful shared may) comes.1
        | inr fork ↦ absurd (no_fork fork)
      ]

  -- a Fork leaves a deque of two
  fork_leaves_two : IsForkEvent s event → ¬ Each IsEntry next.deques
  fork_leaves_two fork entries =
      let found = machines_fork s m ready worker event next may fork.0 fork.1 fork.2 fork.3 in
      let f : IsMachinesFork s m ready worker next = found.0 in
      let o : Owns m worker = f.owner in
      let two : machine.Deque = machine.deque_of o.id (Some worker) (fork_of o.top f.child ∷ o.top ∷ o.under) in
      no_entry s m ready worker o.id (fork_of o.top f.child) o.top o.under
      (each_at IsEntry o.left two o.right (subst (λ t. Each IsEntry t) (ap (λ x. x.deques) f.after_is) entries))

  -- and only a Fork does
  two_are_a_fork : ¬ Each IsEntry next.deques → IsForkEvent s event
  two_are_a_fork two =
      let comes = wanted_may_come s list m worker event ready below wants in
      elim (all_but_forks_are_shared s m comes.0 worker event ready comes.1) [
        | inl shared ↦
            let same : comes.0 ≡ next = replay.one_way s some list m comes.0 next worker event ready.lawful shared may in
            absurd (two (subst (λ x. Each IsEntry x.deques) same (kept_ready s list m ready worker event comes.0 comes.1).entries))
        | inr fork ↦ fork
      ]

pub one_thread_each : (s : Setting) → 0 < s.quota → IsDepthFirst s.quota s.list → OneThreadEach s
one_thread_each s some list before after moved m next worker event stands below wants may standing one =
    let ready : IsReadyList s m = record { entries = stands.entries; lawful = (stands.standing).lawful } in
    let entries : Each IsEntry next.deques = subst (λ t. Each IsEntry t) (sym (standing.shows).deques)
    (shown_entries after.parts.deques one) in (
      as_it_came s some list m next ready worker event below wants may
          (λ fork. fork_leaves_two s some list m next ready worker event below wants may fork entries),
      record { entries = entries; standing = standing },
    )

-- ids are free before a Fork where they are free after it
least_before : (s : Setting) (m : Moment) (worker : ℕ) (o : Owns m worker) (threads : List (List ℕ)) (new : ℕ)
    → IsLeastFree (o.left ++ machine.deque_of o.id (Some worker) threads ∷ o.right) new → IsLeastFree m.deques new
least_before s m worker o threads new least =
    let same : (i : ℕ) → with_id i m.deques ≡ with_id i (o.left ++ machine.deque_of o.id (Some worker) threads ∷ o.right) = λ i.
    let cut : with_id i m.deques ≡ with_id i (o.left ++ machine.deque_of o.id (Some worker) (o.top ∷ o.under) ∷ o.right) = ap
    (with_id i) o.deques_are in
    let before = total_append (one_if_id i) o.left (machine.deque_of o.id (Some worker) (o.top ∷ o.under) ∷ o.right) in
    let behind = total_append (one_if_id i) o.left (machine.deque_of o.id (Some worker) threads ∷ o.right) in omega
    (arith, cut, before, behind) in
    record {
      free = same new ∙ least.free;
      none_less = λ i lt. subst (λ n. 0 < n) (sym (same i)) (least.none_less i lt);
    }

module _ (s : Setting) (some : 0 < s.quota) (list : IsDepthFirst s.quota s.list) (m next : Moment) (ready : IsReadyList s m)
    (worker place child : ℕ)
    (deed : deed_at s.list place ≡ forks child) (may : May s m worker (does place) next) where
  one_child : (a b : ℕ) → forks a ≡ forks b → a ≡ b
  one_child a b e = cc

  -- what a Fork leaves, cut in two
  cut_comes : (left right : List machine.Deque) (id new : ℕ) (upper lower : List ℕ)
      → next.deques ≡ left ++ machine.deque_of id (Some worker) (upper ∷ lower ∷ []) ∷ right → IsLeastFree next.deques new
      → MayReady s m worker (does place)
      (moment_of (left ++ entry id (Some worker) upper ∷ entry new None lower ∷ right) next.waiting next.books)
  cut_comes left right id new upper lower are least =
      let found = machines_fork s m ready worker (does place) next may place child refl deed in
      let f : IsMachinesFork s m ready worker next = found.0 in
      let o : Owns m worker = f.owner in
      let sides = each_beside s m ready worker o in
      let forked : machine.Deque = machine.deque_of o.id (Some worker) (fork_of o.top f.child ∷ o.top ∷ o.under) in
      let two : machine.Deque = machine.deque_of id (Some worker) (upper ∷ lower ∷ []) in
      let cut = one_only_cut IsEntry o.left o.right left right forked two (ap (λ x. x.deques) (sym f.after_is) ∙ are) sides.0 sides.1
      (no_entry s m ready worker o.id (fork_of o.top f.child) o.top o.under) (no_entry s m ready worker id upper lower []) in
      let threads : fork_of o.top f.child ∷ o.top ∷ o.under ≡ upper ∷ lower ∷ [] = ap (λ d. d.threads) cut.heres in
      let top : fork_of o.top f.child ≡ upper = same_head (fork_of o.top f.child) upper (o.top ∷ o.under) (lower ∷ []) threads in
      let bottom : o.top ≡ lower = same_head o.top lower o.under [] (same_tail (fork_of o.top f.child) upper (o.top ∷ o.under)
      (lower ∷ []) threads) in
      let ordinal : f.child ≡ child = one_child f.child child (sym (f.at).deed_is ∙ ap (deed_at s.list) found.1 ∙ deed) in
      let is : upper ≡ fork_of lower child = sym top ∙ ap (λ t. fork_of t f.child) bottom ∙ ap (fork_of lower) ordinal in
      let free : IsLeastFree m.deques new = least_before s m worker o (fork_of o.top f.child ∷ o.top ∷ o.under) new
      (subst (λ t. IsLeastFree t new) (ap (λ x. x.deques) f.after_is) least) in
      subst (λ t. MayReady s m worker (does place) (moment_of (left ++ entry id
      (Some worker) t ∷ entry new None lower ∷ right) next.waiting next.books))
      (sym is)
      (forks_are_cut s m worker place child left right id new lower next ready deed free may
      (are ∙ ap (λ t. left ++ machine.deque_of id (Some worker) (t ∷ lower ∷ []) ∷ right) is))

pub two_are_cut : (s : Setting) → 0 < s.quota → IsDepthFirst s.quota s.list → TwoAreCut s
two_are_cut s some list before after moved m next worker event left right id new upper lower stands below wants may standing are least =
    let ready : IsReadyList s m = record { entries = stands.entries; lawful = (stands.standing).lawful } in
    let whole : next.deques ≡ map deque_shown left ++ machine.deque_of id (Some worker)
    (upper.label ∷ lower.label ∷ []) ∷ map deque_shown right =
    (standing.shows).deques ∙ ap (map deque_shown) are ∙ shown_middle left right (deque_with id (Some worker) (upper ∷ lower ∷ [])) in
    let fork : IsForkEvent s event = two_are_a_fork s some list m next ready worker event below wants may
    (λ entries. no_entry s m ready worker id upper.label lower.label []
    (each_at IsEntry (map deque_shown left) (machine.deque_of id (Some worker) (upper.label ∷ lower.label ∷ [])) (map deque_shown right)
    (subst (λ t. Each IsEntry t) whole entries))) in
    let comes : MayReady s m worker event (cut_moment next left right id new worker upper lower) =
    subst (λ e. MayReady s m worker e (cut_moment next left right id new worker upper lower)) (sym fork.2)
    (cut_comes s some list m next ready worker fork.0 fork.1 fork.3 (subst (λ e. May s m worker e next) fork.2 may)
    (map deque_shown left) (map deque_shown right) id new upper.label lower.label whole least) in
    let kept = kept_ready s list m ready worker event (cut_moment next left right id new worker upper lower) comes in (
      comes,
      record {
        entries = kept.entries;
        standing = record {
          lawful = kept.lawful;
          shows = setting_aside_shows s some list next after.parts left right id new (Some worker) upper lower standing.shows are;
          live = standing.live;
          begun = standing.begun;
          moves = standing.moves;
          root_kept = standing.root_kept;
        };
      },
    )

-- one more in the middle
as_long : (left right : List machine.Deque) (x y : machine.Deque) → length (left ++ x ∷ right) ≡ length (left ++ y ∷ right)
as_long left right x y = length-append left (x ∷ right) ∙ sym (length-append left (y ∷ right))

pub one_or_two : (s : Setting) → 0 < s.quota → IsDepthFirst s.quota s.list → OneOrTwo s
one_or_two s some list m next worker event ready below wants may =
    let comes = wanted_may_come s list m worker event ready below wants in
    elim (all_but_forks_are_shared s m comes.0 worker event ready comes.1) [
      | inl shared ↦
          let same : comes.0 ≡ next = replay.one_way s some list m comes.0 next worker event ready.lawful shared may in
          inl (subst (λ x. Each IsEntry x.deques) same (kept_ready s list m ready worker event comes.0 comes.1).entries)
      | inr fork ↦ inr (two fork)
    ]
  where
    two : IsForkEvent s event → LeavesTwo s.list m next worker
    two fork =
        let found = machines_fork s m ready worker event next may fork.0 fork.1 fork.2 fork.3 in
        let f : IsMachinesFork s m ready worker next = found.0 in
        let o : Owns m worker = f.owner in
        let forked : machine.Deque = machine.deque_of o.id (Some worker) (fork_of o.top f.child ∷ o.top ∷ o.under) in
        let was : machine.Deque = machine.deque_of o.id (Some worker) (o.top ∷ o.under) in
        let came : May s m worker (does fork.0) next = subst (λ e. May s m worker e next) fork.2 may in
        let added = actions_are_added s m next worker fork.0 came in
        record {
          owned =
              let middle = total_append (one_if_owned worker) o.left (was ∷ o.right) in
              let one : one_if_owned worker was ≡ 1 = one_same worker worker refl in
              let cut : owned_by worker m.deques ≡ owned_by worker (o.left ++ was ∷ o.right) = ap (owned_by worker) o.deques_are in
              omega (arith, middle, one, cut);
          left = o.left;
          right = o.right;
          id = o.id;
          upper = fork_of o.top f.child;
          lower = o.top;
          deques_are = ap (λ x. x.deques) f.after_is
              ∙ ap (λ t. o.left ++ machine.deque_of o.id (Some worker) (fork_of o.top f.child ∷ o.top ∷ t) ∷ o.right) (alone s m ready worker o);
          many = ap (λ x. length x.deques) f.after_is ∙ as_long o.left o.right forked was ∙ ap length (sym o.deques_are);
          live = added.live ∙ ap (λ w. live_at s.list m +ℤ w)
              (forks_take_records s.quota s.list list fork.0 fork.1 (place_inside s m worker fork.0 next came) fork.3).1;
        }
