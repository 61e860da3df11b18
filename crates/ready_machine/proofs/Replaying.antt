-- What the computed machine of a ready list answers is a run.
use Rattle.std.proofs.Common.{◌≡◌, ◌≢◌, ℕ, zero, suc, ◌<◌, true, cond, not, nat_eq, List, [], ◌∷◌, ◌++◌, length, inl, inr, refl, sym, ap, subst, ◌∙◌, arith, true≢false}
use Rattle.std.specs.Prelude.{Option, None, Some, is_some, unwrap_or}
use Rattle.std.proofs.lemmas.Bool.{cases_Bool, cases_eq, cases_lt, eqb-true, eq-eqb, and_parts}
use Rattle.dag_order.specs.LabelOrder.{fork_of}
use Rattle.depth_first_list.specs.Actions.{Deed, forks, joins, allocates, releases, dummy, faults, ends}
use Rattle.depth_first_list.specs.Runs.{IsDepthFirst}
use Rattle.depth_first_list.specs.Facts.{deed_at}
use Rattle.deque_machine.specs.Lists.{Each}
use Rattle.deque_machine.proofs.Lists.{each_at, same_tail, cons_is_not_nil}
use Rattle.deque_machine.specs.Moments.{Deque, Moment, opening, moment_of, deque_of, with_id}
use Rattle.deque_machine.specs.Machine.{Setting, Event, steals, does, suspends, gives_up, Owns, May, steals_beside, takes_over, forks_child, joins_child, allocates_within, allocates_above, releases_words, meets_fault, runs_dummy, ends_above_parent, ends_and_wakes, ends_and_leaves, suspends_top, gives_deque_up, books_with}
use Rattle.deque_machine.specs.Runs.{Pair}
use Rattle.deque_machine.proofs.KeptOrder.{own_alloc, own_release, own_dummy, own_fault}
use Rattle.deque_machine.proofs.LiveThreads.{join_is_no_fork}
use Rattle.deque_machine.proofs.OneAction.{end_is_no_fork}
use Rattle.deque_machine.specs.Step.{step}
use Rattle.deque_machine.specs.Played.{no_owner, least_id}
use Rattle.deque_machine.proofs.StepSound.{none_is_not_some, same_moment, gate, step_sound}
use Rattle.ready_machine.specs.Step.{all_owned, cut_one, cut_in_two, cut_moment, cut_at_fork, ready_step, replay_from}
use Rattle.ready_machine.specs.ReplayLaws.{ReplaysAreRuns}
use Rattle.ready_machine.specs.Entries.{entry, IsEntry, IsRun, IsLeastFree, IsReadyList}
use Rattle.ready_machine.specs.ReadyMachine.{MayReady, takes, forks_left, as_with_deques, ReadyReaches}
use Rattle.ready_machine.proofs.Sharing.{alone, kept_ready, opening_is_ready}
use Rattle.ready_machine.proofs.Coming.{IsMachinesFork, machines_fork, each_beside}

owned_is_run : (owner : Option ℕ) → not (no_owner owner) ≡ true → owner ≢ None
owned_is_run None is none = true≢false (sym is)
owned_is_run (Some w) is none = true≢false (ap is_some none)

all_run : (left rest : List Deque) → all_owned (length left) (left ++ rest) ≡ true → Each IsRun left
all_run [] rest is = tt
all_run (d ∷ left) rest is =
    let parts = and_parts (not (no_owner d.owner)) (all_owned (length left) (left ++ rest)) is in
    (owned_is_run d.owner parts.0, all_run left rest parts.1)

least_is : (ds : List Deque) (turns id x : ℕ) → ((i : ℕ) → i < id → 0 < with_id i ds) → least_id ds id turns ≡ Some x → IsLeastFree ds x
least_is ds zero id x had is = absurd (true≢false (sym (ap is_some is)))
least_is ds (suc turns) id x had is = elim (cases_Bool (nat_eq (with_id id ds) 0)) [
  | inl free ↦
      let same : id ≡ x = ap (λ o. unwrap_or o x) (ap (λ b. cond b (Some id) (least_id ds (suc id) turns)) (sym free) ∙ is) in
      record {
        free = ap (λ t. with_id t ds) (sym same) ∙ eqb-true (with_id id ds) 0 free;
        none_less = λ i lt. had i (omega
            (arith, lt, same));
      }
  | inr taken ↦ least_is ds turns (suc id) x (λ i lt. elim (cases_eq i id) [
    | inl same ↦ subst (λ t. 0 < with_id t ds) (sym same) (elim (cases_lt 0 (with_id id ds)) [
      | inl some ↦ some
      | inr none ↦ absurd (true≢false (sym (eq-eqb (with_id id ds) 0 (omega (arith, none))) ∙ taken))
    ])
    | inr other ↦ had i (omega (arith, lt, other))
  ]) (ap (λ b. cond b (Some id) (least_id ds (suc id) turns)) (sym taken) ∙ is)
]

-- entries are not cut, and a deque of two among them is
uncut : (new : ℕ) (ds : List Deque) → Each IsEntry ds → cut_in_two new ds ≡ ds
uncut new [] all = refl
uncut new (d ∷ ds) all = ap (λ t. cut_one new d t (cut_in_two new ds)) (all.0).1 ∙ ap (λ t. d ∷ t) (uncut new ds all.1)

cut_there : (new id : ℕ) (owner : Option ℕ) (upper lower : List ℕ) (left right : List Deque) → Each IsEntry left → Each IsEntry right
    → cut_in_two new (left ++ deque_of id owner (upper ∷ lower ∷ []) ∷ right) ≡ left ++ entry id owner upper ∷ entry new None lower ∷ right
cut_there new id owner upper lower [] right all others = ap (λ t. entry id owner upper ∷ entry new None lower ∷ t) (uncut new right others)
cut_there new id owner upper lower (d ∷ left) right all others =
    ap (λ t. cut_one new d t (cut_in_two new (left ++ deque_of id owner (upper ∷ lower ∷ []) ∷ right))) (all.0).1
    ∙ ap (λ t. d ∷ t) (cut_there new id owner upper lower left right all.1 others)

module _ (s : Setting) (list : IsDepthFirst s.quota s.list) where
  module _ (m : Moment) (ready : IsReadyList s m) (worker : ℕ) where
    IsSteal : Event → Type 0
    IsSteal (steals place id) = Unit {0}
    IsSteal (does place) = ⊥
    IsSteal suspends = ⊥
    IsSteal gives_up = ⊥

    -- a steal of the machine of deques, if all to the left have owners
    take_sound : (event : Event) (after : Moment) → May s m worker event after → (place id : ℕ) → event ≡ steals place id
        → all_owned place m.deques ≡ true → MayReady s m worker event after
    unfolding IsSteal
    take_sound event after (takes_over left right thread id idle reach deques_are) place other is owned =
        let at : length left ≡ place = ap place_of_steal is in
        takes left right thread id idle (record {
          deques_are = deques_are;
          left_are_run = all_run left (entry id None thread ∷ right)
              (subst (λ t. all_owned (length left) t ≡ true) deques_are (subst (λ n. all_owned n m.deques ≡ true) (sym at) owned));
        })
      where
        place_of_steal : Event → ℕ
        place_of_steal (steals place id) = place
        place_of_steal other = 0
    take_sound event after
        (steals_beside left right victim first others bottom id idle reach deques_are threads_are new_id) place other is owned =
        let one : IsEntry victim = each_at IsEntry left victim right (subst (λ t. Each IsEntry t) deques_are ready.entries) in
        absurd (no_more first others bottom one.0 (sym threads_are ∙ one.1))
      where
        no_more : (first : List ℕ) (others : List (List ℕ)) (bottom thread : List ℕ) → first ∷ (others ++ bottom ∷ []) ≡ thread ∷ [] → ⊥
        no_more first [] bottom thread same = cons_is_not_nil bottom [] (same_tail first thread (bottom ∷ []) [] same)
        no_more first (x ∷ others) bottom thread same = cons_is_not_nil x (others ++ bottom ∷ []) (same_tail first thread (x ∷
            (others ++ bottom ∷ [])) [] same)
    take_sound event after (forks_child o p c at fits) place id is owned = absurd (subst IsSteal (sym is) tt)
    take_sound event after (joins_child o p c at has) place id is owned = absurd (subst IsSteal (sym is) tt)
    take_sound event after (allocates_within o p at small fits) place id is owned = absurd (subst IsSteal (sym is) tt)
    take_sound event after (allocates_above o p at large) place id is owned = absurd (subst IsSteal (sym is) tt)
    take_sound event after (releases_words o p at) place id is owned = absurd (subst IsSteal (sym is) tt)
    take_sound event after (meets_fault o p at) place id is owned = absurd (subst IsSteal (sym is) tt)
    take_sound event after (runs_dummy o p at) place id is owned = absurd (subst IsSteal (sym is) tt)
    take_sound event after (ends_above_parent o p c parent below at under_is top_is) place id is owned = absurd (subst IsSteal (sym is) tt)
    take_sound event after (ends_and_wakes o p before later parent at under_is waiting_is top_is) place id is owned = absurd
        (subst IsSteal (sym is) tt)
    take_sound event after (ends_and_leaves o p at under_is unwaited) place id is owned = absurd (subst IsSteal (sym is) tt)
    take_sound event after (suspends_top o p c at not_ended under_is) place id is owned = absurd (subst IsSteal (sym is) tt)
    take_sound event after (gives_deque_up o) place id is owned = absurd (subst IsSteal (sym is) tt)

    fork_sound : (place child : ℕ) (after between : Moment) (new : ℕ) → deed_at s.list place ≡ forks child → IsLeastFree m.deques new
        → May s m worker (does place) between → moment_of (cut_in_two new between.deques) between.waiting between.books ≡ after
        → MayReady s m worker (does place) after
    fork_sound place child after between new deed least may is =
        let found = machines_fork s m ready worker (does place) between may place child refl deed in
        let f : IsMachinesFork s m ready worker between = found.0 in
        let o : Owns m worker = f.owner in
        let others = each_beside s m ready worker o in
        let cut : cut_in_two new between.deques ≡ o.left ++ entry o.id (Some worker)
        (fork_of o.top f.child) ∷ entry new None o.top ∷ o.right =
        ap (λ x. cut_in_two new x.deques) f.after_is
        ∙ ap (λ t. cut_in_two new (o.left ++ deque_of o.id (Some worker) (fork_of o.top f.child ∷ o.top ∷ t) ∷ o.right))
        (alone s m ready worker o)
        ∙ cut_there new o.id (Some worker) (fork_of o.top f.child) o.top o.left o.right others.0 others.1 in
        let whole : moment_of (o.left ++ entry o.id (Some worker) (fork_of o.top f.child) ∷ entry new None o.top ∷ o.right) m.waiting
        (books_with o (Some worker) f.place)
        ≡ moment_of (cut_in_two new between.deques) between.waiting between.books =
        λ i. moment_of ((sym cut) i) ((sym f.after_is) i).waiting ((sym f.after_is) i).books in
        subst (MayReady s m worker (does place)) (whole ∙ is)
        (subst (λ p. MayReady s m worker (does p)
        (moment_of (o.left ++ entry o.id (Some worker) (fork_of o.top f.child) ∷ entry new None o.top ∷ o.right) m.waiting (books_with o
        (Some worker) f.place)))
        found.1 (forks_left o f.place f.child new f.at f.fits least))

    other_deed : (place : ℕ) (after : Moment) (deed : Deed) → deed_at s.list place ≡ deed → ((child : ℕ) → deed ≢ forks child)
        → step s m worker (does place) ≡ Some after → MayReady s m worker (does place) after
    other_deed place after deed deed_is none is =
        as_with_deques (does place) after (λ child fork. none child (sym deed_is ∙ fork)) (step_sound s m worker (does place) after is)

    by_deed : (place : ℕ) (after : Moment) (deed : Deed) → deed_at s.list place ≡ deed
        → cut_at_fork m deed (step s m worker (does place)) ≡ Some after
        → MayReady s m worker (does place) after
    by_deed place after (forks child) deed is = by_parts (least_id m.deques 0 (suc (length m.deques))) (step s m worker
        (does place)) refl refl is
      where
        by_parts : (new : Option ℕ) (next : Option Moment) → least_id m.deques 0 (suc (length m.deques)) ≡ new
            → step s m worker (does place) ≡ next
            → cut_moment new next ≡ Some after → MayReady s m worker (does place) after
        by_parts None next new_is next_is is = absurd (none_is_not_some after is)
        by_parts (Some new) None new_is next_is is = absurd (none_is_not_some after is)
        by_parts (Some new) (Some between) new_is next_is is =
            fork_sound place child after between new deed (least_is m.deques (suc (length m.deques)) 0 new (λ i lt. absurd (omega
            (arith, lt))) new_is)
            (step_sound s m worker (does place) between next_is) (same_moment (moment_of
            (cut_in_two new between.deques) between.waiting between.books) after is)
    by_deed place after (joins c) deed is = other_deed place after (joins c) deed (join_is_no_fork c) is
    by_deed place after allocates deed is = other_deed place after allocates deed own_alloc.no_fork is
    by_deed place after releases deed is = other_deed place after releases deed own_release.no_fork is
    by_deed place after dummy deed is = other_deed place after dummy deed own_dummy.no_fork is
    by_deed place after faults deed is = other_deed place after faults deed own_fault.no_fork is
    by_deed place after ends deed is = other_deed place after ends deed end_is_no_fork is

    pub ready_step_sound : (event : Event) (after : Moment) → ready_step s m worker event ≡ Some after → MayReady s m worker event after
    ready_step_sound (steals place id) after is =
        let parts = gate (all_owned place m.deques) (step s m worker (steals place id)) after is in
        take_sound (steals place id) after (step_sound s m worker (steals place id) after parts.1) place id refl parts.0
    ready_step_sound (does place) after is = by_deed place after (deed_at s.list place) refl is
    ready_step_sound suspends after is = as_with_deques suspends after tt (step_sound s m worker suspends after is)
    ready_step_sound gives_up after is = as_with_deques gives_up after tt (step_sound s m worker gives_up after is)

  replay_reaches : (pairs : List Pair) (first last : Moment) → IsReadyList s first → replay_from s (Some first) pairs ≡ Some last
      → ReadyReaches s first pairs last
  replay_reaches [] first last ready is = same_moment first last is
  replay_reaches (pair ∷ later) first last ready is =
      by_step (ready_step s first pair.worker pair.event) refl is (λ next next_ready rest. replay_reaches later next last next_ready rest)
    where
      by_step : (o : Option Moment) → ready_step s first pair.worker pair.event ≡ o → replay_from s o later ≡ Some last
          → ((next : Moment) → IsReadyList s next → replay_from s (Some next) later ≡ Some last → ReadyReaches s next later last)
          → ReadyReaches s first (pair ∷ later) last
      by_step None stepped is further = absurd (none_is_not_some last is)
      by_step (Some next) stepped is further =
          let may : MayReady s first pair.worker pair.event next = ready_step_sound first ready pair.worker pair.event next stepped in
          (next, may, further next (kept_ready s list first ready pair.worker pair.event next may) is)

  -- what is replayed is a run
  pub replays_are_runs : ReplaysAreRuns s
  replays_are_runs pairs last is = replay_reaches pairs opening last (opening_is_ready s list) is
