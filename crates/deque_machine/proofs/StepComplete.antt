-- Each case of the machine, at a lawful moment, is what the computed machine answers.
use Rattle.std.proofs.Common.{◌≡◌, ◌≢◌, ℕ, ◌+◌, ◌<◌, Bool, true, false, cond, not, ◌&&◌, nat_eq, nat_lt, nat_le, List, [], ◌∷◌, ◌++◌, length, inl, inr, refl, sym, ap, subst, ◌∙◌, arith}
use Rattle.std.specs.Prelude.{Option, None, Some}
use Rattle.std.proofs.lemmas.Bool.{cases_Bool, eq-eqb, ne_eqb, lt-ltb, le-leb, lt-leb, and_from}
use Rattle.dag_order.specs.LabelOrder.{fork_of}
use Rattle.depth_first_run.specs.Passed.Actions.{Deed, forks, joins, allocates, releases, dummy, faults, ends, record_words}
use Rattle.depth_first_run.specs.Passed.Facts.{deed_at, words_at}
use Rattle.deque_machine.specs.Lists.{Among, Each, Differ, one_if_same}
use Rattle.deque_machine.specs.Books.{charged}
use Rattle.deque_machine.proofs.Lists.{each_map, total_append, one_same, among_here}
use Rattle.deque_machine.specs.Moments.{Deque, Waiting, Moment, done_at, owned_by, open_for, with_id, waiting_threads, one_if_owned, one_if_worker}
use Rattle.deque_machine.specs.Machine.{Setting, Event, steals, does, Owns, IsAtTop, HasEnded, IsIdle, new_book, May, steals_beside, takes_over, forks_child, joins_child, allocates_within, allocates_above, releases_words, meets_fault, runs_dummy, ends_above_parent, ends_and_wakes, ends_and_leaves, suspends_top, gives_deque_up}
use Rattle.deque_machine.specs.LawfulOrder.{IsLawful}
use Rattle.deque_machine.proofs.Counts.{no_other_open}
use Rattle.deque_machine.proofs.Labels.{one_parent}
use Rattle.deque_machine.proofs.Placed.{waiting_append}
use Rattle.deque_machine.specs.Tests.{ended_by, cut_first, cut_at, front_of, last_of, same_label, is_fork_of, is_owner, owns_it, open_for_it, waits_for}
use Rattle.deque_machine.specs.Step.{Hand, hand_by, hand_of, deques_put, books_put, moment_of, where_true, ended_alone, ended_over, act_by, suspend_by, suspend_at, steal_from, steal_by, does_by, suspends_by, gives_up_by, step}
use Rattle.deque_machine.proofs.TestLaws.{same_label_is, is_same_label, next_is_next, next_from_finds, ended_by_is, ended_by_finds, cut_first_finds, cut_first_none, cut_at_finds, front_and_last_are, fork_is_fork_of}

itself : (w : ℕ) → is_owner w (Some w) ≡ true
itself w = eq-eqb w w refl

not_owner : (w : ℕ) (o : Option ℕ) → o ≢ Some w → is_owner w o ≡ false
not_owner w None other = refl
not_owner w (Some v) other = ne_eqb w v (λ e. other (ap Some (sym e)))

-- no deque left of the worker's is the worker's too
none_owned : (w : ℕ) (left : List Deque) → owned_by w left ≡ 0 → Each (λ d. owns_it w d ≡ false) left
none_owned w [] none = tt
none_owned w (d ∷ left) none = (
  not_owner w d.owner (λ is. let one : one_if_owned w d ≡ one_if_same w w = ap (one_if_worker w) is in let o = one_same w w refl in absurd (omega (arith, one, o, none))),
  none_owned w left (omega arith),
)

-- the hand that the machine's cut makes
abbrev hand_from : {m : Moment} {w : ℕ} → Owns m w → Hand
hand_from {m} {w} o = record {
  deques = record { left = o.left; here = record { id = o.id; owner = Some w; threads = o.top ∷ o.under }; right = o.right };
  top = o.top;
  under = o.under;
  books = record { left = o.older; here = o.book; right = o.newer };
}

module _ (s : Setting) (m : Moment) (lawful : IsLawful s m) (worker : ℕ) where
  hand_is : (o : Owns m worker) → hand_of m worker ≡ Some (hand_from o)
  hand_is o =
      let d : Deque = record { id = o.id; owner = Some worker; threads = o.top ∷ o.under } in
      let most = (lawful.order).owns_one worker in
      let cut : owned_by worker m.deques ≡ owned_by worker (o.left ++ d ∷ o.right) = ap (owned_by worker) o.deques_are in
      let a = total_append (one_if_owned worker) o.left (d ∷ o.right) in
      let one : one_if_owned worker d ≡ 1 = one_same worker worker refl in
      let each = (lawful.periods).one_each worker in
      let books : open_for worker m.books ≡ open_for worker (o.older ++ o.book ∷ o.newer) = ap (open_for worker) o.books_are in
      let apart = no_other_open worker o.older o.newer o.book o.open_for_it (omega (arith, most, each, books)) in
      let ds : cut_first (owns_it worker) m.deques ≡ Some (hand_from o).deques = ap (cut_first (owns_it worker)) o.deques_are
      ∙ cut_first_finds (owns_it worker) o.left d o.right (none_owned worker o.left (omega (arith, most, cut, a, one))) (itself worker) in
      let bs : cut_first (open_for_it worker) m.books ≡ Some (hand_from o).books = ap (cut_first (open_for_it worker)) o.books_are
      ∙ cut_first_finds (open_for_it worker) o.older o.book o.newer (each_map (λ b. b.owner ≢ Some worker) (λ b. open_for_it worker b ≡ false) o.older (λ b among other. not_owner worker b.owner other) apart.0)
      (ap (is_owner worker) o.open_for_it ∙ itself worker) in
      ap (λ t. hand_by t (cut_first (open_for_it worker) m.books)) ds ∙ ap (hand_by (Some (hand_from o).deques)) bs

  -- an action that is next, by its deed
  acted : (o : Owns m worker) (place : ℕ) (deed : Deed) → IsAtTop s m o.top place deed → step s m worker (does place) ≡ act_by s m (hand_from o) worker place deed
  acted o place deed at =
      ap (does_by s m worker place) (hand_is o)
      ∙ ap (λ b. cond b (act_by s m (hand_from o) worker place (deed_at s.list place)) None) (next_is_next s.list (done_at m) o.top place at.next)
      ∙ ap (act_by s m (hand_from o) worker place) at.deed_is

  passes : (b : Bool) (after : Moment) → b ≡ true → where_true b after ≡ Some after
  passes b after is = ap (λ t. where_true t after) is

  ended : (thread : List ℕ) → HasEnded s m thread → ended_by s.list (done_at m) thread (length s.list) ≡ true
  ended thread has = ended_by_finds s.list (done_at m) thread (length s.list) has.0 has.1 has.2 has.3 has.4

  not_ended : (thread : List ℕ) → ¬ HasEnded s m thread → ended_by s.list (done_at m) thread (length s.list) ≡ false
  not_ended thread none = elim (cases_Bool (ended_by s.list (done_at m) thread (length s.list))) [
    | inl is ↦ absurd (none (ended_by_is s.list (done_at m) thread (length s.list) is))
    | inr is ↦ is
  ]

  -- nobody before the parent waits for the thread that ended
  alone_waits : (before later : List Waiting) (w : Waiting) (top : List ℕ) → Differ (waiting_threads (before ++ w ∷ later)) → top ≡ fork_of w.thread w.child
      → Each (λ v. waits_for top v ≡ false) before
  alone_waits [] later w top apart is = tt
  alone_waits (v ∷ before) later w top apart is = (
    elim (cases_Bool (waits_for top v)) [
      | inr other ↦ other
      | inl same ↦ absurd (apart.0 (subst (λ t. Among v.thread t) (sym (waiting_append before (w ∷ later)))
          (subst (λ t. Among v.thread (waiting_threads before ++ t ∷ waiting_threads later))
          (one_parent v.thread w.thread v.child w.child (sym (same_label_is top (fork_of v.thread v.child) same) ∙ is)).0
          (among_here v.thread (waiting_threads before) (waiting_threads later)))))
    ],
    alone_waits before later w top apart.1 is,
  )

  pub step_complete : (event : Event) (after : Moment) → May s m worker event after → step s m worker event ≡ Some after
  step_complete event after (steals_beside left right victim first others bottom id idle reach deques_are threads_are new_id) =
      stolen (length left) id idle reach ∙ ap (λ t. steal_by m worker id (cut_at (length left) t)) deques_are ∙ ap (steal_by m worker id) (cut_at_finds left victim right)
      ∙ ap (steal_from m worker id (record { left = left; here = victim; right = right }) victim.owner) threads_are
      ∙ beside victim.owner first others bottom
    where
      stolen : (place id : ℕ) → IsIdle s m worker → place < s.workers → step s m worker (steals place id) ≡ steal_by m worker id (cut_at place m.deques)
      stolen place id idle reach =
          ap (λ b. cond b (steal_by m worker id (cut_at place m.deques)) None)
          (and_from (nat_lt worker s.workers) (nat_eq (owned_by worker m.deques) 0 && nat_lt place s.workers) (lt-ltb worker s.workers idle.is_worker)
          (and_from (nat_eq (owned_by worker m.deques) 0) (nat_lt place s.workers) (eq-eqb (owned_by worker m.deques) 0 idle.owns_none) (lt-ltb place s.workers reach)))

      new_of : List (List ℕ) → List ℕ → Moment
      new_of front last = moment_of (left ++ record { id = victim.id; owner = victim.owner; threads = front } ∷ record { id = id; owner = Some worker; threads = last ∷ [] } ∷ right)
          m.waiting (m.books ++ new_book worker true ∷ [])

      by_rest : (owner : Option ℕ) (second : List ℕ) (more : List (List ℕ)) (first : List ℕ) (others : List (List ℕ)) (bottom : List ℕ) → others ++ bottom ∷ [] ≡ second ∷ more
          → steal_from m worker id (record { left = left; here = victim; right = right }) owner (first ∷ second ∷ more) ≡ Some (new_of (first ∷ others) bottom)
      by_rest owner second more first others bottom is =
          let p : (front_of second more ≡ others) × (last_of second more ≡ bottom) = front_and_last_are others bottom second more is in
          passes (nat_eq (with_id id m.deques) 0) (new_of (first ∷ front_of second more) (last_of second more)) (eq-eqb (with_id id m.deques) 0 new_id)
          ∙ ap (λ t. Some (new_of (first ∷ t) (last_of second more))) p.0 ∙ ap (λ t. Some (new_of (first ∷ others) t)) p.1

      beside : (owner : Option ℕ) (first : List ℕ) (others : List (List ℕ)) (bottom : List ℕ)
          → steal_from m worker id (record { left = left; here = victim; right = right }) owner (first ∷ (others ++ bottom ∷ [])) ≡ Some (new_of (first ∷ others) bottom)
      beside owner first [] bottom = by_rest owner bottom [] first [] bottom refl
      beside owner first (second ∷ others) bottom = by_rest owner second (others ++ bottom ∷ []) first (second ∷ others) bottom refl
  step_complete event after (takes_over left right thread id idle reach deques_are) =
      ap (λ b. cond b (steal_by m worker id (cut_at (length left) m.deques)) None)
      (and_from (nat_lt worker s.workers) (nat_eq (owned_by worker m.deques) 0 && nat_lt (length left) s.workers) (lt-ltb worker s.workers idle.is_worker)
      (and_from (nat_eq (owned_by worker m.deques) 0) (nat_lt (length left) s.workers) (eq-eqb (owned_by worker m.deques) 0 idle.owns_none) (lt-ltb (length left) s.workers reach)))
      ∙ ap (λ t. steal_by m worker id (cut_at (length left) t)) deques_are
      ∙ ap (steal_by m worker id) (cut_at_finds left (record { id = id; owner = None; threads = thread ∷ [] }) right)
      ∙ passes (nat_eq id id) (moment_of (left ++ record { id = id; owner = Some worker; threads = thread ∷ [] } ∷ right) m.waiting (m.books ++ new_book worker (nat_lt 0 (length left)) ∷ [])) (eq-eqb id id refl)
  step_complete event after (forks_child o place child at fits) =
      acted o place (forks child) at ∙ passes (nat_le (charged s.quota s.list o.book.ran + record_words) s.quota) after (le-leb (charged s.quota s.list o.book.ran + record_words) s.quota fits)
  step_complete event after (joins_child o place child at has) =
      acted o place (joins child) at ∙ passes (ended_by s.list (done_at m) (fork_of o.top child) (length s.list)) after (ended (fork_of o.top child) has)
  step_complete event after (allocates_within o place at small fits) =
      acted o place allocates at ∙ passes (cond (nat_le (words_at s.list place) s.quota) (nat_le (charged s.quota s.list o.book.ran + words_at s.list place) s.quota) true) after
      (ap (λ b. cond b (nat_le (charged s.quota s.list o.book.ran + words_at s.list place) s.quota) true) (le-leb (words_at s.list place) s.quota small)
      ∙ le-leb (charged s.quota s.list o.book.ran + words_at s.list place) s.quota fits)
  step_complete event after (allocates_above o place at large) =
      acted o place allocates at ∙ passes (cond (nat_le (words_at s.list place) s.quota) (nat_le (charged s.quota s.list o.book.ran + words_at s.list place) s.quota) true) after
      (ap (λ b. cond b (nat_le (charged s.quota s.list o.book.ran + words_at s.list place) s.quota) true) (lt-leb (words_at s.list place) s.quota large))
  step_complete event after (releases_words o place at) = acted o place releases at
  step_complete event after (meets_fault o place at) = acted o place faults at
  step_complete event after (runs_dummy o place at) = acted o place dummy at
  step_complete event after (ends_above_parent o place child parent below at under_is top_is) =
      acted o place ends at ∙ ap (ended_over m (hand_from o) worker place) under_is
      ∙ passes (is_fork_of parent o.top) (moment_of (deques_put (hand_from o) (Some worker) (parent ∷ below)) m.waiting (books_put (hand_from o) (Some worker) place)) (fork_is_fork_of parent o.top child top_is)
      ∙ ap (λ t. Some (moment_of (deques_put (hand_from o) (Some worker) t) m.waiting (books_put (hand_from o) (Some worker) place))) (sym under_is)
  step_complete event after (ends_and_wakes o place before later parent at under_is waiting_is top_is) =
      acted o place ends at ∙ ap (ended_over m (hand_from o) worker place) under_is
      ∙ ap (ended_alone m (hand_from o) worker place) (ap (cut_first (waits_for o.top)) waiting_is
      ∙ cut_first_finds (waits_for o.top) before parent later
      (alone_waits before later parent o.top (subst (λ t. Differ (waiting_threads t)) waiting_is (lawful.order).wait_once) top_is)
      (is_same_label o.top (fork_of parent.thread parent.child) top_is))
  step_complete event after (ends_and_leaves o place at under_is unwaited) =
      acted o place ends at ∙ ap (ended_over m (hand_from o) worker place) under_is
      ∙ ap (ended_alone m (hand_from o) worker place) (cut_first_none (waits_for o.top) m.waiting
      (each_map (λ w. o.top ≢ fork_of w.thread w.child) (λ w. waits_for o.top w ≡ false) m.waiting (λ w among other. differs (o.top) (fork_of w.thread w.child) other) unwaited))
    where
      differs : (a b : List ℕ) → a ≢ b → same_label a b ≡ false
      differs a b other = elim (cases_Bool (same_label a b)) [ inl is ↦ absurd (other (same_label_is a b is)) | inr is ↦ is ]
  step_complete event after (suspends_top o place child at none under_is) =
      let inside = (at.next).inside in
      ap (suspends_by s m) (hand_is o)
      ∙ ap (suspend_at s m (hand_from o)) (next_from_finds s.list (done_at m) o.top (length s.list) 0 place at.next (omega arith) (omega arith))
      ∙ ap (suspend_by s m (hand_from o)) at.deed_is
      ∙ passes (not (ended_by s.list (done_at m) (fork_of o.top child) (length s.list)) && nat_eq (length o.under) 0) after
      (and_from (not (ended_by s.list (done_at m) (fork_of o.top child) (length s.list))) (nat_eq (length o.under) 0) (ap not (not_ended (fork_of o.top child) none))
      (eq-eqb (length o.under) 0 (ap length under_is)))
  step_complete event after (gives_deque_up o) = ap (gives_up_by m) (hand_is o)
