-- What each event needs of the moment at which it comes.
use Rattle.std.proofs.Common.{◌≡◌, ◌⊎◌, ℕ, suc, ◌+◌, ◌≤◌, ◌<◌, List, [], ◌∷◌, ◌++◌, length, inl, inr, refl, sym, ap, subst, ◌∙◌, arith, length-append, cond, nat_le}
use Rattle.std.specs.Prelude.{None, Some, slice_get}
use Rattle.std.proofs.lemmas.Bool.{le-leb, lt-leb}
use Rattle.dag_order.specs.LabelOrder.{fork_of}
use Rattle.depth_first_list.specs.Actions.{Deed, forks, joins, allocates, releases, dummy, faults, ends}
use Rattle.depth_first_list.specs.Facts.{deed_at, words_at, IsNext}
use Rattle.deque_machine.specs.Lists.{Each}
use Rattle.deque_machine.specs.Books.{charge, charge_at, charged}
use Rattle.deque_machine.specs.Lawful.{IsWithin}
use Rattle.deque_machine.proofs.Lists.{each_at}
use Rattle.deque_machine.specs.Moments.{Deque, Moment, done_at}
use Rattle.deque_machine.specs.Machine.{Setting, Event, steals, does, suspends, gives_up, Owns, IsAtTop, HasEnded, IsIdle, May, steals_beside, takes_over, forks_child, joins_child, allocates_within, allocates_above, releases_words, meets_fault, runs_dummy, ends_above_parent, ends_and_wakes, ends_and_leaves, suspends_top, gives_deque_up}
use Rattle.deque_machine.specs.LawfulOrder.{IsLawful}
use Rattle.deque_machine.proofs.KeptOrder.{own_alloc, own_release, own_dummy, own_fault, fork_is_no_join, end_is_no_join}
use Rattle.trail_check.proofs.CutLists.{get_middle}

-- A steal: the worker is idle, the place is in reach, and the deque there has a thread to steal. If that deque stays there is one more after it.
pub record Steals (s : Setting) (m : Moment) (worker place : ℕ) (after : Moment) : Type 0 where
  pub idle : IsIdle s m worker
  pub near : place < s.workers
  pub victim : Deque
  pub there : slice_get m.deques place ≡ Some victim
  pub ready : ((victim.owner ≡ None) × (length victim.threads ≡ 1)) ⊎ ((2 ≤ length victim.threads) × (length after.deques ≡ suc (length m.deques)))

-- An action: it is the next of the worker's top thread, it fits the quota, and a child that it joins has ended.
pub record Acts (s : Setting) (m : Moment) (worker place : ℕ) : Type 0 where
  pub owns : Owns m worker
  pub next : IsNext s.list (done_at m) owns.top place
  pub fits : charged s.quota s.list owns.book.ran + charge_at s.quota s.list place ≤ s.quota
  pub ended : (child : ℕ) → deed_at s.list place ≡ joins child → HasEnded s m (fork_of owns.top child)

-- A wait: the next action is the Join of a child that has not ended, and the thread is alone in its deque.
pub record Suspends (s : Setting) (m : Moment) (worker : ℕ) : Type 0 where
  pub owns : Owns m worker
  pub place : ℕ
  pub child : ℕ
  pub at : IsAtTop s m owns.top place (joins child)
  pub none : ¬ HasEnded s m (fork_of owns.top child)
  pub alone : owns.under ≡ []

abbrev pub Needs : Setting → Moment → ℕ → Event → Moment → Type 0
Needs s m worker (steals place id) after = Steals s m worker place after
Needs s m worker (does place) after = Acts s m worker place
Needs s m worker suspends after = Suspends s m worker
Needs s m worker gives_up after = Owns m worker

module _ (s : Setting) (m : Moment) (lawful : IsLawful s m) (worker : ℕ) where
  acts_by : (o : Owns m worker) (place : ℕ) (deed : Deed) → IsAtTop s m o.top place deed
      → charged s.quota s.list o.book.ran + charge s.quota deed (words_at s.list place) ≤ s.quota
      → ((child : ℕ) → deed ≡ joins child → HasEnded s m (fork_of o.top child)) → Acts s m worker place
  acts_by o place deed at fits ended = record {
    owns = o;
    next = at.next;
    fits = subst (λ d. charged s.quota s.list o.book.ran + charge s.quota d (words_at s.list place) ≤ s.quota) (sym at.deed_is) fits;
    ended = λ child is. ended child (sym at.deed_is ∙ is);
  }

  -- what the period has used fits the quota
  nothing_more : (o : Owns m worker) → charged s.quota s.list o.book.ran + 0 ≤ s.quota
  nothing_more o =
      let has = each_at (IsWithin s.quota s.list) o.older o.book o.newer (subst (λ b. Each (IsWithin s.quota s.list) b) o.books_are ((lawful.periods).lawful).within) in
      omega (arith, has)

  alloc_fits : (o : Owns m worker) (words : ℕ) (n : ℕ) → cond (nat_le words s.quota) words 0 ≡ n → charged s.quota s.list o.book.ran + n ≤ s.quota
      → charged s.quota s.list o.book.ran + charge s.quota allocates words ≤ s.quota
  alloc_fits o words n is fits = subst (λ t. charged s.quota s.list o.book.ran + t ≤ s.quota) (sym is) fits

  -- the deque that stands at the end of what is left of it
  there_is : (left : List Deque) (d : Deque) (right : List Deque) → m.deques ≡ left ++ d ∷ right → slice_get m.deques (length left) ≡ Some d
  there_is left d right are = ap (λ t. slice_get t (length left)) are ∙ get_middle left d right

  pub needs : (event : Event) (after : Moment) → May s m worker event after → Needs s m worker event after
  needs event after (steals_beside left right victim first others bottom id idle near deques_are threads_are new_id) =
      let a : length victim.threads ≡ suc (length (others ++ bottom ∷ [])) = ap length threads_are in let b = length-append others (bottom ∷ []) in
      let was : length m.deques ≡ length left + suc (length right) = ap length deques_are ∙ length-append left (victim ∷ right) in
      let now : length after.deques ≡ length left + suc (suc (length right)) = length-append left (_ ∷ _ ∷ right) in record {
        idle = idle;
        near = near;
        victim = victim;
        there = there_is left victim right deques_are;
        ready = inr (omega (arith, a, b), omega (arith, was, now));
      }
  needs event after (takes_over left right thread id idle near deques_are) = record {
    idle = idle;
    near = near;
    victim = record { id = id; owner = None; threads = thread ∷ [] };
    there = there_is left (record { id = id; owner = None; threads = thread ∷ [] }) right deques_are;
    ready = inl (refl, refl);
  }
  needs event after (forks_child o place child at fits) = acts_by o place (forks child) at fits (λ c is. absurd (fork_is_no_join child c is))
  needs event after (joins_child o place child at has) =
      acts_by o place (joins child) at (nothing_more o) (λ c is. subst (λ t. HasEnded s m (fork_of o.top t)) (one_join child c is) has)
    where
      one_join : (a b : ℕ) → joins a ≡ joins b → a ≡ b
      one_join a b e = cc
  needs event after (allocates_within o place at small fits) =
      acts_by o place allocates at
      (alloc_fits o (words_at s.list place) (words_at s.list place) (ap (λ b. cond b (words_at s.list place) 0) (le-leb (words_at s.list place) s.quota small)) fits)
      (λ c is. absurd (own_alloc.no_join c is))
  needs event after (allocates_above o place at large) =
      acts_by o place allocates at
      (alloc_fits o (words_at s.list place) 0 (ap (λ b. cond b (words_at s.list place) 0) (lt-leb (words_at s.list place) s.quota large)) (nothing_more o))
      (λ c is. absurd (own_alloc.no_join c is))
  needs event after (releases_words o place at) = acts_by o place releases at (nothing_more o) (λ c is. absurd (own_release.no_join c is))
  needs event after (meets_fault o place at) = acts_by o place faults at (nothing_more o) (λ c is. absurd (own_fault.no_join c is))
  needs event after (runs_dummy o place at) = acts_by o place dummy at (nothing_more o) (λ c is. absurd (own_dummy.no_join c is))
  needs event after (ends_above_parent o place child parent below at under_is top_is) =
      acts_by o place ends at (nothing_more o) (λ c is. absurd (end_is_no_join c is))
  needs event after (ends_and_wakes o place before later parent at under_is waiting_is top_is) =
      acts_by o place ends at (nothing_more o) (λ c is. absurd (end_is_no_join c is))
  needs event after (ends_and_leaves o place at under_is unwaited) = acts_by o place ends at (nothing_more o) (λ c is. absurd (end_is_no_join c is))
  needs event after (suspends_top o place child at none under_is) = record { owns = o; place = place; child = child; at = at; none = none; alone = under_is }
  needs event after (gives_deque_up o) = o
