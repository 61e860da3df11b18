-- What the rules want may come.
use Rattle.std.proofs.Common.{◌≡◌, ◌≢◌, ℕ, zero, suc, ◌+◌, ◌≤◌, ◌<◌, ◌⊎◌, List, [], ◌∷◌, ◌++◌, length, inl, inr, refl, sym, ap, subst, ◌∙◌, arith, cond, true≢false, mod-lt}
use Rattle.std.specs.Prelude.{Option, None, Some, is_some, slice_get, unwrap_or}
use Rattle.std.proofs.lemmas.Bool.{cases_lt, le-leb}
use Rattle.dag_order.specs.LabelOrder.{fork_of}
use Rattle.dag_order.specs.LabelLaws.{three_ways, never_before_itself}
use Rattle.depth_first_run.specs.Passed.Actions.{Deed, forks, joins, allocates, releases, dummy, faults, ends}
use Rattle.depth_first_run.specs.Passed.Runs.{IsDepthFirst}
use Rattle.depth_first_run.specs.Passed.Facts.{deed_at, words_at, IsLive, IsNext}
use Rattle.deque_machine.specs.Lists.{Each}
use Rattle.deque_machine.specs.Books.{charge, charge_at, charged}
use Rattle.deque_machine.proofs.Lists.{each_at, by_end, cons_is_not_nil}
use Rattle.deque_machine.specs.Moments.{Deque, Waiting, Moment, done_at, owned_by, with_id}
use Rattle.deque_machine.specs.Machine.{Setting, Event, steals, does, Owns, IsAtTop, HasEnded, May, steals_beside, takes_over, forks_child, joins_child, allocates_within, allocates_above, releases_words, meets_fault, runs_dummy, ends_above_parent, ends_and_wakes, ends_and_leaves, suspends_top, gives_deque_up}
use Rattle.deque_machine.specs.LawfulOrder.{Stacked, ChildrenAbove, IsLawful, Waits}
use Rattle.deque_machine.specs.Play.{IsReady, reach, IsThiefsId, Stays, Wants, a_theft, a_give_up, a_wait, an_action}
use Rattle.deque_machine.proofs.KeptOrder.{suspended}
use Rattle.dag_order.specs.LabelOrder.{Before as ComesBefore}

-- a moment behind an event
abbrev pub Comes : Setting → Moment → ℕ → Event → Type 0
Comes s m worker event = (after : Moment) × May s m worker event after

-- the element at a place, cut out
pub cut_place : {X : Type 0} → (xs : List X) (place : ℕ) (x : X) → slice_get xs place ≡ Some x → (left right : List X) × (xs ≡ left ++ x ∷ right) × (length left ≡ place)
cut_place [] place x is = absurd (true≢false (sym (ap is_some is)))
cut_place (y ∷ xs) zero x is = ([], xs, ap (λ t. t ∷ xs) (ap (λ o. unwrap_or o x) is), refl)
cut_place (y ∷ xs) (suc place) x is =
    let rest = cut_place xs place x is in let n = rest.3 in (y ∷ rest.0, rest.1, ap (λ t. y ∷ t) rest.2, ap suc n)

some_is_not_none : (t : List ℕ) → ¬ (None ≡ Some t)
some_is_not_none t is = true≢false (sym (ap is_some is))

pub same_label : (a b : List ℕ) → (a ≡ b) ⊎ (a ≢ b)
same_label a b = elim (three_ways a b) [
  | inl before ↦ inr (λ e. never_before_itself b (subst (λ t. ComesBefore t b) e before))
  | inr r ↦ elim r [ inl same ↦ inl same | inr behind ↦ inr (λ e. never_before_itself b (subst (λ t. ComesBefore b t) e behind)) ]
]

-- a waiting thread whose child this is, cut out, or there is none
who_waits : (top : List ℕ) (ws : List Waiting) → ((before later : List Waiting) × (w : Waiting) × (ws ≡ before ++ w ∷ later) × (top ≡ fork_of w.thread w.child)) ⊎ Each (λ w. top ≢ fork_of w.thread w.child) ws
who_waits top [] = inr tt
who_waits top (w ∷ ws) = elim (same_label top (fork_of w.thread w.child)) [
  | inl same ↦ inl ([], ws, w, refl, same)
  | inr other ↦ elim (who_waits top ws) [
    | inl found ↦ inl (w ∷ found.0, found.1, found.2, ap (λ t. w ∷ t) found.3, found.4)
    | inr none ↦ inr (other, none)
  ]
]

module _ (s : Setting) (list : IsDepthFirst s.quota s.list) (m : Moment) (lawful : IsLawful s m) (worker : ℕ) where
  -- the worker's deque as it stands
  own_threads : (P : Deque → Type 0) → Each P m.deques → (o : Owns m worker) → P (record { id = o.id; owner = Some worker; threads = o.top ∷ o.under })
  own_threads P all o = each_at P o.left (record { id = o.id; owner = Some worker; threads = o.top ∷ o.under }) o.right (subst (λ t. Each P t) o.deques_are all)

  -- a thread that has to wait is alone in its deque
  pub waits_alone : (o : Owns m worker) (place child : ℕ) → IsAtTop s m o.top place (joins child) → ¬ HasEnded s m (fork_of o.top child) → o.under ≡ []
  waits_alone o place child at none =
      let waits : Waits s.list (done_at m) (record { thread = o.top; child = child }) = suspended s list m lawful.order (lawful.periods).lawful worker o place child at none in
      by_under o.under (own_threads (λ d. ChildrenAbove s.list (done_at m) None d.threads) (lawful.order).children_above o) waits.child_live
    where
      by_under : (under : List (List ℕ)) → ChildrenAbove s.list (done_at m) None (o.top ∷ under) → IsLive s.list (done_at m) (fork_of o.top child) → under ≡ []
      by_under [] all live = refl
      by_under (parent ∷ below) all live = absurd (some_is_not_none (fork_of o.top child) (all.0 child live))

  -- an End may always come
  end_comes : (o : Owns m worker) (place : ℕ) → IsAtTop s m o.top place ends → Comes s m worker (does place)
  end_comes o place at = by_under o.under refl (own_threads (λ d. Stacked d.threads) (lawful.order).stacked o)
    where
      by_under : (under : List (List ℕ)) → o.under ≡ under → Stacked (o.top ∷ o.under) → Comes s m worker (does place)
      by_under [] is stacked = elim (who_waits o.top m.waiting) [
        | inl found ↦ (_, ends_and_wakes o place found.0 found.1 found.2 at is found.3 found.4)
        | inr none ↦ (_, ends_and_leaves o place at is none)
      ]
      by_under (parent ∷ below) is stacked =
          let forked : (child : ℕ) × (o.top ≡ fork_of parent child) = (subst (λ t. Stacked (o.top ∷ t)) is stacked).0 in
          (_, ends_above_parent o place forked.0 parent below at is forked.1)

  action_comes : (o : Owns m worker) (place : ℕ) → IsNext s.list (done_at m) o.top place → ((child : ℕ) → deed_at s.list place ≡ joins child → HasEnded s m (fork_of o.top child))
      → charged s.quota s.list o.book.ran + charge_at s.quota s.list place ≤ s.quota → Comes s m worker (does place)
  action_comes o place next has fits = by_deed (deed_at s.list place) refl fits
    where
      by_deed : (deed : Deed) → deed_at s.list place ≡ deed → charged s.quota s.list o.book.ran + charge s.quota deed (words_at s.list place) ≤ s.quota → Comes s m worker (does place)
      by_deed (forks child) is fits = (_, forks_child o place child (record { next = next; deed_is = is }) fits)
      by_deed (joins child) is fits = (_, joins_child o place child (record { next = next; deed_is = is }) (has child is))
      by_deed allocates is fits = elim (cases_lt s.quota (words_at s.list place)) [
        | inl large ↦ (_, allocates_above o place (record { next = next; deed_is = is }) large)
        | inr small ↦ (
          _,
          allocates_within o place (record { next = next; deed_is = is }) small
              (subst (λ b. charged s.quota s.list o.book.ran + cond b (words_at s.list place) 0 ≤ s.quota) (le-leb (words_at s.list place) s.quota small) fits),
        )
      ]
      by_deed releases is fits = (_, releases_words o place (record { next = next; deed_is = is }))
      by_deed dummy is fits = (_, runs_dummy o place (record { next = next; deed_is = is }))
      by_deed faults is fits = (_, meets_fault o place (record { next = next; deed_is = is }))
      by_deed ends is fits = end_comes o place (record { next = next; deed_is = is })

  theft_comes : worker < s.workers → owned_by worker m.deques ≡ 0 → (place id : ℕ) → place < s.workers → IsReady m place → IsThiefsId m place id → Comes s m worker (steals place id)
  theft_comes below idle place id near ready named =
      let cut = cut_place m.deques place ready.0 ready.1 in
      let same : ready.0 ≡ named.0 = ap (λ o. unwrap_or o ready.0) (sym ready.1 ∙ named.1) in
      let left_near : length cut.0 < s.workers = subst (λ n. n < s.workers) (sym cut.3) near in
      subst (λ n. Comes s m worker (steals n id)) cut.3
      (by_threads cut.0 cut.1 ready.0 cut.2 left_near (ready.0).owner (ready.0).threads refl refl ready.2
      (subst (λ d. (¬ Stays d × (id ≡ d.id)) ⊎ (Stays d × (with_id id m.deques ≡ 0) × ((i : ℕ) → i < id → 0 < with_id i m.deques))) (sym same) named.2))
    where
      by_threads : (left right : List Deque) (d : Deque) → m.deques ≡ left ++ d ∷ right → length left < s.workers → (owner : Option ℕ) (threads : List (List ℕ)) → d.owner ≡ owner → d.threads ≡ threads
          → (d.owner ≡ None) ⊎ (2 ≤ length d.threads)
          → (¬ Stays d × (id ≡ d.id)) ⊎ (Stays d × (with_id id m.deques ≡ 0) × ((i : ℕ) → i < id → 0 < with_id i m.deques)) → Comes s m worker (steals (length left) id)
      by_threads left right d cut near owner [] o t ready named =
          absurd (each_at (λ d. d.threads ≢ []) left d right (subst (λ u. Each (λ d. d.threads ≢ []) u) cut (lawful.order).none_empty) t)
      by_threads left right d cut near None (thread ∷ []) o t ready named =
          let whole : d ≡ record { id = d.id; owner = None; threads = thread ∷ [] } = λ i. record { id = d.id; owner = o i; threads = t i } in
          elim named [
            | inl taken ↦
                let e : d ≡ record { id = id; owner = None; threads = thread ∷ [] } = whole ∙ ap (λ n. record { id = n; owner = None; threads = thread ∷ [] }) (sym taken.1) in
                (_, takes_over left right thread id (record { is_worker = below; owns_none = idle }) near (cut ∙ ap (λ t. left ++ t ∷ right) e))
            | inr new ↦ absurd (elim new.0 [ inl owned ↦ owned o | inr many ↦ let one : length d.threads ≡ 1 = ap length t in absurd (omega arith) ])
          ]
      by_threads left right d cut near (Some w) (thread ∷ []) o t ready named =
          absurd (elim ready [ inl none ↦ true≢false (sym (ap is_some (sym none ∙ o))) | inr many ↦ let one : length d.threads ≡ 1 = ap length t in absurd (omega arith) ])
      by_threads left right d cut near owner (first ∷ second ∷ more) o t ready named =
          let two : length d.threads ≡ suc (suc (length more)) = ap length t in
          elim named [
            | inl taken ↦ absurd (taken.0 (inr (omega arith)))
            | inr new ↦ elim (by_end (second ∷ more)) [
              | inl none ↦ absurd (cons_is_not_nil second more none)
              | inr parts ↦ (_, steals_beside left right d first parts.0 parts.1 id (record { is_worker = below; owns_none = idle }) near cut (t ∙ ap (λ u. first ∷ u) parts.2) new.1)
            ]
          ]

  -- what is wanted of a worker may come
  pub wanted_comes : worker < s.workers → (word : ℕ) (event : Event) → Wants s m worker word event → Comes s m worker event
  wanted_comes below word event (a_theft place id idle first named) =
      let turns = first.few in
      let near : place < reach s m = subst (λ t. t < reach s m) (sym first.is) (mod-lt (word + first.turns) (let some : 0 < reach s m = omega arith in some)) in
      theft_comes below idle place id (omega arith) first.passes named
  wanted_comes below word event (a_give_up forced) = (_, gives_deque_up forced.owner)
  wanted_comes below word event (a_wait o place child at none) = (_, suspends_top o place child at none (waits_alone o place child at none))
  wanted_comes below word event (an_action o place next has fits) = action_comes o place next has fits
