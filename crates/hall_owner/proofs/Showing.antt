-- Which event the looks of an owner show, by the kind of its action and of what it holds.
use Rattle.std.proofs.Common.{◌≡◌, ◌≢◌, ℕ, ◌+◌, ◌≤◌, ◌<◌, true, List, [], ◌∷◌, length, inr, refl, sym, ap, ◌∙◌, subst, arith}
use Rattle.std.proofs.lemmas.Option.{none-some}
use Rattle.std.specs.Prelude.{Option, None, Some}
use Rattle.hall_actions.specs.Passed.HallNames.{DequeId, quota_of, Event, HallKey, ListSlot, PoolSlot, ActionId, ThreadId, is_delivered, children_of, done_of}
use Rattle.hall_actions.specs.Passed.HallNames.{join_words_of, label_of, released_by, Next, Thread, kept_under}
use Rattle.hall_slots.specs.declared.event.Event.TheVariants.{Did, Suspended, GaveUp}
use Rattle.hall_actions.specs.declared.at_next.AtNext.{AtNext}
use Rattle.hall_actions.specs.WithAll.{owned_with}
use Rattle.hall_actions.specs.WithList.{IsNotedFor}
use Rattle.hall_actions.specs.WithPool.{IsWithPool, words_asked_by}
use Rattle.hall_actions.specs.declared.with_all.WholeEvent.{WholeEvent}
use Rattle.hall_actions.specs.declared.with_all.WholeEvent.TheVariants as whole
use Rattle.hall_actions.specs.declared.with_list.ListEvent.{ListEvent}
use Rattle.hall_actions.specs.declared.with_list.ListEvent.TheVariants as listing
use Rattle.hall_owner.proofs.WithList.{some_of}
use Rattle.hall_owner.specs.Asked.{IsAskedByAll, IsAskedByList}
use Rattle.hall_owner.specs.Decided.{ActionNeedsList, ActionNeedsPool, HasItsSlots, IsDue, IsEventOf, IsSpent, IsToDo, IsWaiting}
use Rattle.hall_owner.specs.Decided.{NeedsList, NeedsPool, owned_after, owned_at_end, owned_by}
use Rattle.thread_actions.specs.Readiness.{IsReadiness}
use Rattle.thread_actions.specs.declared.readiness.Readiness.TheVariants.{Ready, Spent}
use Rattle.thread_frames.specs.declared.next.Next.TheVariants.{Fork, Join, Alloc, Release, Dummy, Fault, End}
use Rattle.hall_owner.proofs.Failing.{not_there}

-- ---- by the quota and the results that were handed over

module _ (key : HallKey) (at : AtNext) where
  pub ready_is_due : (charge : ℕ) (next : Next) → IsReadiness at.running.period.used (quota_of key) at.top next (Ready charge) → IsDue key at next None
  ready_is_due charge Fork ready = ready.0
  ready_is_due charge (Join child) ready = ready.0
  ready_is_due charge (Alloc words) ready = ready.0
  ready_is_due charge (Release words) ready = tt
  ready_is_due charge Dummy ready = tt
  ready_is_due charge (Fault fault) ready = tt
  ready_is_due charge End ready = tt

  pub is_spent : (next : Next) → IsReadiness at.running.period.used (quota_of key) at.top next Spent → IsSpent key at next
  is_spent Fork spent = spent
  is_spent (Join child) spent = spent
  is_spent (Alloc words) spent = spent
  is_spent (Release words) spent = spent
  is_spent Dummy spent = spent
  is_spent (Fault fault) spent = spent
  is_spent End spent = spent

  pub spent_again : (next : Next) → IsSpent key at next → IsReadiness at.running.period.used (quota_of key) at.top next Spent
  spent_again Fork spent = spent
  spent_again (Join child) spent = spent
  spent_again (Alloc words) spent = spent
  spent_again (Release words) spent = spent
  spent_again Dummy spent = spent
  spent_again (Fault fault) spent = spent
  spent_again End spent = spent

-- a name for an action of this thread
abbrev pub named : Thread → ActionId
named top = record { by = top.id; index = done_of top }

-- ---- with the pool alone

module _ (key : HallKey) (deque : DequeId) (at : AtNext) where
  no_list : (next : Next) → IsWithPool next at.top at.lane.items → IsDue key at next None → ¬ ActionNeedsList at next
  no_list Fork suits due = λ no. no
  no_list (Join child) suits due = λ missing. not_there missing due
  no_list (Alloc words) suits due = λ no. no
  no_list (Release words) suits due = λ no. no
  no_list Dummy suits due = absurd suits
  no_list (Fault fault) suits due = λ no. no
  no_list End suits due = λ none. suits.1 none

  needs_pool : (next : Next) → IsWithPool next at.top at.lane.items → ActionNeedsPool at next None
  needs_pool Fork suits = tt
  needs_pool (Join child) suits = suits.1
  needs_pool (Alloc words) suits = tt
  needs_pool (Release words) suits = tt
  needs_pool Dummy suits = absurd suits
  needs_pool (Fault fault) suits = tt
  needs_pool End suits = suits.0

  owned_above : (under : List Thread) (waits : Option Thread) → under ≢ [] → Some deque ≡ owned_at_end deque under waits
  owned_above [] waits some = absurd (some refl)
  owned_above (thread ∷ under) waits some = refl

  pub owned_with_pool : (next : Next) → IsWithPool next at.top at.lane.items → Some deque ≡ owned_by deque at next None
  owned_with_pool Fork suits = refl
  owned_with_pool (Join child) suits = refl
  owned_with_pool (Alloc words) suits = refl
  owned_with_pool (Release words) suits = refl
  owned_with_pool Dummy suits = absurd suits
  owned_with_pool (Fault fault) suits = refl
  owned_with_pool End suits = owned_above at.lane.items None suits.1

  module _ (next : Next) (suits : IsWithPool next at.top at.lane.items) (due : IsDue key at next None) (name : ActionId) where
    pub pool_to_do : IsToDo key deque at next None (Did name)
    pool_to_do = record { is_event = due; lists = no_list next suits due; no_end = tt }

    pub asks_for_pool : NeedsPool at next None (Did name)
    asks_for_pool = needs_pool next suits

    module _ (pool : PoolSlot) (fits : pool.pool.live + words_asked_by next ≤ pool.pool.capacity) where
      pub pool_slots : HasItsSlots key deque at next None (Some pool) (Did name)
      pool_slots = record { is_to_do = pool_to_do; pools = asks_for_pool; fits = fits }

  -- with its lane alone
  pub lane_slots : (child : ThreadId) (name : ActionId) → is_delivered child (children_of at.top) ≡ true → join_words_of at.top ≡ 0
      → HasItsSlots key deque at (Join child) None None (Did name)
  lane_slots child name due words = record {
    is_to_do = record { is_event = due; lists = λ missing. not_there missing due; no_end = tt };
    pools = λ some. let no : ⊥ = omega (arith, words, some) in no;
    fits = tt;
  }

-- ---- with the list

-- nobody waits in the list for the root
abbrev pub LeavesNobody : ListSlot → AtNext → ListEvent → Type 0
LeavesNobody list at listing.GiveUp = Unit {0}
LeavesNobody list at (listing.Wait child) = Unit {0}
LeavesNobody list at listing.Dummy = Unit {0}
LeavesNobody list at (listing.Join child) = Unit {0}
LeavesNobody list at listing.RootEnd = kept_under list.part.waiting (Thread.id at.top) ≡ None

-- an event that it may note
abbrev pub noted_for : ListEvent → DequeId → Thread → Event
noted_for listing.GiveUp deque top = GaveUp deque
noted_for (listing.Wait child) deque top = Suspended (Thread.id top)
noted_for listing.Dummy deque top = Did (named top)
noted_for (listing.Join child) deque top = Did (named top)
noted_for listing.RootEnd deque top = Did (named top)

abbrev pub owned_for : ListEvent → DequeId → Option DequeId
owned_for listing.GiveUp deque = None
owned_for (listing.Wait child) deque = None
owned_for listing.Dummy deque = None
owned_for (listing.Join child) deque = Some deque
owned_for listing.RootEnd deque = None

pub notes_it : (event : ListEvent) (deque : DequeId) (top : Thread) → IsNotedFor event deque top (noted_for event deque top) (owned_for event deque)
notes_it listing.GiveUp deque top = (refl, refl)
notes_it (listing.Wait child) deque top = (refl, refl)
notes_it listing.Dummy deque top = (named top, refl, refl)
notes_it (listing.Join child) deque top = (named top, refl, refl)
notes_it listing.RootEnd deque top = (named top, refl, refl)

module _ (key : HallKey) (deque : DequeId) (list : ListSlot) (at : AtNext) (next : Next) where
  ended_alone : (under : List Thread) (waits : Option Thread) → under ≡ [] → waits ≡ None → None ≡ owned_at_end deque under waits
  ended_alone under waits alone nobody =
      sym (ap (λ (u : List Thread). owned_at_end deque u waits) alone ∙ ap (λ (w : Option Thread). owned_at_end deque [] w) nobody)

  module _ (no_end : list.end ≡ None) where
    slots_of : (noted : Event) → IsEventOf key deque at next (Some list) noted → NeedsList at next noted → ¬ NeedsPool at next (Some list) noted
        → HasItsSlots key deque at next (Some list) None noted
    slots_of noted event lists pools = record {
      is_to_do = record { is_event = event; lists = lists; no_end = no_end };
      pools = pools;
      fits = tt;
    }

    is_result : (child : ThreadId) → kept_under list.part.results child ≢ None → next ≡ Join child → IsDue key at next (Some list)
    is_result child there is = subst (λ n. IsDue key at n (Some list)) (sym is) (inr there)

    pub list_slots : (event : ListEvent) → IsAskedByList key list at next event → (noted : Event) (owned : Option DequeId)
        → IsNotedFor event deque at.top noted owned → HasItsSlots key deque at next (Some list) None noted
    list_slots listing.GiveUp asked noted owned notes = subst (HasItsSlots key deque at next (Some list) None) (sym notes.0)
        (slots_of (GaveUp deque) (refl, asked) tt (λ no. no))
    list_slots (listing.Wait child) asked noted owned notes = subst (HasItsSlots key deque at next (Some list) None) (sym notes.0)
        (slots_of (Suspended (Thread.id at.top)) (refl, subst (λ n. IsWaiting at n (Some list)) (sym asked.0) (asked.1, asked.2)) tt (λ no. no))
    list_slots listing.Dummy asked noted owned notes = subst (HasItsSlots key deque at next (Some list) None) (sym notes.1)
        (slots_of (Did notes.0) (subst (λ n. IsDue key at n (Some list)) (sym asked) tt) (subst (ActionNeedsList at) (sym asked) tt)
        (subst (λ n. ¬ ActionNeedsPool at n (Some list)) (sym asked) (λ no. no)))
    list_slots (listing.Join child) asked noted owned notes =
        let there : kept_under list.part.results child ≢ None = λ none. none-some asked.4.0 (sym none ∙ asked.4.1) in
        let nothing : released_by at.top (kept_under list.part.results child) ≡ 0 = ap (released_by at.top) asked.4.1 ∙ sym asked.4.2 ∙ asked.3 in
        let none : 0 < released_by at.top (kept_under list.part.results child) → ⊥ = λ some. omega (arith, nothing, some) in
        subst (HasItsSlots key deque at next (Some list) None) (sym notes.1)
        (slots_of (Did notes.0) (is_result child there asked.0) (subst (ActionNeedsList at) (sym asked.0) asked.1)
        (subst (λ n. ¬ ActionNeedsPool at n (Some list)) (sym asked.0) none))
    list_slots listing.RootEnd asked noted owned notes =
        let nothing : length (label_of at.top) ≡ 0 = ap length asked.1 in
        let none : 0 < length (label_of at.top) → ⊥ = λ some. omega (arith, nothing, some) in
        subst (HasItsSlots key deque at next (Some list) None) (sym notes.1)
        (slots_of (Did notes.0) (subst (λ n. IsDue key at n (Some list)) (sym asked.0) tt) (subst (ActionNeedsList at) (sym asked.0) asked.2)
        (subst (λ n. ¬ ActionNeedsPool at n (Some list)) (sym asked.0) none))

    -- and with the pool
    pub whole_to_do : (event : WholeEvent) → IsAskedByAll list at next event → (name : ActionId) → IsToDo key deque at next (Some list) (Did name)
    whole_to_do (whole.Join child) asked name = record {
      is_event = is_result child (λ none. none-some asked.4.0 (sym none ∙ asked.4.1)) asked.0;
      lists = subst (ActionNeedsList at) (sym asked.0) asked.1;
      no_end = no_end;
    }
    whole_to_do whole.Wake asked name = record {
      is_event = subst (λ n. IsDue key at n (Some list)) (sym asked.0) tt;
      lists = subst (ActionNeedsList at) (sym asked.0) asked.2;
      no_end = no_end;
    }
    whole_to_do whole.Leave asked name = record {
      is_event = subst (λ n. IsDue key at n (Some list)) (sym asked.0) tt;
      lists = subst (ActionNeedsList at) (sym asked.0) asked.2;
      no_end = no_end;
    }

  pub whole_needs : (event : WholeEvent) → IsAskedByAll list at next event → ActionNeedsPool at next (Some list)
  whole_needs (whole.Join child) asked =
      let words : released_by at.top (kept_under list.part.results child) ≡ asked.2 = ap (released_by at.top) asked.4.1 ∙ sym asked.4.2 in
      subst (λ n. ActionNeedsPool at n (Some list)) (sym asked.0) (subst (λ n. 0 < n) (sym words) asked.3)
  whole_needs whole.Wake asked = subst (λ n. ActionNeedsPool at n (Some list)) (sym asked.0) asked.1
  whole_needs whole.Leave asked = subst (λ n. ActionNeedsPool at n (Some list)) (sym asked.0) asked.1

  whole_fits : (event : WholeEvent) → IsAskedByAll list at next event → (live capacity : ℕ) → live ≤ capacity → live + words_asked_by next ≤ capacity
  whole_fits (whole.Join child) asked live capacity within = subst (λ n. live + words_asked_by n ≤ capacity) (sym asked.0) (omega (arith, within))
  whole_fits whole.Wake asked live capacity within = subst (λ n. live + words_asked_by n ≤ capacity) (sym asked.0) (omega (arith, within))
  whole_fits whole.Leave asked live capacity within = subst (λ n. live + words_asked_by n ≤ capacity) (sym asked.0) (omega (arith, within))

  pub whole_slots : list.end ≡ None → (event : WholeEvent) → IsAskedByAll list at next event → (name : ActionId) (pool : PoolSlot)
      → pool.pool.live ≤ pool.pool.capacity → HasItsSlots key deque at next (Some list) (Some pool) (Did name)
  whole_slots no_end event asked name pool within = record {
    is_to_do = whole_to_do no_end event asked name;
    pools = whole_needs event asked;
    fits = whole_fits event asked pool.pool.live pool.pool.capacity within;
  }

  -- which deque it owns then
  pub list_owned : (event : ListEvent) → IsAskedByList key list at next event → LeavesNobody list at event → (noted : Event) (owned : Option DequeId)
      → IsNotedFor event deque at.top noted owned → owned ≡ owned_after deque at next (Some list) noted
  list_owned listing.GiveUp asked nobody noted owned notes =
      subst (λ e. owned ≡ owned_after deque at next (Some list) e) (sym notes.0) notes.1
  list_owned (listing.Wait child) asked nobody noted owned notes =
      subst (λ e. owned ≡ owned_after deque at next (Some list) e) (sym notes.0) notes.1
  list_owned listing.Dummy asked nobody noted owned notes = subst (λ e. owned ≡ owned_after deque at next (Some list) e) (sym notes.1)
      (notes.2 ∙ ap (λ n. owned_by deque at n (Some list)) (sym asked))
  list_owned (listing.Join child) asked nobody noted owned notes = subst (λ e. owned ≡ owned_after deque at next (Some list) e) (sym notes.1)
      (notes.2 ∙ ap (λ n. owned_by deque at n (Some list)) (sym asked.0))
  list_owned listing.RootEnd asked nobody noted owned notes = subst (λ e. owned ≡ owned_after deque at next (Some list) e) (sym notes.1)
      (notes.2 ∙ ended_alone at.lane.items (kept_under list.part.waiting (Thread.id at.top)) asked.2 nobody
      ∙ ap (λ n. owned_by deque at n (Some list)) (sym asked.0))

  woken : (under : List Thread) (waits : Option Thread) (parent : Thread) → under ≡ [] → waits ≡ Some parent
      → Some deque ≡ owned_at_end deque under waits
  woken under waits parent alone waiting =
      sym (ap (λ (u : List Thread). owned_at_end deque u waits) alone ∙ ap (λ (w : Option Thread). owned_at_end deque [] w) waiting)

  pub whole_owned : (event : WholeEvent) → IsAskedByAll list at next event → (owned : Option DequeId) → owned ≡ owned_with event deque
      → owned ≡ owned_by deque at next (Some list)
  whole_owned (whole.Join child) asked owned is = is ∙ ap (λ n. owned_by deque at n (Some list)) (sym asked.0)
  whole_owned whole.Wake asked owned is = let parent = some_of (kept_under list.part.waiting (Thread.id at.top)) asked.3 in
      is ∙ woken at.lane.items (kept_under list.part.waiting (Thread.id at.top)) parent.0 asked.2 parent.1
      ∙ ap (λ n. owned_by deque at n (Some list)) (sym asked.0)
  whole_owned whole.Leave asked owned is = is ∙ ended_alone at.lane.items (kept_under list.part.waiting (Thread.id at.top)) asked.2 asked.3
      ∙ ap (λ n. owned_by deque at n (Some list)) (sym asked.0)
