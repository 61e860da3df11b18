-- Which event an owner does with what it took.
use Rattle.std.proofs.Common.{◌≡◌, ℕ, Bool, true, false, true≢false, refl, sym, ap, ◌∙◌, subst}
use Rattle.std.specs.Prelude.{Option, None, Some}
use Rattle.hall_actions.specs.Passed.HallNames.{DequeId, Event, HallKey, PoolIsSound, Next, Thread}
use Rattle.hall_slots.specs.declared.event.Event.TheVariants.{Did}
use Rattle.hall_actions.specs.declared.at_next.AtNext.{AtNext}
use Rattle.hall_actions.specs.Passed.NotingVariants.{Same}
use Rattle.hall_actions.specs.WithAll.{owned_with}
use Rattle.hall_actions.specs.WithList.{is_action, IsNamedAs, IsNotedFor}
use Rattle.hall_actions.specs.declared.with_list.ListEvent.{ListEvent}
use Rattle.hall_actions.specs.declared.with_list.ListEvent.TheVariants as listing
use Rattle.hall_owner.proofs.Showing.{LeavesNobody, lane_slots, list_owned, list_slots, named, noted_for, notes_it, owned_for, owned_with_pool}
use Rattle.hall_owner.proofs.Showing.{pool_slots, whole_owned, whole_slots}
use Rattle.hall_owner.specs.Asked.{IsAskedFor}
use Rattle.hall_owner.specs.Decided.{Decides, HasItsSlots, IsBelow, IsTakenIf, NeedsCount, owned_after, owned_by}
use Rattle.hall_owner.specs.Taken.{list_in, pool_in, HasMoreOf, IsActionOf, IsNotedOn, IsQuietOnLane}
use Rattle.hall_owner.specs.declared.taken.Taken.{Taken}
use Rattle.hall_owner.specs.declared.taken.Taken.TheVariants.{OnLane, WithPool, WithList, WithAll}
use Rattle.thread_frames.specs.declared.next.Next.TheVariants as nexts

-- an event is an action or is none
pub is_one : (taken : Taken) (b c : Bool) → IsActionOf taken b → IsActionOf taken c → b ≡ c
is_one (OnLane child) b c is has = is ∙ sym has
is_one (WithPool pool next charge) b c is has = is ∙ sym has
is_one (WithList list event) b c is has = is ∙ sym has
is_one (WithAll list pool event) b c is has = is ∙ sym has

pub is_none : (taken : Taken) → IsActionOf taken false → ¬ IsActionOf taken true
is_none taken none is = true≢false (is_one taken true false is none)

-- so it is with more memory, and what it notes too
pub same_action : (was now : Taken) → HasMoreOf was now → (b : Bool) → IsActionOf now b → IsActionOf was b
same_action (OnLane child) now more b is = subst (λ t. IsActionOf t b) more is
same_action (WithPool pool next charge) now more b is = subst (λ t. IsActionOf t b) more.1 is
same_action (WithList list event) now more b is = subst (λ t. IsActionOf t b) more.1 is
same_action (WithAll list pool event) now more b is = subst (λ t. IsActionOf t b) more.2 is

pub same_notes : (was now : Taken) → HasMoreOf was now → (deque : DequeId) (top : Thread) (event : Event) (owned : Option DequeId)
    → IsNotedOn now deque top event owned → IsNotedOn was deque top event owned
same_notes (OnLane child) now more deque top event owned = subst (λ t. IsNotedOn t deque top event owned) more
same_notes (WithPool pool next charge) now more deque top event owned = subst (λ t. IsNotedOn t deque top event owned) more.1
same_notes (WithList list its) now more deque top event owned = subst (λ t. IsNotedOn t deque top event owned) more.1
same_notes (WithAll list pool its) now more deque top event owned = subst (λ t. IsNotedOn t deque top event owned) more.2

-- an event that it may note
abbrev pub noted_on : Taken → DequeId → Thread → Event
noted_on (OnLane child) deque top = Did (named top)
noted_on (WithPool pool next charge) deque top = Did (named top)
noted_on (WithList list event) deque top = noted_for event deque top
noted_on (WithAll list pool event) deque top = Did (named top)

abbrev pub owned_on : Taken → DequeId → Option DequeId
owned_on (OnLane child) deque = Some deque
owned_on (WithPool pool next charge) deque = Some deque
owned_on (WithList list event) deque = owned_for event deque
owned_on (WithAll list pool event) deque = owned_with event deque

pub notes_on : (taken : Taken) (deque : DequeId) (top : Thread) → IsNotedOn taken deque top (noted_on taken deque top) (owned_on taken deque)
notes_on (OnLane child) deque top = (named top, refl, refl)
notes_on (WithPool pool next charge) deque top = (named top, refl, refl)
notes_on (WithList list event) deque top = notes_it event deque top
notes_on (WithAll list pool event) deque top = (named top, refl, refl)

-- it is counted exactly if it is an action
list_counts : (event : ListEvent) (deque : DequeId) (top : Thread) (noted : Event) (owned : Option DequeId) → IsNotedFor event deque top noted owned
    → true ≡ is_action event → NeedsCount noted
list_counts listing.GiveUp deque top noted owned notes is = absurd (true≢false is)
list_counts (listing.Wait child) deque top noted owned notes is = absurd (true≢false is)
list_counts listing.Dummy deque top noted owned notes is = subst NeedsCount (sym notes.1) tt
list_counts (listing.Join child) deque top noted owned notes is = subst NeedsCount (sym notes.1) tt
list_counts listing.RootEnd deque top noted owned notes is = subst NeedsCount (sym notes.1) tt

list_acts : (event : ListEvent) (deque : DequeId) (top : Thread) (noted : Event) (owned : Option DequeId) → IsNotedFor event deque top noted owned
    → NeedsCount noted → true ≡ is_action event
list_acts listing.GiveUp deque top noted owned notes counts = absurd (subst NeedsCount notes.0 counts)
list_acts (listing.Wait child) deque top noted owned notes counts = absurd (subst NeedsCount notes.0 counts)
list_acts listing.Dummy deque top noted owned notes counts = refl
list_acts (listing.Join child) deque top noted owned notes counts = refl
list_acts listing.RootEnd deque top noted owned notes counts = refl

module _ (deque : DequeId) (top : Thread) (noted : Event) (owned : Option DequeId) where
  pub needs_count : (taken : Taken) → IsNotedOn taken deque top noted owned → IsActionOf taken true → NeedsCount noted
  needs_count (OnLane child) notes is = subst NeedsCount (sym notes.1) tt
  needs_count (WithPool pool next charge) notes is = subst NeedsCount (sym notes.1) tt
  needs_count (WithList list event) notes is = list_counts event deque top noted owned notes is
  needs_count (WithAll list pool event) notes is = subst NeedsCount (sym notes.1) tt

  is_counted : (taken : Taken) → IsNotedOn taken deque top noted owned → NeedsCount noted → IsActionOf taken true
  is_counted (OnLane child) notes counts = refl
  is_counted (WithPool pool next charge) notes counts = refl
  is_counted (WithList list event) notes counts = list_acts event deque top noted owned notes counts
  is_counted (WithAll list pool event) notes counts = refl

  counts_if : (taken : Taken) → IsNotedOn taken deque top noted owned → (count : Option ℕ) → IsTakenIf (IsActionOf taken true) count
      → IsTakenIf (NeedsCount noted) count
  counts_if taken notes None is = λ needs. is (is_counted taken notes needs)
  counts_if taken notes (Some found) is = needs_count taken notes is

-- the pool that it took is sound; nobody waits in the list for the root
abbrev pub SoundIn : HallKey → Taken → Type 0
SoundIn key (OnLane child) = Unit {0}
SoundIn key (WithPool pool next charge) = PoolIsSound key pool
SoundIn key (WithList list event) = Unit {0}
SoundIn key (WithAll list pool event) = PoolIsSound key pool

abbrev pub NobodyIn : AtNext → Taken → Type 0
NobodyIn at (OnLane child) = Unit {0}
NobodyIn at (WithPool pool next charge) = Unit {0}
NobodyIn at (WithList list event) = LeavesNobody list at event
NobodyIn at (WithAll list pool event) = Unit {0}

module _ (key : HallKey) (deque : DequeId) (worker : ℕ) (at : AtNext) (next : Next) (noted : Event) (owned : Option DequeId) where
  pub slots_on : (taken : Taken) → IsAskedFor key worker at next taken → SoundIn key taken → IsNotedOn taken deque at.top noted owned
      → HasItsSlots key deque at next (list_in taken) (pool_in taken) noted
  slots_on (OnLane child) asked sound notes = subst (λ n. HasItsSlots key deque at n None None noted) (sym asked.0)
      (subst (HasItsSlots key deque at (nexts.Join child) None None) (sym notes.1) (lane_slots key deque at child notes.0 asked.2 asked.3))
  slots_on (WithPool pool action charge) asked sound notes = subst (HasItsSlots key deque at next None (Some pool)) (sym notes.1)
      (pool_slots key deque at next asked.1.suits asked.1.due notes.0 pool asked.2)
  slots_on (WithList list event) asked sound notes = list_slots key deque list at next asked.0 event asked.1 noted owned notes
  slots_on (WithAll list pool event) asked sound notes = subst (HasItsSlots key deque at next (Some list) (Some pool)) (sym notes.1)
      (whole_slots key deque list at next asked.0 event asked.1 notes.0 pool sound.within)

  owns_on : (taken : Taken) → IsAskedFor key worker at next taken → NobodyIn at taken → IsNotedOn taken deque at.top noted owned
      → owned ≡ owned_after deque at next (list_in taken) noted
  owns_on (OnLane child) asked nobody notes = subst (λ e. owned ≡ owned_after deque at next None e) (sym notes.1)
      (notes.2 ∙ ap (λ n. owned_by deque at n None) (sym asked.0))
  owns_on (WithPool pool action charge) asked nobody notes = subst (λ e. owned ≡ owned_after deque at next None e) (sym notes.1)
      (notes.2 ∙ owned_with_pool key deque at next asked.1.suits)
  owns_on (WithList list event) asked nobody notes = list_owned key deque list at next event asked.1 nobody noted owned notes
  owns_on (WithAll list pool event) asked nobody notes = subst (λ e. owned ≡ owned_after deque at next (Some list) e) (sym notes.1)
      (whole_owned key deque list at next event asked.1 owned notes.2)

  -- by what it saw it did the event
  pub decides_on : (taken : Taken) → IsAskedFor key worker at next taken → SoundIn key taken → NobodyIn at taken
      → IsNotedOn taken deque at.top noted owned → IsNamedAs at.top noted → (count : Option ℕ) → IsTakenIf (IsActionOf taken true) count
      → IsBelow key.actions count
      → Decides key deque at next (record { list = list_in taken; pool = pool_in taken; count = count }) noted owned
  decides_on taken asked sound nobody notes name count counts below = record {
    named = name;
    slots = slots_on taken asked sound notes;
    counts = counts_if deque at.top noted owned taken notes count counts;
    below = below;
    owns = owns_on taken asked nobody notes;
  }

-- a seat may always note nothing new
pub quiet_same : (taken : Taken) → IsQuietOnLane taken Same
quiet_same (OnLane child) = refl
quiet_same (WithPool pool next charge) = tt
quiet_same (WithList list event) = tt
quiet_same (WithAll list pool event) = tt
