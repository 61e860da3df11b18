-- Which refusal the looks of an owner show, by where it failed.
use Rattle.std.proofs.Common.{◌≡◌, ℕ, ◌+◌, ◌<◌, List, [], ◌∷◌, ◌++◌, inl, inr, refl, sym, ap, ◌∙◌, subst}
use Rattle.std.specs.Prelude.{None, Some}
use Rattle.hall_actions.specs.Passed.HallNames.{DequeId, Event, HallKey, ListSlot, PoolSlot, Slot, ActionId, Next}
use Rattle.hall_slots.specs.declared.event.Event.TheVariants.{Did}
use Rattle.hall_slots.specs.declared.slot.Slot.TheVariants as slots
use Rattle.hall_actions.specs.declared.at_next.AtNext.{AtNext}
use Rattle.hall_actions.specs.WithPool.{IsWithPool, words_asked_by}
use Rattle.hall_owner.proofs.Showing.{asks_for_pool, pool_to_do}
use Rattle.hall_owner.specs.Acting.{IsRefusalWith}
use Rattle.hall_owner.specs.Decided.{HasItsSlots, IsDue, IsToDo, NeedsCount, NeedsPool}
use Rattle.hall_owner.specs.Holding.{AtCount, AtList, AtMemory, AtPool, looks_of}
use Rattle.hall_owner.specs.Refusing.{AsksForList, IsRefusal}
use Rattle.hall_owner.specs.Taken.{list_in, looks_in, pool_in}
use Rattle.hall_actions.specs.declared.refused.ActRefused.{ActRefused}
use Rattle.hall_actions.specs.declared.refused.ActRefused.TheVariants.{Busy, Over, Stopped}
use Rattle.hall_owner.specs.declared.taken.Taken.{Taken}
use Rattle.hall_owner.specs.declared.taken.Taken.TheVariants.{OnLane, WithPool, WithList, WithAll}
use Rattle.play_rules.specs.declared.stop.Stop.TheVariants.{ArenaFull}
use Rattle.turn_table.specs.declared.held.Held.{Held}
use Rattle.turn_table.specs.declared.look.Look.{Look}
use Rattle.turn_table.specs.declared.look.Look.TheVariants.{Took, Refused, Counted}

-- what it saw of the list and the pool, and then no more, or a count
uncounted : (taken : Taken) → looks_in taken ++ [] ≡ looks_of (record { list = list_in taken; pool = pool_in taken; count = None }) ++ []
uncounted (OnLane child) = refl
uncounted (WithPool pool next charge) = refl
uncounted (WithList list event) = refl
uncounted (WithAll list pool event) = refl

counted : (taken : Taken) (found : ℕ)
    → looks_in taken ++ Counted found ∷ [] ≡ looks_of (record { list = list_in taken; pool = pool_in taken; count = Some found }) ++ []
counted (OnLane child) found = refl
counted (WithPool pool next charge) found = refl
counted (WithList list event) found = refl
counted (WithAll list pool event) found = refl

module _ (key : HallKey) (deque : DequeId) (at : AtNext) (next : Next) where
  -- at the list
  pub list_refusal : AsksForList key at next → (more : List (Look Slot)) (refused : ActRefused) → AtList more refused
      → IsRefusal key deque at next more refused
  list_refusal asks more (Busy held) a = (record { list = None; pool = None; count = None }, (refl, refl, inl (a.0, refl, asks)), a.1)
  list_refusal asks more (Over end) a = (record { list = Some a.0; pool = None; count = None }, (refl, refl, a.1, asks), a.2)
  list_refusal asks more (Stopped stop) a = absurd a

  -- before a count, and at it
  module _ (taken : Taken) (event : Event) (has : HasItsSlots key deque at next (list_in taken) (pool_in taken) event) where
    pub memory_refusal : (rest : List (Look Slot)) (refused : ActRefused) → AtMemory rest refused → IsRefusalWith key deque at next taken rest refused
    memory_refusal rest refused a = subst (λ r. IsRefusalWith key deque at next taken rest r) (sym a.0) (
      record { list = list_in taken; pool = pool_in taken; count = None },
      (refl, event, has),
      ap (λ more. looks_in taken ++ more) a.1 ∙ uncounted taken,
    )

    pub count_refusal : NeedsCount event → (rest : List (Look Slot)) (refused : ActRefused) → AtCount key.actions rest refused
        → IsRefusalWith key deque at next taken rest refused
    count_refusal counts rest refused a = subst (λ r. IsRefusalWith key deque at next taken rest r) (sym a.2) (
      record { list = list_in taken; pool = pool_in taken; count = Some a.0 },
      (refl, a.1, event, has, counts),
      ap (λ more. looks_in taken ++ more) a.3 ∙ counted taken a.0,
    )

  -- at the pool, which it tried with its lane alone,
  module _ (suits : IsWithPool next at.top at.lane.items) (due : IsDue key at next None) (name : ActionId) where
    pub busy_refusal : (held : Held) → held.slot ≡ 1 → IsRefusal key deque at next (Refused held.slot held.seen ∷ []) (Busy held)
    busy_refusal held is = (
      record { list = None; pool = None; count = None },
      (refl, refl, inr (is, (Did name, pool_to_do key deque at next suits due name, asks_for_pool key deque at next suits due name))),
      refl,
    )

    pub full_refusal : (pool : PoolSlot) → pool.pool.capacity < pool.pool.live + words_asked_by next
        → IsRefusal key deque at next (Took 1 (slots.Pool pool) ∷ []) (Stopped (ArenaFull pool.pool.live (words_asked_by next)))
    full_refusal pool full = (
      record { list = None; pool = Some pool; count = None },
      (refl, (Did name, pool_to_do key deque at next suits due name, asks_for_pool key deque at next suits due name), refl, (refl, full)),
      refl,
    )

  -- or with the list
  pub pool_too_refusal : (list : ListSlot) (event : Event) → IsToDo key deque at next (Some list) event → NeedsPool at next (Some list) event
      → (more : List (Look Slot)) (refused : ActRefused) → AtPool more refused → IsRefusal key deque at next (Took 0 (slots.List list) ∷ more) refused
  pool_too_refusal list event to_do needs more (Busy held) a = (
    record { list = Some list; pool = None; count = None },
    (refl, refl, inr (a.0, (event, to_do, needs))),
    ap (λ (looks : List (Look Slot)). Took 0 (slots.List list) ∷ looks) a.1,
  )
  pool_too_refusal list event to_do needs more (Over end) a = absurd a
  pool_too_refusal list event to_do needs more (Stopped stop) a = absurd a
