-- One lane and one list show one event.
use Rattle.std.proofs.Common.{ℕ, true≢false, inl, inr, sym, ◌∙◌, arith}
use Rattle.std.specs.Prelude.{Option, None, Some}
use Rattle.hall_actions.specs.Passed.HallNames.{DequeId, Event, HallKey, ListSlot, Next}
use Rattle.hall_slots.specs.declared.event.Event.TheVariants.{Stole, Did, Suspended, GaveUp, Halted}
use Rattle.hall_actions.specs.declared.at_next.AtNext.{AtNext}
use Rattle.hall_owner.specs.Decided.{FitsQuota, IsDue, IsEventOf, IsOverQuota, IsSpent, IsWaiting}
use Rattle.hall_owner.specs.Laws.{IsSameEvent}
use Rattle.thread_frames.specs.declared.next.Next.TheVariants.{Fork, Join, Alloc, Release, Dummy, Fault, End}
use Rattle.depth_first_list.specs.Actions.{record_words}

module _ (key : HallKey) (at : AtNext) where
  fits_or_over : (words : ℕ) → FitsQuota key at words → IsOverQuota key at words → ⊥
  fits_or_over words fits over = elim fits [
    | inl some ↦ let left = some.1 in let more = over.1 in omega (arith, left, more)
    | inr above ↦ let within = over.0 in omega (arith, above, within)
  ]

  due_or_spent : (next : Next) (seen : Option ListSlot) → IsDue key at next seen → IsSpent key at next → ⊥
  due_or_spent Fork seen due spent = fits_or_over record_words due spent
  due_or_spent (Join child) seen due spent = spent
  due_or_spent (Alloc words) seen due spent = fits_or_over words due spent
  due_or_spent (Release words) seen due spent = spent
  due_or_spent Dummy seen due spent = spent
  due_or_spent (Fault fault) seen due spent = spent
  due_or_spent End seen due spent = spent

  due_or_waits : (next : Next) (seen : Option ListSlot) → IsDue key at next seen → IsWaiting at next seen → ⊥
  due_or_waits Fork seen due waits = waits
  due_or_waits (Join child) None due waits = waits
  due_or_waits (Join child) (Some list) due waits = elim due [
    | inl there ↦ true≢false (sym there ∙ waits.0)
    | inr kept ↦ kept waits.1
  ]
  due_or_waits (Alloc words) seen due waits = waits
  due_or_waits (Release words) seen due waits = waits
  due_or_waits Dummy seen due waits = waits
  due_or_waits (Fault fault) seen due waits = waits
  due_or_waits End seen due waits = waits

  waits_or_spent : (next : Next) (seen : Option ListSlot) → IsWaiting at next seen → IsSpent key at next → ⊥
  waits_or_spent Fork seen waits spent = waits
  waits_or_spent (Join child) seen waits spent = spent
  waits_or_spent (Alloc words) seen waits spent = waits
  waits_or_spent (Release words) seen waits spent = waits
  waits_or_spent Dummy seen waits spent = waits
  waits_or_spent (Fault fault) seen waits spent = waits
  waits_or_spent End seen waits spent = waits

pub one_event : (key : HallKey) (deque : DequeId) (at : AtNext) (next : Next) (seen : Option ListSlot) (event other : Event)
    → IsEventOf key deque at next seen event → IsEventOf key deque at next seen other → IsSameEvent event other
one_event key deque at next seen (Stole victim period) other is also = absurd is
one_event key deque at next seen (Did name) (Stole victim period) is also = absurd also
one_event key deque at next seen (Did name) (Did other) is also = tt
one_event key deque at next seen (Did name) (Suspended thread) is also = absurd (due_or_waits key at next seen is also.1)
one_event key deque at next seen (Did name) (GaveUp id) is also = absurd (due_or_spent key at next seen is also.1)
one_event key deque at next seen (Did name) (Halted end) is also = absurd also
one_event key deque at next seen (Suspended thread) (Stole victim period) is also = absurd also
one_event key deque at next seen (Suspended thread) (Did name) is also = absurd (due_or_waits key at next seen also is.1)
one_event key deque at next seen (Suspended thread) (Suspended other) is also = is.0 ∙ sym also.0
one_event key deque at next seen (Suspended thread) (GaveUp id) is also = absurd (waits_or_spent key at next seen is.1 also.1)
one_event key deque at next seen (Suspended thread) (Halted end) is also = absurd also
one_event key deque at next seen (GaveUp id) (Stole victim period) is also = absurd also
one_event key deque at next seen (GaveUp id) (Did name) is also = absurd (due_or_spent key at next seen also is.1)
one_event key deque at next seen (GaveUp id) (Suspended thread) is also = absurd (waits_or_spent key at next seen also.1 is.1)
one_event key deque at next seen (GaveUp id) (GaveUp other) is also = is.0 ∙ sym also.0
one_event key deque at next seen (GaveUp id) (Halted end) is also = absurd also
one_event key deque at next seen (Halted end) other is also = absurd is
