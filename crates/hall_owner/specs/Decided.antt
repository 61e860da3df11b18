-- Which event an owner does: by the action before which its top thread is, and by what the owner saw.
use Rattle.std.specs.Prelude.{◌≡◌, ◌≢◌, ◌⊎◌, ℕ, ◌+◌, ◌<◌, ◌≤◌, true, false, Option, None, Some, List, [], ◌∷◌, length}
use Rattle.depth_first_list.specs.Actions.{record_words}
use Rattle.hall_actions.specs.Passed.HallNames.{DequeId, quota_of, Event, HallKey, ListSlot, PoolSlot, ThreadId, is_delivered, children_of, join_words_of, label_of}
use Rattle.hall_actions.specs.Passed.HallNames.{released_by, Next, Thread, kept_under}
use Rattle.hall_slots.specs.declared.event.Event.TheVariants.{Stole, Did, Suspended, GaveUp, Halted}
use Rattle.hall_actions.specs.declared.at_next.AtNext.{AtNext}
use Rattle.hall_actions.specs.WithList.{IsNamedAs}
use Rattle.hall_actions.specs.WithPool.{words_asked_by}
use Rattle.thread_frames.specs.declared.next.Next.TheVariants.{Fork, Join, Alloc, Release, Dummy, Fault, End}

-- ---- which event

-- So many words fit what is left of the quota, or are more than the whole of it;
abbrev pub FitsQuota : HallKey → AtNext → (words : ℕ) → Type 0
FitsQuota key at words = ((words ≤ quota_of key) × (at.running.period.used + words ≤ quota_of key)) ⊎ (quota_of key < words)

-- or they are no more than the whole, and more than is left.
abbrev pub IsOverQuota : HallKey → AtNext → (words : ℕ) → Type 0
IsOverQuota key at words = (words ≤ quota_of key) × (quota_of key < at.running.period.used + words)

-- The result of a child was handed over to the thread, or is kept in the list that was seen.
abbrev pub HasResult : Thread → (child : ThreadId) → (seen : Option ListSlot) → Type 0
HasResult top child None = is_delivered child (children_of top) ≡ true
HasResult top child (Some list) = (is_delivered child (children_of top) ≡ true) ⊎ (kept_under list.part.results child ≢ None)

-- The action may be done: a Fork and an Alloc by the quota, a Join once there is the result of its child, each other action always.
abbrev pub IsDue : HallKey → AtNext → Next → (seen : Option ListSlot) → Type 0
IsDue key at Fork seen = FitsQuota key at record_words
IsDue key at (Join child) seen = HasResult at.top child seen
IsDue key at (Alloc words) seen = FitsQuota key at words
IsDue key at (Release words) seen = Unit {0}
IsDue key at Dummy seen = Unit {0}
IsDue key at (Fault fault) seen = Unit {0}
IsDue key at End seen = Unit {0}

-- The quota is spent: a Fork or an Alloc takes more than is left of it.
abbrev pub IsSpent : HallKey → AtNext → Next → Type 0
IsSpent key at Fork = IsOverQuota key at record_words
IsSpent key at (Join child) = ⊥
IsSpent key at (Alloc words) = IsOverQuota key at words
IsSpent key at (Release words) = ⊥
IsSpent key at Dummy = ⊥
IsSpent key at (Fault fault) = ⊥
IsSpent key at End = ⊥

-- The thread waits: its action is the Join of a child whose result was not handed over, and is not in the list.
abbrev pub IsWaiting : AtNext → Next → (seen : Option ListSlot) → Type 0
IsWaiting at Fork seen = ⊥
IsWaiting at (Join child) None = ⊥
IsWaiting at (Join child) (Some list) = (is_delivered child (children_of at.top) ≡ false) × (kept_under list.part.results child ≡ None)
IsWaiting at (Alloc words) seen = ⊥
IsWaiting at (Release words) seen = ⊥
IsWaiting at Dummy seen = ⊥
IsWaiting at (Fault fault) seen = ⊥
IsWaiting at End seen = ⊥

-- The event of an owner: its action, if it may be done; the wait of its top thread; or the give up of its deque, if the quota is spent. It is never
-- a steal, nor an end that is kept.
abbrev pub IsEventOf : HallKey → DequeId → AtNext → Next → (seen : Option ListSlot) → Event → Type 0
IsEventOf key deque at next seen (Stole victim period) = ⊥
IsEventOf key deque at next seen (Did name) = IsDue key at next seen
IsEventOf key deque at next seen (Suspended thread) = (thread ≡ Thread.id at.top) × IsWaiting at next seen
IsEventOf key deque at next seen (GaveUp id) = (id ≡ deque) × IsSpent key at next
IsEventOf key deque at next seen (Halted end) = ⊥

-- ---- which deque it owns then

-- the thread that waits under this id in the list that was seen
abbrev pub waits_in : (seen : Option ListSlot) → ThreadId → Option Thread
waits_in None id = None
waits_in (Some list) id = kept_under list.part.waiting id

-- after an End: its deque, unless no thread is under the one that ended, and no parent waits for it
abbrev pub owned_at_end : DequeId → (under : List Thread) → (waits : Option Thread) → Option DequeId
owned_at_end deque [] None = None
owned_at_end deque [] (Some parent) = Some deque
owned_at_end deque (thread ∷ under) waits = Some deque

-- after an action: its deque, but none after a Dummy
abbrev pub owned_by : DequeId → AtNext → Next → (seen : Option ListSlot) → Option DequeId
owned_by deque at Fork seen = Some deque
owned_by deque at (Join child) seen = Some deque
owned_by deque at (Alloc words) seen = Some deque
owned_by deque at (Release words) seen = Some deque
owned_by deque at Dummy seen = None
owned_by deque at (Fault fault) seen = Some deque
owned_by deque at End seen = owned_at_end deque at.lane.items (waits_in seen (Thread.id at.top))

-- after another event: none
abbrev pub owned_after : DequeId → AtNext → Next → (seen : Option ListSlot) → Event → Option DequeId
owned_after deque at next seen (Stole victim period) = None
owned_after deque at next seen (Did name) = owned_by deque at next seen
owned_after deque at next seen (Suspended thread) = None
owned_after deque at next seen (GaveUp id) = None
owned_after deque at next seen (Halted end) = None

-- ---- which slots it takes besides its lane

-- The list: for a Dummy, for the Join of a child whose result was not handed over, and for an End if no thread is below;
abbrev pub ActionNeedsList : AtNext → Next → Type 0
ActionNeedsList at Fork = ⊥
ActionNeedsList at (Join child) = is_delivered child (children_of at.top) ≡ false
ActionNeedsList at (Alloc words) = ⊥
ActionNeedsList at (Release words) = ⊥
ActionNeedsList at Dummy = Unit {0}
ActionNeedsList at (Fault fault) = ⊥
ActionNeedsList at End = at.lane.items ≡ []

-- and for a wait and a give up.
abbrev pub NeedsList : AtNext → Next → Event → Type 0
NeedsList at next (Stole victim period) = ⊥
NeedsList at next (Did name) = ActionNeedsList at next
NeedsList at next (Suspended thread) = Unit {0}
NeedsList at next (GaveUp id) = Unit {0}
NeedsList at next (Halted end) = ⊥

-- the words that a Join releases: with the result that was handed over, or, if the list was needed, with the one that is kept there
abbrev pub words_joined : Thread → (child : ThreadId) → (seen : Option ListSlot) → ℕ
words_joined top child None = join_words_of top
words_joined top child (Some list) = released_by top (kept_under list.part.results child)

-- The pool: for a Fork, an Alloc, a Release and a Fault, for a Join that releases words, and for the End of a forked thread;
abbrev pub ActionNeedsPool : AtNext → Next → (seen : Option ListSlot) → Type 0
ActionNeedsPool at Fork seen = Unit {0}
ActionNeedsPool at (Join child) seen = 0 < words_joined at.top child seen
ActionNeedsPool at (Alloc words) seen = Unit {0}
ActionNeedsPool at (Release words) seen = Unit {0}
ActionNeedsPool at Dummy seen = ⊥
ActionNeedsPool at (Fault fault) seen = Unit {0}
ActionNeedsPool at End seen = 0 < length (label_of at.top)

-- and for no other event.
abbrev pub NeedsPool : AtNext → Next → (seen : Option ListSlot) → Event → Type 0
NeedsPool at next seen (Stole victim period) = ⊥
NeedsPool at next seen (Did name) = ActionNeedsPool at next seen
NeedsPool at next seen (Suspended thread) = ⊥
NeedsPool at next seen (GaveUp id) = ⊥
NeedsPool at next seen (Halted end) = ⊥

-- A count is drawn for an action alone.
abbrev pub NeedsCount : Event → Type 0
NeedsCount (Stole victim period) = ⊥
NeedsCount (Did name) = Unit {0}
NeedsCount (Suspended thread) = ⊥
NeedsCount (GaveUp id) = ⊥
NeedsCount (Halted end) = ⊥

-- ---- by what it saw

-- it was taken exactly if it is needed
abbrev pub IsTakenIf : {X : Type 0} → (Needed : Type 0) → Option X → Type 0
IsTakenIf Needed None = ¬ Needed
IsTakenIf Needed (Some x) = Needed

-- No end is kept in the list that was seen; the pool that was seen has room for so many words; the count that was drawn is below the limit.
abbrev pub IsOpen : Option ListSlot → Type 0
IsOpen None = Unit {0}
IsOpen (Some list) = list.end ≡ None

abbrev pub HasRoom : (words : ℕ) → Option PoolSlot → Type 0
HasRoom words None = Unit {0}
HasRoom words (Some pool) = pool.pool.live + words ≤ pool.pool.capacity

abbrev pub IsBelow : (limit : ℕ) → Option ℕ → Type 0
IsBelow limit None = Unit {0}
IsBelow limit (Some found) = found < limit

-- By its lane and the list it is to do this event. It took the list exactly if the event needs it, and no end is kept there.
pub record IsToDo (key : HallKey) (deque : DequeId) (at : AtNext) (next : Next) (seen : Option ListSlot) (event : Event) : Type 0 where
  pub is_event : IsEventOf key deque at next seen event
  pub lists : IsTakenIf (NeedsList at next event) seen
  pub no_end : IsOpen seen

-- It took the pool too exactly if the event needs it, and there the words of its action fit.
pub record HasItsSlots (key : HallKey) (deque : DequeId) (at : AtNext) (next : Next) (seen : Option ListSlot) (pool : Option PoolSlot)
    (event : Event) : Type 0 where
  pub is_to_do : IsToDo key deque at next seen event
  pub pools : IsTakenIf (NeedsPool at next seen event) pool
  pub fits : HasRoom (words_asked_by next) pool

-- What an owner saw besides its lane: the list and the pool, if it took them, and its count, if it drew one.
pub record Seen : Type 0 where
  pub list : Option ListSlot
  pub pool : Option PoolSlot
  pub count : Option ℕ

-- By this it did the event: an action under the name of the next action of its thread; with the slots that it needs, with a count exactly for an
-- action, below the limit of the hall; and it owns this deque then.
pub record Decides (key : HallKey) (deque : DequeId) (at : AtNext) (next : Next) (seen : Seen) (event : Event) (owned : Option DequeId)
    : Type 0 where
  pub named : IsNamedAs at.top event
  pub slots : HasItsSlots key deque at next seen.list seen.pool event
  pub counts : IsTakenIf (NeedsCount event) seen.count
  pub below : IsBelow key.actions seen.count
  pub owns : owned ≡ owned_after deque at next seen.list event
