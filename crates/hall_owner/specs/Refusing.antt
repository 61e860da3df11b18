-- Why an owner did no event, by what it saw.
use Rattle.std.specs.Prelude.{◌≡◌, ◌⊎◌, ℕ, ◌+◌, ◌<◌, ◌≤◌, Option, None, Some, List, ◌++◌}
use Rattle.hall_actions.specs.Passed.HallNames.{DequeId, Event, HallKey, ListSlot, PoolSlot, Slot, Next}
use Rattle.hall_actions.specs.declared.at_next.AtNext.{AtNext}
use Rattle.hall_actions.specs.WithPool.{words_asked_by}
use Rattle.hall_owner.specs.Decided.{ActionNeedsList, HasItsSlots, IsSpent, IsToDo, NeedsCount, NeedsPool, Seen}
use Rattle.hall_owner.specs.Holding.{last_look, looks_of}
use Rattle.hall_actions.specs.declared.refused.ActRefused.{ActRefused}
use Rattle.hall_actions.specs.declared.refused.ActRefused.TheVariants.{Busy, Over, Stopped}
use Rattle.play_rules.specs.declared.ends.RunEnd.{RunEnd}
use Rattle.play_rules.specs.declared.stop.Stop.{Stop}
use Rattle.play_rules.specs.declared.stop.Stop.TheVariants.{ArenaFull, DequesFull, StepsSpent, OutOfMemory}
use Rattle.turn_table.specs.declared.look.Look.{Look}

-- by its lane alone it needs the list: for its action, or since the quota is spent
abbrev pub AsksForList : HallKey → AtNext → Next → Type 0
AsksForList key at next = ActionNeedsList at next ⊎ IsSpent key at next

-- this end is kept in the list that was seen
abbrev pub IsKeptIn : RunEnd → Option ListSlot → Type 0
IsKeptIn end None = ⊥
IsKeptIn end (Some list) = list.end ≡ Some end

-- the pool that was seen has so many words in use, and no room for so many more
abbrev pub IsFull : (live asked : ℕ) → Option PoolSlot → Type 0
IsFull live asked None = ⊥
IsFull live asked (Some pool) = (live ≡ pool.pool.live) × (pool.pool.capacity < pool.pool.live + asked)

-- the count that was drawn is at the limit or above it
abbrev pub IsAbove : (limit : ℕ) → Option ℕ → Type 0
IsAbove limit None = ⊥
IsAbove limit (Some found) = limit ≤ found

-- It is to do some event, and for it tries the pool.
abbrev pub AsksForPool : HallKey → DequeId → AtNext → Next → (seen : Option ListSlot) → Type 0
AsksForPool key deque at next seen = (event : Event) × IsToDo key deque at next seen event × NeedsPool at next seen event

-- The stop that it found, before it drew a count: the words of its action do not fit the pool that it took; or there was not enough memory, with the
-- slots of its event. Or, with the slots of its action, that the count is at the limit of the hall or above it.
abbrev pub Stops : HallKey → DequeId → AtNext → Next → Seen → Stop → Type 0
Stops key deque at next seen (ArenaFull live asked) =
    (seen.count ≡ None) × AsksForPool key deque at next seen.list × (asked ≡ words_asked_by next) × IsFull live asked seen.pool
Stops key deque at next seen (DequesFull deques) = ⊥
Stops key deque at next seen (StepsSpent limit) = (limit ≡ key.actions) × IsAbove limit seen.count
    × (event : Event) × HasItsSlots key deque at next seen.list seen.pool event × NeedsCount event
Stops key deque at next seen OutOfMemory =
    (seen.count ≡ None) × (event : Event) × HasItsSlots key deque at next seen.list seen.pool event

-- Another seat held the slot that it tried last: the list, which it needs by its lane alone, or the pool, once it had seen the list if its event needs
-- this. Or an end is kept in the list that it needs. Or it found a stop.
abbrev pub Refuses : HallKey → DequeId → AtNext → Next → Seen → ActRefused → Type 0
Refuses key deque at next seen (Busy held) = (seen.pool ≡ None) × (seen.count ≡ None)
    × (((held.slot ≡ 0) × (seen.list ≡ None) × AsksForList key at next) ⊎ ((held.slot ≡ 1) × AsksForPool key deque at next seen.list))
Refuses key deque at next seen (Over end) = (seen.pool ≡ None) × (seen.count ≡ None) × IsKeptIn end seen.list × AsksForList key at next
Refuses key deque at next seen (Stopped stop) = Stops key deque at next seen stop

-- these looks show so
abbrev pub IsRefusal : HallKey → DequeId → AtNext → Next → List (Look Slot) → ActRefused → Type 0
IsRefusal key deque at next more refused =
    (seen : Seen) × Refuses key deque at next seen refused × (more ≡ looks_of seen ++ last_look refused)
