-- What an owner may note if no event comes: nothing new, or a stop that has its cause.
use Rattle.std.specs.Prelude.{◌≡◌, ℕ, ◌+◌, ◌<◌, ◌≤◌, None, List}
use Rattle.hall_parts.specs.HallNames.{DequeId, table_of, quota_of, HallSeat, HallKey, LaneSlot, ListSlot, PoolSlot, Setting, IsOfTheList, Next, Thread}
use Rattle.hall_slots.specs.Passed.Play.{words_taken}
use Rattle.depth_first_list.specs.Actions.{record_words}
use Rattle.depth_first_list.specs.Facts.{action_at, words_at}
use Rattle.hall_slots.specs.Passed.Run.{list_of}
use Rattle.hall_slots.specs.Passed.Books.{charge_at}
use Rattle.open_periods.specs.declared.period.Period.{Period as OpenPeriod}
use Rattle.hall_parts.specs.Passed.StopVariants.{ArenaFull, OutOfMemory}
use Rattle.hall_parts.specs.Passed.Settings.{IsSettingOf}
use Rattle.hall_parts.specs.EventParts.{IsAtAction, MayPause}
use Rattle.hall_parts.specs.declared.noting.Noting.TheVariants.{Same, Found}
use Rattle.hall_parts.specs.Writes.{Parts, parts}
use Rattle.hall_actions.specs.Returning.{MayNote}

-- For each program that the key may be of, the next action of the thread takes so many words, its period may do it, and with the words in use
-- they are more than the arena has.
abbrev pub IsTooLarge : HallKey → Next → Thread → OpenPeriod → (live asked : ℕ) → Type 0
IsTooLarge key next top period live asked = (c : Setting) → IsSettingOf (table_of key) (quota_of key) c
    → ∥ ((is : IsOfTheList c top next) × (0 < words_taken (action_at (list_of c) (IsOfTheList.place is)))
    × (words_at (list_of c) (IsOfTheList.place is) ≡ asked)
    × (period.used + charge_at c.quota (list_of c) (IsOfTheList.place is) ≤ c.quota) × (key.capacity < live + asked)) ∥₁

-- a seat may note nothing new,
abbrev pub NothingMayBeNoted : Type 0
NothingMayBeNoted = (key : HallKey) (seat : HallSeat) (deque : DequeId) (was : Parts) → MayNote key seat deque was Same

-- or that memory was wanting,
abbrev pub MemoryMayBeNoted : Type 0
MemoryMayBeNoted = (key : HallKey) (seat : HallSeat) (deque : DequeId) (was : Parts) → MayPause seat deque → seat.hand.note.found ≡ None
    → MayNote key seat deque was (Found OutOfMemory)

-- or that the arena has no room for the next action of its top thread
abbrev pub FullArenasMayBeNoted : Type 0
FullArenasMayBeNoted = (key : HallKey) (seat : HallSeat) (deque : DequeId) (list : ListSlot) (pool : PoolSlot) (lane : LaneSlot) (next : Next)
    (top : Thread) (under : List Thread) (holder : ℕ) (period : OpenPeriod) (asked : ℕ) → record_words ≤ quota_of key → MayPause seat deque
    → seat.hand.note.found ≡ None → IsAtAction lane top under holder period → IsTooLarge key next top period pool.pool.live asked
    → MayNote key seat deque (parts list pool lane) (Found (ArenaFull pool.pool.live asked))
