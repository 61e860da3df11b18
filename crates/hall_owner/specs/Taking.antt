-- What an owner does that takes what its event needs, and asks for memory there.
use Rattle.std.specs.Prelude.{◌≡◌, ◌⊎◌, ℕ, ◌+◌, ◌<◌, ◌≤◌, true, Option, None, Some, List, ◌++◌, Result, Ok, Err}
use Rattle.hall_actions.specs.Passed.HallNames.{DequeId, HallSeat, IsTaken, MeetsLaw, HallKey, ListSlot, PoolSlot, SeatNote, Slot, Next, with_hand}
use Rattle.play_rules.specs.declared.stop.Stop.{Stop}
use Rattle.play_rules.specs.declared.stop.Stop.TheVariants.{ArenaFull}
use Rattle.turn_table.specs.declared.look.Look.{Look}
use Rattle.hall_slots.specs.Counting.{counting_note}
use Rattle.hall_slots.specs.declared.slot.Slot.TheVariants as slots
use Rattle.hall_actions.specs.WithPool.{words_asked_by}
use Rattle.hall_actions.specs.declared.with_all.WholeEvent.{WholeEvent}
use Rattle.hall_actions.specs.declared.at_next.AtNext.{AtNext}
use Rattle.hall_actions.specs.Causes.{IsTooLarge}
use Rattle.hall_owner.specs.Asked.{IsAskedFor}
use Rattle.hall_owner.specs.Decided.{IsBelow, IsTakenIf}
use Rattle.hall_owner.specs.Holding.{AtCount, AtList, AtMemory, AtPool, FailsBy, look_at_count}
use Rattle.hall_owner.specs.Refusing.{IsRefusal}
use Rattle.hall_owner.specs.Taken.{held_with, looks_in, HasMoreOf, HasRoomOf, IsActionOf}
use Rattle.hall_actions.specs.declared.refused.ActRefused.{ActRefused}
use Rattle.hall_owner.specs.declared.taken.Taken.{Taken}
use Rattle.hall_owner.specs.declared.taken.Taken.TheVariants.{WithAll}

-- if they do not fit the arena, this is so by the list of the program
abbrev pub AsksByTheList : HallKey → AtNext → Next → Type 0
AsksByTheList key at next = (live : ℕ) → live ≤ key.capacity → key.capacity < live + words_asked_by next
    → IsTooLarge key next at.top at.running.period live (words_asked_by next)

-- Whether so many words are more than a pool has with those in use: this is the stop, or none.
abbrev pub IsFullBy : PoolSlot → (asked : ℕ) → Option Stop → Type 0
IsFullBy pool asked None = pool.pool.live + asked ≤ pool.pool.capacity
IsFullBy pool asked (Some stop) = (stop ≡ ArenaFull pool.pool.live asked) × (pool.pool.capacity < pool.pool.live + asked)

-- It took the list, in which no end is kept; or it failed.
abbrev pub TakesList : HallSeat → AtNext → Result (AtNext × ListSlot) ActRefused → HallSeat → Type 0
TakesList before at (Ok taken) after = (taken.0 ≡ at) × (taken.1.end ≡ None) × IsTaken before 0 (slots.List taken.1) after
TakesList before at (Err refused) after = FailsBy AtList before refused after

-- It took the pool beside the list, for this event; or it failed.
abbrev pub TakesPoolToo : HallKey → HallSeat → AtNext → ListSlot → WholeEvent → Result (AtNext × Taken) ActRefused → HallSeat → Type 0
TakesPoolToo key before at list event (Ok taken) after = (taken.0 ≡ at)
    × (pool : PoolSlot) × (taken.1 ≡ WithAll list pool event) × IsTaken before 1 (slots.Pool pool) after × MeetsLaw key after
TakesPoolToo key before at list event (Err refused) after = FailsBy AtPool before refused after

-- a seat that took so much, with these answers
abbrev pub IsAfter : HallSeat → Taken → HallSeat → Type 0
IsAfter before taken after = after ≡ with_hand before (record {
  seated = before.hand.seated;
  holds = held_with taken before.hand.holds;
  note = before.hand.note;
  looks = before.hand.looks ++ looks_in taken;
})

-- It took what its event needs, and meets the law; or what it saw shows why it failed.
pub record HasTaken (key : HallKey) (before : HallSeat) (at : AtNext) (next : Next) (taken : Taken) (after : HallSeat) : Type 0 where
  pub took : IsAfter before taken after
  pub meets : MeetsLaw key after
  pub asked : IsAskedFor key before.hand.note.worker at next taken

abbrev pub TakesFor : HallKey → HallSeat → DequeId → AtNext → Next → Result (AtNext × Taken) ActRefused → HallSeat → Type 0
TakesFor key before deque at next (Ok taken) after = (taken.0 ≡ at) × HasTaken key before at next taken.1 after
TakesFor key before deque at next (Err refused) after = FailsBy (IsRefusal key deque at next) before refused after

-- its note with the count that it drew, if it drew one
abbrev pub note_with : Option ℕ → SeatNote → SeatNote
note_with None note = note
note_with (Some found) note = counting_note note

-- There is the memory that its event needs, and it drew a count below the limit if this is an action.
pub record HasPrepared (key : HallKey) (before : HallSeat) (taken now : Taken) (after : HallSeat) : Type 0 where
  pub more : HasMoreOf taken now
  pub room : HasRoomOf now
  pub count : Option ℕ
  pub counts : IsTakenIf (IsActionOf taken true) count
  pub below : IsBelow key.actions count
  pub drew : after ≡ with_hand before (record {
    seated = before.hand.seated;
    holds = before.hand.holds;
    note = note_with count before.hand.note;
    looks = before.hand.looks ++ look_at_count count;
  })

-- There was not enough memory; or, for an action, the count is at the limit or above it.
abbrev pub AtPreparing : (limit : ℕ) → Taken → List (Look Slot) → ActRefused → Type 0
AtPreparing limit taken more refused = AtMemory more refused ⊎ (IsActionOf taken true × AtCount limit more refused)

abbrev pub Prepares : HallKey → HallSeat → AtNext → Taken → Result (AtNext × Taken) ActRefused → HallSeat → Type 0
Prepares key before at taken (Ok come) after = (come.0 ≡ at) × HasPrepared key before taken come.1 after
Prepares key before at taken (Err refused) after = FailsBy (AtPreparing key.actions taken) before refused after
