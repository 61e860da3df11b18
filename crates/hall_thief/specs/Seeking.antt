-- What a thief has found, and what its seat is then.
use Rattle.std.specs.Prelude.{◌≡◌, ℕ, None, Some, List, [], ◌∷◌, ◌++◌, Result, Ok, Err}
use Rattle.turn_table.specs.declared.look.Look.{Look}
use Rattle.turn_table.specs.declared.look.Look.TheVariants.{Took}
use Rattle.turn_table.specs.declared.held.Held.{Held}
use Rattle.hall_thief.specs.HallNames.{with_hand, ListSlot, Slot, HallSeat}
use Rattle.hall_slots.specs.declared.slot.Slot.TheVariants as slots
use Rattle.hall_slots.specs.Lists.{answered_note, Leaves, with_list}
use Rattle.hall_thief.specs.Choosing.{HasTriedAll, HasVictim, IsNextHeld, IsToldMore, refused_look}
use Rattle.hall_thief.specs.declared.prey.Prey.{Prey}
use Rattle.hall_thief.specs.declared.prey.SeekRefused.{SeekRefused}
use Rattle.hall_thief.specs.declared.prey.SeekRefused.TheVariants.{Busy, Nothing, Over}

-- the seat holds nothing and was told this besides
abbrev pub LeavesTold : HallSeat → List (Look Slot) → HallSeat → Type 0
LeavesTold before more after = after ≡ with_hand before (record {
  seated = before.hand.seated;
  holds = [];
  note = before.hand.note;
  looks = before.hand.looks ++ more;
})

-- How it is with a seat that holds this list alone. Where no end is kept, it holds the lane of the deque that it robs besides; or none in reach
-- has a thread to steal; or it was refused a lane. Else it was answered the end that is kept.
abbrev pub SeeksWith : (workers word : ℕ) → ListSlot → HallSeat → HallSeat → Result Prey SeekRefused → Type 0
SeeksWith workers word list before after (Ok prey) =
    (prey.list ≡ list) × (list.end ≡ None) × HasVictim workers word list before prey.place prey.lane after
SeeksWith workers word list before after (Err (Busy held)) = (list.end ≡ None) × (tried : List (Look Slot))
    × IsNextHeld workers word list tried held × LeavesTold before (tried ++ refused_look held ∷ []) after
SeeksWith workers word list before after (Err Nothing) =
    (list.end ≡ None) × (more : List (Look Slot)) × LeavesTold before more after × HasTriedAll workers word list more
SeeksWith workers word list before after (Err (Over end)) =
    (list.end ≡ Some end) × Leaves before (answered_note before.hand.note list) after

-- It took the list, in which no end is kept, and was refused the lane of a deque whose turn it was. It has these answers besides, and is else
-- what it was.
abbrev pub IsHeldOff : (workers word : ℕ) → HallSeat → Held → HallSeat → Type 0
IsHeldOff workers word before held after = (list : ListSlot) × (list.end ≡ None) × (tried : List (Look Slot))
    × IsNextHeld workers word list tried held × IsToldMore before (Took 0 (slots.List list) ∷ (tried ++ refused_look held ∷ [])) after

-- So it is with a seat that held nothing and took the list first; or it was refused a lane.
abbrev pub HasSought : (workers word : ℕ) → HallSeat → HallSeat → Result Prey SeekRefused → Type 0
HasSought workers word before after (Ok prey) =
    (prey.list.end ≡ None) × HasVictim workers word prey.list (with_list before prey.list) prey.place prey.lane after
HasSought workers word before after (Err (Busy held)) = IsHeldOff workers word before held after
HasSought workers word before after (Err Nothing) =
    (list : ListSlot) × SeeksWith workers word list (with_list before list) after (Err Nothing)
HasSought workers word before after (Err (Over end)) =
    (list : ListSlot) × SeeksWith workers word list (with_list before list) after (Err (Over end))

-- no slot was refused to it
abbrev pub IsNotBusy : Result Prey SeekRefused → Type 0
IsNotBusy (Ok prey) = Unit {0}
IsNotBusy (Err (Busy held)) = ⊥
IsNotBusy (Err Nothing) = Unit {0}
IsNotBusy (Err (Over end)) = Unit {0}
