-- What a thief has in its hands that has found its victim, and what it does then.
use Rattle.std.specs.Prelude.{◌≡◌, ◌≢◌, ◌⊎◌, ℕ, ◌+◌, ◌<◌, ◌≤◌, false, None, List, [], ◌∷◌, ◌++◌, Result, Ok, Err, Some, length, slice_get}
use Rattle.hall_thief.specs.HallNames.{DequeId, with_hand, Event, HallKey, LaneSlot, ListSlot, SeatNote, Slot, HallSeat, IsTaken, MeetsLaw}
use Rattle.deque_list.specs.declared.place.Place.{Place}
use Rattle.deque_list.specs.Ids.{IsSmallestFree, place_ids}
use Rattle.play_rules.specs.declared.stop.Stop.{Stop}
use Rattle.play_rules.specs.declared.stop.Stop.TheVariants.{ArenaFull, DequesFull, StepsSpent, OutOfMemory}
use Rattle.turn_table.specs.declared.look.Look.{Look}
use Rattle.turn_table.specs.declared.look.Look.TheVariants.{Took}
use Rattle.turn_table.specs.declared.held.Held.{Held}
use Rattle.hall_slots.specs.declared.event.Event.TheVariants.{Stole}
use Rattle.hall_slots.specs.declared.slot.Slot.TheVariants as slots
use Rattle.hall_thief.specs.Choosing.{HasVictim, refused_look}
use Rattle.hall_thief.specs.Thefts.{stolen_note, IsThief}
use Rattle.hall_slots.specs.Stopping.{found_note}
use Rattle.hall_thief.specs.declared.prey.Prey.{Prey}
use Rattle.hall_thief.specs.declared.refused.StealRefused.{StealRefused}
use Rattle.hall_thief.specs.declared.refused.StealRefused.TheVariants.{Busy, Nothing, Over, Stopped}

-- A seat that may steal: it is in, owns no deque, holds no count, and has found no stop. Its worker is this one.
pub record MaySteal (seat : HallSeat) (worker : ℕ) : Type 0 where
  pub thief : IsThief seat
  pub its_worker : seat.hand.note.worker ≡ worker
  pub settled : seat.hand.note.counting ≡ false
  pub none : seat.hand.note.found ≡ None

-- By some word it has chosen the deque at a place of the list that it holds, in which no end is kept, and holds its lane too.
pub record HasPrey (key : HallKey) (list : ListSlot) (place : ℕ) (lane : LaneSlot) (seat : HallSeat) : Type 0 where
  pub start : HallSeat
  pub alone : start.hand.holds ≡ (0, slots.List list) ∷ []
  pub no_end : list.end ≡ None
  pub word : ℕ
  pub victim : HasVictim key.workers word list start place lane seat

-- The thief may steal from this deque, whose list and lane it holds.
pub record IsStealing (key : HallKey) (seat : HallSeat) (worker : ℕ) (prey : Prey) (victim : Place) : Type 0 where
  pub may : MaySteal seat worker
  pub has : HasPrey key prey.list prey.place prey.lane seat
  pub meets : MeetsLaw key seat
  pub there : slice_get prey.list.part.order.places prey.place ≡ Some victim

-- besides, it took the lane of a free deque
pub record HasBoth (key : HallKey) (list : ListSlot) (place : ℕ) (lane : LaneSlot) (id : DequeId) (new : LaneSlot) (seat : HallSeat)
    : Type 0 where
  pub before : HallSeat
  pub prey : HasPrey key list place lane before
  pub taken : IsTaken before (id.0 + 2) (slots.Lane new) seat

-- one deque more would be too many: the victim keeps other threads, and there are as many deques as may be
abbrev pub IsOneTooMany : ListSlot → LaneSlot → Type 0
IsOneTooMany list lane = (2 ≤ length lane.lane.items) × (length list.part.order.places ≡ list.part.order.most)

-- The thief's deque is its victim, which nobody owns and which has one thread;
pub record TakesOver (victim : Place) (lane : LaneSlot) (id : DequeId) (more : List (Look Slot)) : Type 0 where
  pub its_id : id ≡ victim.id
  pub unowned : victim.owner ≡ None
  pub one : length lane.lane.items < 2
  pub told : more ≡ []

-- or it is the next free deque, whose lane it took, and the victim keeps other threads.
pub record TakesBottom (list : ListSlot) (lane : LaneSlot) (id : DequeId) (more : List (Look Slot)) : Type 0 where
  pub two : 2 ≤ length lane.lane.items
  pub next : IsSmallestFree (place_ids list.part.order.places) id
  pub few : length list.part.order.places ≢ list.part.order.most
  pub new : LaneSlot
  pub told : more ≡ Took (id.0 + 2) (slots.Lane new) ∷ []

abbrev pub StealsInto : ListSlot → Place → LaneSlot → DequeId → List (Look Slot) → Type 0
StealsInto list victim lane id more = TakesOver victim lane id more ⊎ TakesBottom list lane id more

-- the seat holds nothing, notes this, and was told this besides
abbrev pub LeavesWith : HallSeat → SeatNote → List (Look Slot) → HallSeat → Type 0
LeavesWith before note more after = after ≡ with_hand before (record {
  seated = before.hand.seated;
  holds = [];
  note = note;
  looks = before.hand.looks ++ more;
})

-- the event of a steal with this list, into a deque that has a slot, and the seat after it
abbrev pub LeavesStolen : ListSlot → DequeId → List (Look Slot) → HallSeat → HallSeat → Event → Type 0
LeavesStolen list id more before after event = (event ≡ Stole id (list.part.begun + 1)) × (id.0 + 2 < before.table.slots)
    × LeavesWith before (stolen_note before.hand.note id (list.part.begun + 1)) more after

-- The stop that a steal meets: as many deques as may be are there and it would make one more; or there is not enough memory, where it would not.
abbrev pub IsItsStop : ListSlot → LaneSlot → Stop → Type 0
IsItsStop list lane (ArenaFull live asked) = ⊥
IsItsStop list lane (DequesFull deques) = IsOneTooMany list lane × (deques ≡ list.part.order.most)
IsItsStop list lane (StepsSpent limit) = ⊥
IsItsStop list lane OutOfMemory = ¬ (IsOneTooMany list lane)

-- The victim keeps other threads, and another seat held the lane of the next free deque.
pub record IsNewHeld (list : ListSlot) (lane : LaneSlot) (held : Held) : Type 0 where
  pub id : DequeId
  pub two : 2 ≤ length lane.lane.items
  pub next : IsSmallestFree (place_ids list.part.order.places) id
  pub few : length list.part.order.places ≢ list.part.order.most
  pub its_lane : held.slot ≡ id.0 + 2

-- The lanes that it took after that of its victim, before it met this stop: none if one deque would be too many, or if the victim has one thread;
-- and else that of the next free deque.
abbrev pub TakesNext : ListSlot → LaneSlot → Stop → List (Look Slot) → Type 0
TakesNext list lane (ArenaFull live asked) more = ⊥
TakesNext list lane (DequesFull deques) more = more ≡ []
TakesNext list lane (StepsSpent limit) more = ⊥
TakesNext list lane OutOfMemory more = ((length lane.lane.items < 2) × (more ≡ [])) ⊎ ((id : DequeId) × TakesBottom list lane id more)

-- How it is with a thief that held this list and the lane of its victim: it stole, was refused the lane of a new deque, or met a stop.
abbrev pub StealsWith : ListSlot → Place → LaneSlot → HallSeat → HallSeat → Result Event StealRefused → Type 0
StealsWith list victim lane before after (Ok event) =
    (id : DequeId) × (more : List (Look Slot)) × StealsInto list victim lane id more × LeavesStolen list id more before after event
StealsWith list victim lane before after (Err (Busy held)) =
    IsNewHeld list lane held × LeavesWith before before.hand.note (refused_look held ∷ []) after
StealsWith list victim lane before after (Err Nothing) = ⊥
StealsWith list victim lane before after (Err (Over end)) = ⊥
StealsWith list victim lane before after (Err (Stopped stop)) =
    (more : List (Look Slot)) × IsItsStop list lane stop × TakesNext list lane stop more
    × LeavesWith before (found_note before.hand.note stop) more after

-- So it is with one that held the lane of the new deque too: it stole, or memory was wanting.
abbrev pub EndsWith : ListSlot → DequeId → HallSeat → HallSeat → Result Event StealRefused → Type 0
EndsWith list id before after (Ok event) = LeavesStolen list id [] before after event
EndsWith list id before after (Err (Busy held)) = ⊥
EndsWith list id before after (Err Nothing) = ⊥
EndsWith list id before after (Err (Over end)) = ⊥
EndsWith list id before after (Err (Stopped stop)) =
    (stop ≡ OutOfMemory) × LeavesWith before (found_note before.hand.note stop) [] after

-- no slot was refused to it
abbrev pub IsNotBusy : Result Event StealRefused → Type 0
IsNotBusy (Ok event) = Unit {0}
IsNotBusy (Err (Busy held)) = ⊥
IsNotBusy (Err Nothing) = Unit {0}
IsNotBusy (Err (Over end)) = Unit {0}
IsNotBusy (Err (Stopped stop)) = Unit {0}
