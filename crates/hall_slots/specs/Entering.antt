-- How a worker enters by a seat.
use Rattle.std.specs.Prelude.{◌≡◌, ℕ, ◌-◌, ◌<◌, ◌≤◌, false, Option, None, Some, List, [], ◌∷◌, ◌++◌, Result, Ok, Err}
use Rattle.std.specs.Option.{unwrap_or}
use Rattle.deque_machine.specs.Lists.{times}
use Rattle.turn_table.specs.Hands.{fresh, noted, gave}
use Rattle.turn_table.specs.Seats.{with_hand}
use Rattle.turn_table.specs.Backs.{unchanged}
use Rattle.hall_machine.specs.Numbers.{IsSmallestNumber}
use Rattle.hall_slots.specs.declared.list_slot.ListSlot.{ListSlot}
use Rattle.hall_slots.specs.declared.seat_note.SeatNote.{SeatNote}
use Rattle.hall_slots.specs.declared.slot.Slot.{Slot}
use Rattle.hall_slots.specs.declared.slot.Slot.TheVariants as slots
use Rattle.hall_slots.specs.declared.key.HallKey.{HallKey}
use Rattle.hall_slots.specs.Takes.{HallSeat, IsRefused}
use Rattle.hall_slots.specs.Lists.{answered_note, Leaves, with_list}
use Rattle.hall_slots.specs.declared.refused.EnterRefused.{EnterRefused}
use Rattle.hall_slots.specs.declared.refused.EnterRefused.TheVariants.{Busy, Over, OutOfMemory}

-- A seat by which a worker may enter: it has not left, has two places, and nobody enters by it.
pub record MayEnter (key : HallKey) (seat : HallSeat) (workers : ℕ) : Type 0 where
  pub all_workers : workers ≡ key.workers
  pub stays : seat.hand.note.left ≡ false
  pub many : 2 ≤ seat.hand.note.places
  pub nobody : seat.hand.note.enters ≡ None

-- the note of a seat by which this worker enters, which the list names; then it gives a place to the worker's seat
abbrev pub entering_note : SeatNote → Option ℕ → SeatNote
entering_note note worker = record note { enters = worker }

abbrev pub giving_note : SeatNote → SeatNote
giving_note note = record note { places = note.places - 1; enters = None }

-- the first note of a worker that entered
abbrev pub worker_note : Option ℕ → SeatNote
worker_note worker = record {
  worker = unwrap_or worker 0;
  places = 1;
  left = false;
  deque = None;
  found = None;
  answered = None;
  counting = false;
  yielded = false;
  enters = None;
  mine = [];
}

-- the worker whom a list names last
abbrev pub last_of : List ℕ → Option ℕ
last_of [] = None
last_of (worker ∷ []) = Some worker
last_of (worker ∷ next ∷ crew) = last_of (next ∷ crew)

-- in a slot
abbrev pub last_in : Slot → Option ℕ
last_in (slots.List list) = last_of list.crew.items
last_in (slots.Pool pool) = None
last_in (slots.Lane lane) = None

-- The seat holds the list alone, and this list names one worker more, whom it did not name, and no end is kept.
pub record HoldsTheNamed (key : HallKey) (seat : HallSeat) (list : ListSlot) : Type 0 where
  pub before : ListSlot
  pub worker : ℕ
  pub holds : seat.hand.holds ≡ (0, slots.List before) ∷ []
  pub part : list.part ≡ before.part
  pub crew : list.crew.items ≡ before.crew.items ++ worker ∷ []
  pub end : list.end ≡ before.end
  pub no_end : before.end ≡ None
  pub low : worker < key.workers
  pub new : times worker before.crew.items ≡ 0
  pub many : 2 ≤ seat.hand.note.places
  pub nobody : seat.hand.note.enters ≡ None

-- what the seat is after it put the list back
abbrev pub PutsNamed : HallSeat → ListSlot → HallSeat → Type 0
PutsNamed before list after =
    after ≡ with_hand before (gave (λ hand. entering_note hand.note (last_of list.crew.items)) unchanged before.hand 0)

-- a worker enters by a seat that has two places; it gives one of them
pub record GivesAPlace (seat : HallSeat) : Type 0 where
  pub worker : ℕ
  pub enters : seat.hand.note.enters ≡ Some worker
  pub many : 2 ≤ seat.hand.note.places

abbrev pub PutsGiven : HallSeat → HallSeat → Type 0
PutsGiven before after = after ≡ with_hand before (noted before.hand (giving_note before.hand.note))

-- How it is with a seat that holds this list alone: a worker of the smallest free number entered, or an end is kept, or memory was wanting.
abbrev pub EntersWith : HallKey → ListSlot → HallSeat → HallSeat → Result (HallSeat × ℕ) EnterRefused → Type 0
EntersWith key list before after (Ok made) =
    IsSmallestNumber key.workers list.crew.items made.1 × (list.end ≡ None) × Leaves before (giving_note before.hand.note) after
    × (made.0.hand ≡ fresh (worker_note (Some made.1)))
EntersWith key list before after (Err (Busy held)) = ⊥
EntersWith key list before after (Err (Over end)) = (list.end ≡ Some end) × Leaves before (answered_note before.hand.note list) after
EntersWith key list before after (Err OutOfMemory) = (list.end ≡ None) × Leaves before before.hand.note after

-- so it is with the list that a seat took, or it was refused the list
abbrev pub HasEntered : HallKey → HallSeat → HallSeat → Result (HallSeat × ℕ) EnterRefused → Type 0
HasEntered key before after (Ok made) = (list : ListSlot) × EntersWith key list (with_list before list) after (Ok made)
HasEntered key before after (Err (Busy held)) = IsRefused before 0 held after
HasEntered key before after (Err (Over end)) = (list : ListSlot) × EntersWith key list (with_list before list) after (Err (Over end))
HasEntered key before after (Err OutOfMemory) = (list : ListSlot) × EntersWith key list (with_list before list) after (Err OutOfMemory)

-- no other seat held the list
abbrev pub FindsListFree : Result (HallSeat × ℕ) EnterRefused → Type 0
FindsListFree (Ok made) = Unit {0}
FindsListFree (Err (Busy held)) = ⊥
FindsListFree (Err (Over end)) = Unit {0}
FindsListFree (Err OutOfMemory) = Unit {0}
