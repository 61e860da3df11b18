-- What holds between the calls of a seat of a hall.
use Rattle.std.specs.Prelude.{◌≡◌, ◌+◌, ◌<◌, ◌≤◌, false, None, Some, [], Result, Ok, Err}
use Rattle.containers.specs.BoundedList.{entries}
use Rattle.deque_list.specs.declared.deque_id.DequeId.{DequeId}
use Rattle.node_table.specs.declared.node_table.NodeTable.{NodeTable}
use Rattle.turn_table.specs.Hands.{fresh}
use Rattle.turn_table.specs.Tables.{key_of, slot_count, IsSeatOf}
use Rattle.hall_slots.specs.Passed.HallMachineNumbers.{IsSmallestNumber}
use Rattle.hall_slots.specs.Entering.{giving_note, worker_note}
use Rattle.hall_slots.specs.declared.list_slot.ListSlot.{ListSlot}
use Rattle.hall_slots.specs.Takes.{IsRefused}
use Rattle.hall_slots.specs.Lists.{answered_note, Leaves, with_list}
use Rattle.worker_entry.specs.declared.hall.Hall.{Hall}
use Rattle.worker_entry.specs.declared.seat.Seat.{Seat}
use Rattle.worker_entry.specs.declared.refused.EnterRefused.{EnterRefused}
use Rattle.worker_entry.specs.declared.refused.EnterRefused.TheVariants.{Crowded, Busy, Over, OutOfMemory}

-- what a hall says of its terms is what its law is about
pub record IsHall (hall : Hall) : Type 0 where
  pub quota : (key_of hall.row).quota ≡ hall.quota
  pub workers : (key_of hall.row).workers ≡ hall.workers
  pub limit : (key_of hall.row).actions ≡ hall.limit

-- the program that the hall runs
abbrev pub IsProgramOf : Hall → NodeTable → Type 0
IsProgramOf hall code = (key_of hall.row).code.value ≡ code

-- It is a seat of this hall, which holds nothing, and is in; what it says of itself is what it notes. Its deque has a slot, and the list of births
-- that it keeps ready has none.
pub record IsIn (hall : Hall) (seat : Seat) : Type 0 where
  pub is_hall : IsHall hall
  pub here : IsSeatOf hall.row seat.place
  pub free : seat.place.hand.holds ≡ []
  pub stays : seat.place.hand.note.left ≡ false
  pub settled : seat.place.hand.note.counting ≡ false
  pub nobody : seat.place.hand.note.enters ≡ None
  pub its_worker : seat.place.hand.note.worker ≡ seat.worker
  pub its_places : seat.place.hand.note.places ≡ seat.places
  pub some : 0 < seat.places
  pub few : seat.places ≤ hall.workers
  pub its_deque : seat.place.hand.note.deque ≡ seat.owned
  pub its_stop : seat.place.hand.note.found ≡ seat.stop
  pub inside : (id : DequeId) → seat.owned ≡ Some id → id.0 + 2 < slot_count hall.row
  pub births : entries seat.memory.births ≡ []

-- it says the same of itself
pub record SameSeat (before after : Seat) : Type 0 where
  pub worker : after.worker ≡ before.worker
  pub places : after.places ≡ before.places
  pub owned : after.owned ≡ before.owned
  pub stop : after.stop ≡ before.stop

-- How a worker entered by a seat: it has the smallest number that the list did not name, one place, and nothing else; or why none did.
abbrev pub Enters : Hall → Seat → Seat → Result Seat EnterRefused → Type 0
Enters hall before after (Ok made) = (list : ListSlot) × IsSmallestNumber hall.workers list.crew.items made.worker × (list.end ≡ None)
    × (made.places ≡ 1) × (made.owned ≡ None) × (made.stop ≡ None) × (after.places + 1 ≡ before.places)
    × Leaves (with_list before.place list) (giving_note before.place.hand.note) after.place
    × (made.place.hand ≡ fresh (worker_note (Some made.worker)))
Enters hall before after (Err (Crowded places)) = (before.places ≡ 1) × (places ≡ 1) × (after ≡ before)
Enters hall before after (Err (Busy held)) = IsRefused before.place 0 held after.place × SameSeat before after
Enters hall before after (Err (Over end)) = (list : ListSlot) × (list.end ≡ Some end)
    × Leaves (with_list before.place list) (answered_note before.place.hand.note list) after.place × SameSeat before after
Enters hall before after (Err OutOfMemory) = (list : ListSlot) × (list.end ≡ None)
    × Leaves (with_list before.place list) before.place.hand.note after.place × SameSeat before after

-- no other seat held the list
abbrev pub FindsListFree : Result Seat EnterRefused → Type 0
FindsListFree (Ok made) = Unit {0}
FindsListFree (Err (Crowded places)) = Unit {0}
FindsListFree (Err (Busy held)) = ⊥
FindsListFree (Err (Over end)) = Unit {0}
FindsListFree (Err OutOfMemory) = Unit {0}
