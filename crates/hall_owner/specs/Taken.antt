-- What an owner took beside its lane, for the event that it is to do.
use Rattle.std.specs.Prelude.{◌≡◌, ℕ, ◌≤◌, Bool, true, Option, None, Some, List, ◌∷◌, ◌++◌}
use Rattle.hall_actions.specs.Passed.HallNames.{DequeId, Event, LaneSlot, ListSlot, PoolSlot, Slot, ActionId, Thread}
use Rattle.hall_slots.specs.declared.event.Event.TheVariants.{Did}
use Rattle.hall_slots.specs.declared.slot.Slot.TheVariants as slots
use Rattle.hall_actions.specs.Passed.Noting.{Noting}
use Rattle.hall_actions.specs.Passed.NotingVariants.{Same}
use Rattle.hall_actions.specs.Passed.Rooms.{IsSamePool}
use Rattle.hall_actions.specs.Passed.Taken.{its_lane}
use Rattle.hall_actions.specs.WithAll.{HasMoreWith, HasRoomWith, owned_with}
use Rattle.hall_actions.specs.WithList.{is_action, HasMoreFor, HasRoomFor, IsNotedFor}
use Rattle.hall_owner.specs.Holding.{look_at_list, look_at_pool}
use Rattle.hall_owner.specs.declared.taken.Taken.{Taken}
use Rattle.hall_owner.specs.declared.taken.Taken.TheVariants.{OnLane, WithPool, WithList, WithAll}
use Rattle.space_ledger.specs.MovesList.{moves_spare}
use Rattle.turn_table.specs.declared.look.Look.{Look}

-- the list and the pool, if it took them
abbrev pub list_in : Taken → Option ListSlot
list_in (OnLane child) = None
list_in (WithPool pool next charge) = None
list_in (WithList list event) = Some list
list_in (WithAll list pool event) = Some list

abbrev pub pool_in : Taken → Option PoolSlot
pool_in (OnLane child) = None
pool_in (WithPool pool next charge) = Some pool
pool_in (WithList list event) = None
pool_in (WithAll list pool event) = Some pool

-- what a seat holds then beside what it held, the newest first; and all of it, if it held its lane
abbrev pub held_with : Taken → List (ℕ × Slot) → List (ℕ × Slot)
held_with (OnLane child) holds = holds
held_with (WithPool pool next charge) holds = (1, slots.Pool pool) ∷ holds
held_with (WithList list event) holds = (0, slots.List list) ∷ holds
held_with (WithAll list pool event) holds = (1, slots.Pool pool) ∷ (0, slots.List list) ∷ holds

abbrev pub slots_of : DequeId → Taken → LaneSlot → List (ℕ × Slot)
slots_of deque taken lane = held_with taken (its_lane deque lane)

-- the answers that it had meanwhile
abbrev pub looks_in : Taken → List (Look Slot)
looks_in taken = look_at_list (list_in taken) ++ look_at_pool (pool_in taken)

-- whether its event is an action
abbrev pub IsActionOf : Taken → Bool → Type 0
IsActionOf (OnLane child) counted = counted ≡ true
IsActionOf (WithPool pool next charge) counted = counted ≡ true
IsActionOf (WithList list event) counted = counted ≡ is_action event
IsActionOf (WithAll list pool event) counted = counted ≡ true

-- It is the same, perhaps with more memory, which was asked for as the event needs it;
abbrev pub HasMoreOf : (was now : Taken) → Type 0
HasMoreOf (OnLane child) now = now ≡ OnLane child
HasMoreOf (WithPool pool next charge) now = (roomy : PoolSlot) × (now ≡ WithPool roomy next charge) × IsSamePool pool roomy
HasMoreOf (WithList list event) now = (roomy : ListSlot) × (now ≡ WithList roomy event) × HasMoreFor event list roomy
HasMoreOf (WithAll list pool event) now =
    (roomy : ListSlot) × (its : PoolSlot) × (now ≡ WithAll roomy its event) × HasMoreWith event list roomy × IsSamePool pool its

-- and there is as much as the event needs.
abbrev pub HasRoomOf : Taken → Type 0
HasRoomOf (OnLane child) = Unit {0}
HasRoomOf (WithPool pool next charge) = 1 ≤ moves_spare pool.moves
HasRoomOf (WithList list event) = HasRoomFor event list
HasRoomOf (WithAll list pool event) = HasRoomWith event list × 1 ≤ moves_spare pool.moves

-- with its lane alone a seat notes nothing new
abbrev pub IsQuietOnLane : Taken → Noting → Type 0
IsQuietOnLane (OnLane child) noting = noting ≡ Same
IsQuietOnLane (WithPool pool next charge) noting = Unit {0}
IsQuietOnLane (WithList list event) noting = Unit {0}
IsQuietOnLane (WithAll list pool event) noting = Unit {0}

-- what the seat notes by its event, and the deque that it owns then
abbrev pub IsNotedOn : Taken → DequeId → Thread → Event → Option DequeId → Type 0
IsNotedOn (OnLane child) deque top event owned = (name : ActionId) × (event ≡ Did name) × (owned ≡ Some deque)
IsNotedOn (WithPool pool next charge) deque top event owned = (name : ActionId) × (event ≡ Did name) × (owned ≡ Some deque)
IsNotedOn (WithList list its) deque top event owned = IsNotedFor its deque top event owned
IsNotedOn (WithAll list pool its) deque top event owned = (name : ActionId) × (event ≡ Did name) × (owned ≡ owned_with its deque)
