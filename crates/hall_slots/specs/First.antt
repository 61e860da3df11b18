-- How the slots of a hall begin.
use Rattle.std.specs.Prelude.{◌≡◌, ℕ, ◌+◌, false, None, List, [], ◌∷◌, ◌++◌, length}
use Rattle.block_arena.specs.Region.{Region}
use Rattle.deque_list.specs.Orders.{OrderView}
use Rattle.deque_list.specs.Lanes.{LaneView}
use Rattle.deque_machine.specs.Lists.{Each}
use Rattle.space_ledger.specs.BooksList.{books_list}
use Rattle.space_ledger.specs.MovesList.{moves_list}
use Rattle.thread_frames.specs.declared.thread.Thread.{Thread}
use Rattle.hall_slots.specs.declared.list_slot.ListSlot.{ListSlot}
use Rattle.hall_slots.specs.declared.pool_slot.PoolSlot.{PoolSlot}
use Rattle.hall_slots.specs.declared.lane_slot.LaneSlot.{LaneSlot}
use Rattle.hall_slots.specs.declared.slot.Slot.{Slot}
use Rattle.hall_slots.specs.declared.slot.Slot.TheVariants as slots
use Rattle.hall_slots.specs.declared.seat_note.SeatNote.{SeatNote}

-- Nothing waits, nothing is kept, no period was begun, and the worker 0 alone is in.
pub record IsFirstList (order : OrderView) (list : ListSlot) : Type 0 where
  pub same_order : list.part.order ≡ order
  pub none_wait : list.part.waiting.entries ≡ []
  pub no_results : list.part.results.entries ≡ []
  pub none_closed : books_list list.part.books ≡ []
  pub none_begun : list.part.begun ≡ 0
  pub crew : list.crew.items ≡ 0 ∷ []
  pub no_end : list.end ≡ None

-- a lane without threads, in which no period runs
pub record IsEmptyLane (slot : Slot) : Type 0 where
  pub lane : LaneSlot
  pub is : slot ≡ slots.Lane lane
  pub no_threads : lane.lane.items ≡ []
  pub no_period : lane.running ≡ None

-- so many empty lanes came to the slots
pub record AddsEmptyLanes (before : List Slot) (count : ℕ) (after : List Slot) : Type 0 where
  pub lanes : List Slot
  pub after_is : after ≡ before ++ lanes
  pub as_many : length lanes ≡ count
  pub are_empty : Each IsEmptyLane lanes

-- this list, a pool without moves, and a lane in which no period runs
pub record AreThree (list : ListSlot) (lane : LaneView Thread) (pool : Region) (shown : List Slot) : Type 0 where
  pub words : PoolSlot
  pub first : LaneSlot
  pub are : shown ≡ slots.List list ∷ slots.Pool words ∷ slots.Lane first ∷ []
  pub same_pool : words.pool ≡ pool
  pub no_moves : moves_list words.moves ≡ []
  pub same_lane : first.lane ≡ lane
  pub no_period : first.running ≡ None

-- The first slots: the list of a run that has done nothing, the pool without moves, the lane of the one deque, and empty lanes.
pub record AreFirst (order : OrderView) (lane : LaneView Thread) (pool : Region) (deques : ℕ) (shown : List Slot) : Type 0 where
  pub list : ListSlot
  pub words : PoolSlot
  pub first : LaneSlot
  pub others : List Slot
  pub are : shown ≡ slots.List list ∷ slots.Pool words ∷ slots.Lane first ∷ others
  pub is_list : IsFirstList order list
  pub same_pool : words.pool ≡ pool
  pub no_moves : moves_list words.moves ≡ []
  pub same_lane : first.lane ≡ lane
  pub no_period : first.running ≡ None
  pub as_many : length others + 1 ≡ deques
  pub are_empty : Each IsEmptyLane others

-- the note of the first seat, of the worker 0, which has the places of so many workers
abbrev pub first_note : ℕ → SeatNote
first_note workers = record {
  worker = 0;
  places = workers;
  left = false;
  deque = None;
  found = None;
  answered = None;
  counting = false;
  yielded = false;
  enters = None;
  mine = [];
}
