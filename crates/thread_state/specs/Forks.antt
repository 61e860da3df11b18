-- What a Fork needs before it is done.
use Rattle.std.specs.Prelude.{◌≡◌, suc, [], map}
use Rattle.dag_order.specs.LabelOrder.{fork_of}
use Rattle.slot_store.specs.Rows.{without_block}
use Rattle.slot_store.specs.Shown.{slots_shown}
use Rattle.thread_state.specs.States.{own_row}
use Rattle.thread_state.specs.declared.state.ThreadState.{ThreadState}
use Rattle.thread_state.specs.declared.fork_room.ForkRoom.{ForkRoom}

-- a room for the next child of a thread has its label, no callers, and a row with the integers of the thread
pub record IsRoom (t : ThreadState) (room : ForkRoom) : Type 0 where
  pub label : room.label ≡ fork_of t.label (suc t.forks)
  pub row : slots_shown room.slots ≡ map without_block (own_row t)
  pub callers : room.callers.items ≡ []

-- for a child that runs a tree of dummies the row has no slots
pub record IsDummyRoom (t : ThreadState) (room : ForkRoom) : Type 0 where
  pub label : room.label ≡ fork_of t.label (suc t.forks)
  pub row : slots_shown room.slots ≡ []
  pub callers : room.callers.items ≡ []
