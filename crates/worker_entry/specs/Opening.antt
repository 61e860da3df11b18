-- The hall of a core and its first seat.
use Rattle.std.specs.Prelude.{◌≡◌, ◌+◌, None}
use Rattle.dfd_core.specs.Cores.{terms_at, workers_of}
use Rattle.dfd_core.specs.declared.run.Core.{Core}
use Rattle.turn_table.specs.Hands.{fresh}
use Rattle.node_table.specs.declared.node_table.NodeTable.{NodeTable}
use Rattle.turn_table.specs.Tables.{key_of, slot_count}
use Rattle.worker_entry.specs.Entry.{IsKeyOf}
use Rattle.hall_slots.specs.First.{first_note}
use Rattle.worker_entry.specs.declared.hall.Hall.{Hall}
use Rattle.worker_entry.specs.declared.seat.Seat.{Seat}

-- A hall of this core, and its program: they have its program, its quota and its terms, and a slot for each deque that there may be.
pub record IsHallOf (core : Core) (hall : Hall) (code : NodeTable) : Type 0 where
  pub key : IsKeyOf core (key_of hall.row)
  pub slots : slot_count hall.row ≡ (terms_at core).limits.deques + 2
  pub program : code ≡ core.code
  pub quota : hall.quota ≡ core.k
  pub workers : hall.workers ≡ workers_of core
  pub limit : hall.limit ≡ (terms_at core).limits.actions

-- The first seat of a hall: the worker 0, with all places, which owns no deque, and has found and was told nothing.
pub record IsFirstSeat (hall : Hall) (seat : Seat) : Type 0 where
  pub worker : seat.worker ≡ 0
  pub places : seat.places ≡ hall.workers
  pub owned : seat.owned ≡ None
  pub stop : seat.stop ≡ None
  pub fresh_hand : seat.place.hand ≡ fresh (first_note hall.workers)
