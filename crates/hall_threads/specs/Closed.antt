-- What is left of a run by threads, once its hall is closed.
use Rattle.std.specs.Prelude.{◌≡◌, Ok}
use Rattle.dag_order.specs.declared.finish.Finish.{Finish}
use Rattle.worker_entry.specs.Passed.Core.{Core}
use Rattle.node_table.specs.declared.node_table.NodeTable.{NodeTable}
use Rattle.play_rules.specs.declared.ends.RunEnd.{RunEnd}
use Rattle.play_rules.specs.declared.ends.RunEnd.TheVariants.{Finished}
use Rattle.work_loop.specs.declared.member.Member.{Member}
use Rattle.worker_entry.specs.declared.hall.Hall.{Hall}
use Rattle.worker_entry.specs.declared.seat.Seat.{Seat}
use Rattle.worker_entry.specs.declared.closing.Closing.{Closing}
use Rattle.worker_entry.specs.Closing.{Closes}
use Rattle.worker_entry.specs.Opening.{IsHallOf}
use Rattle.hall_threads.specs.declared.worker.HallWorker.{HallWorker}
use Rattle.hall_threads.specs.Crews.{HasItsEnd, HasKeptRules, seat_of}

-- The member worked until the run had ended for it: it has the places that it had, and its seat has given up no deque but where the rules ask for it.
pub record HasWorked {C : Type 0} (hall : Hall) (before after : Member (HallWorker C) RunEnd) : Type 0 where
  pub has_end : HasItsEnd hall after
  pub rules : HasKeptRules (seat_of after)
  pub places : (seat_of after).places ≡ (seat_of before).places

-- The seat has closed the hall, and this is what is left. If the run has finished, the seats have given up no deque but where the rules ask for
-- it, nor did this one as it closed the hall.
pub record IsClosedBy (hall : Hall) (last : Seat) (closing : Closing) : Type 0 where
  pub closes : Closes hall last (Ok closing)
  pub rules : (finish : Finish) → closing.end ≡ Finished finish → HasKeptRules closes.1

-- This is left of a run of the hall of a core.
abbrev pub IsLeftOf : Core → Closing → Type 0
IsLeftOf core closing = (hall : Hall) × (code : NodeTable) × IsHallOf core hall code × (last : Seat) × IsClosedBy hall last closing
