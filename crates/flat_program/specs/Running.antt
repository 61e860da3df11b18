-- How a list of flat code runs for a thread.
use Rattle.std.specs.Prelude.{ℕ, List}
use Rattle.node_table.specs.Table.{Table}
use Rattle.slot_store.specs.Rows.{Entry}
use Rattle.flat_code.specs.Passed.Threads.{Standing, standing, thread_step}
use Rattle.flat_code.specs.Passed.Follows.{Steps, IsSameEnd}
use Rattle.flat_run.specs.declared.stop.Stop.{Stop}
use Rattle.flat_run.specs.Ran.{came_to_end}
use Rattle.flat_program.specs.declared.flat_list.FlatList.{FlatList}
use Rattle.flat_program.specs.Programs.{mark_at}

-- where a run of flat code did not go on
abbrev pub Stopped : Type 0
Stopped = Stop

-- a thread with the frames of the mark of a place, with this row and so many turns
abbrev pub stands_at : FlatList → ℕ → List Entry → ℕ → Standing
stands_at l place row turns = standing (mark_at l place) row turns

-- A thread that was at a place has come, step by step, to another, with this row and so many turns, and ends there in the same way.
pub record RunsThread (t : Table) (l : FlatList) (place : ℕ) (before : List Entry) (turns : ℕ) (stop : Stop) (after : List Entry) : Type 0 where
  pub way : Steps t (stands_at l place before turns) (stands_at l stop.place after stop.turns)
  pub ends : IsSameEnd (came_to_end stop.end) (thread_step t (stands_at l stop.place after stop.turns))
