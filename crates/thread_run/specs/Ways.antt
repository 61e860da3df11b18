-- Where a thread goes by flat code, all at once.
use Rattle.std.specs.Prelude.{◌≡◌, ◌≤◌, ◌⊎◌, ℕ, false, List, ◌++◌, length, take, reverse, vec_len}
use Rattle.node_table.specs.Table.{Table}
use Rattle.thread_stack.specs.declared.frame.Frame.{Frame}
use Rattle.thread_state.specs.States.{own_row}
use Rattle.flat_threads.specs.Passed.Threads.{standing}
use Rattle.flat_threads.specs.Passed.Follows.{Steps}
use Rattle.thread_code.specs.Passed.FlatList.{FlatList}
use Rattle.thread_code.specs.Passed.Programs.{BeginsAt, mark_at}
use Rattle.flat_threads.specs.Along.{DiffersInRow}
use Rattle.thread_run.specs.declared.run.ThreadRun.{ThreadRun}
use Rattle.thread_run.specs.Functions.{frames_of}

-- The next frames of a thread that no fault ended are the mark of a place of flat code, with so many frames of the stack below them; and the row
-- of its function is as long as that code asks for.
pub record BeginsFlat (t : Table) (run : ThreadRun) (l : FlatList) (place left : ℕ) : Type 0 where
  pub going : run.state.faulted ≡ false
  pub begins : BeginsAt t l place
  pub long : length (own_row run.state) ≡ l.slots
  pub within : left ≤ vec_len run.frames
  pub mark : frames_of run ≡ mark_at l place ++ reverse (take left run.frames.items)

-- A thread that no fault ended has gone a way inside its function: it has the frames `to` in place of `from`, with the same ones below, and
-- the row and the turns of the end of the way.
pub record GoesAlong (t : Table) (before after : ThreadRun) : Type 0 where
  pub from : List Frame
  pub to : List Frame
  pub below : List Frame
  pub before_is : frames_of before ≡ from ++ below
  pub after_is : frames_of after ≡ to ++ below
  pub func : after.func ≡ before.func
  pub told : after.told ≡ before.told
  pub going : before.state.faulted ≡ false
  pub same : DiffersInRow before.state after.state
  pub way : Steps t (standing from (own_row before.state) before.state.turns) (standing to (own_row after.state) after.state.turns)

-- or it is where it was
abbrev pub GoesOrStays : Table → (before after : ThreadRun) → Type 0
GoesOrStays t before after = (after ≡ before) ⊎ GoesAlong t before after
