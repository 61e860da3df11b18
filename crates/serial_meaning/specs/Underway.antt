-- A run between two of its actions.
use Rattle.std.specs.Prelude.{ℕ}
use Rattle.depth_first_run.specs.States.{Setting}
use Rattle.node_table.specs.Table.{Table}
use Rattle.thread_frames.specs.Passed.Settings.{IsSettingOf}
use Rattle.serial_meaning.specs.Stacks.{Stand}
use Rattle.serial_meaning.specs.Writing.{Write}
use Rattle.serial_meaning.specs.declared.run.Run.{Run}

-- its threads stand as they must, and its first actions are written down, whichever program the table is of
pub record IsUnderWay (t : Table) (k limit : ℕ) (run : Run) : Type 0 where
  pub stand : Stand t k run
  pub write : (c : Setting) → IsSettingOf t k c → Write c limit run
