-- What is told of the items of a run.
use Rattle.std.specs.Prelude.{◌≡◌, ◌<◌, List, length, ℤ, Option, Some, None}
use Rattle.language_limits.specs.declared.TheConstants.{GREATEST_COUNT}
use Rattle.dag_order.specs.declared.fault.FaultAt.{FaultAt}
use Rattle.thread_points.specs.Passed.States.{Item}
use Rattle.thread_points.specs.Passed.Run.{lines_of, first_fault}
use Rattle.thread_output.specs.declared.told.Told.{Told}

abbrev pub fault_of : Told → Option FaultAt
fault_of told = told.fault

-- the lines that are kept are these; they are lost exactly where they are more than `GREATEST_COUNT`
abbrev pub AreLines : Option (List ℤ) → List ℤ → Type 0
AreLines (Some kept) lines = kept ≡ lines
AreLines None lines = GREATEST_COUNT < length lines

-- The fault is the first one of the items, and the lines are those that they printed before it.
pub record Tells (told : Told) (items : List Item) : Type 0 where
  pub fault : told.fault ≡ first_fault items
  pub lines : AreLines told.lines (lines_of items)
