-- What the command `peak` makes of a program.
use Rattle.std.specs.Prelude.{◌≡◌, ◌≤◌, ◌<◌, ℕ, List, length, pos, None, Some}
use Rattle.depth_first_list.specs.Actions.{peak}
use Rattle.dag_order.specs.declared.fault.FaultAt.{FaultAt}
use Rattle.dag_order.specs.declared.finish.Finish.{Finish}
use Rattle.dag_order.specs.declared.finish.Finish.TheVariants.{Done as EndDone, Faulted}
use Rattle.depth_first_run.specs.States.{Item}
use Rattle.depth_first_run.specs.Run.{whole, actions_of, first_fault, lines_of, finish_of}
use Rattle.par_tree.specs.Tree.{Program}
use Rattle.serial_meaning.specs.Settings.{setting_of}
use Rattle.run_report.specs.Texts.{peak_text}
use Rattle.dfd_plays.specs.Messages.{spent_text}
use Rattle.dfd_plays.specs.declared.status.Status.{Status}
use Rattle.dfd_plays.specs.declared.status.Status.TheVariants.{Done, UserFault, StepsSpent}

-- the status of a run that finished so
abbrev pub finish_status : Finish → Status
finish_status EndDone = Done
finish_status (Faulted at) = UserFault

-- what is told of a run that left these items: the numbers printed before its first fault, how it finished, how many
-- actions it had, and the greatest number of words that were live at once
abbrev pub RunText : List Item → List ℕ → Type 0
RunText items text =
    (high : ℕ) × ((pos high ≡ peak (actions_of items)) ×
    (text ≡ peak_text (lines_of items) (finish_of (first_fault items)) (length (actions_of items)) high))

-- what is made of a run that left these items: where it has no more actions than the limit, its text, by whether it
-- has a fault; else the line of the limit
abbrev pub ItemsMake : List Item → (limit : ℕ) → Status → List ℕ → Type 0
ItemsMake items limit Done text = (length (actions_of items) ≤ limit) × ((first_fault items ≡ None) × RunText items text)
ItemsMake items limit UserFault text =
    (length (actions_of items) ≤ limit) × (((fault : FaultAt) × (first_fault items ≡ Some fault)) × RunText items text)
ItemsMake items limit StepsSpent text = (limit < length (actions_of items)) × (text ≡ spent_text limit)
ItemsMake items limit status text = ⊥

-- what is made of a program: that of its depth-first run with the quota k
abbrev pub PeakMakes : (k limit : ℕ) → Program → Status → List ℕ → Type 0
PeakMakes k limit p status text = ItemsMake (whole (setting_of p k)).items limit status text
