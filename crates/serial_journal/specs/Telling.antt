-- What is written down of the items of a run.
use Rattle.std.specs.Prelude.{◌≡◌, ℕ, List, [], ◌∷◌, ℤ, pos, Option, Some, None}
use Rattle.std.specs.List.{AllZip}
use Rattle.containers.specs.BoundedList.{entries}
use Rattle.dag_order.specs.Births.{HasLabel}
use Rattle.dag_order.specs.declared.birth.Birth.{Birth}
use Rattle.dag_order.specs.declared.fault.FaultAt.{FaultAt}
use Rattle.dag_order.specs.declared.finish.Finish.{Finish}
use Rattle.dag_order.specs.declared.finish.Finish.TheVariants.{Done, Faulted}
use Rattle.depth_first_run.specs.Passed.Actions.{Deed, forks, joins, allocates, releases, dummy, faults, ends, Action, kind_of, weight_of, peak}
use Rattle.depth_first_run.specs.States.{Item}
use Rattle.depth_first_run.specs.Run.{actions_of, first_fault, lines_of, finish_of}
use Rattle.serial_journal.specs.declared.action.Action.{Action as Shown}
use Rattle.serial_journal.specs.declared.serial.Serial.{Serial}

-- an action is shown by the name of its thread, which by the births has its label, by its index there, by its kind
-- and by its weight
pub record ShowsAction (births : List Birth) (a : Action) (shown : Shown) : Type 0 where
  pub label : HasLabel (births ∷ []) shown.name.by a.label
  pub index : shown.name.index ≡ a.index
  pub kind : shown.kind ≡ kind_of a.deed
  pub change : shown.change ≡ weight_of a.deed a.words

-- a Fork: the label of the thread that forks, and the ordinal of its child
pub record ForkOf : Type 0 where
  pub label : List ℕ
  pub ordinal : ℕ

-- the Forks among actions, in their order
abbrev pub with_fork : List ℕ → Deed → List ForkOf → List ForkOf
with_fork label (forks child) later = record { label = label; ordinal = child } ∷ later
with_fork label (joins child) later = later
with_fork label allocates later = later
with_fork label releases later = later
with_fork label dummy later = later
with_fork label faults later = later
with_fork label ends later = later

abbrev pub forks_of : List Action → List ForkOf
forks_of [] = []
forks_of (a ∷ later) = with_fork a.label a.deed (forks_of later)

-- a Fork is shown by the birth of its child
pub record ShowsBirth (births : List Birth) (fork : ForkOf) (birth : Birth) : Type 0 where
  pub parent : HasLabel (births ∷ []) birth.parent fork.label
  pub ordinal : birth.ordinal ≡ fork.ordinal

-- what is written down: the first fault, the numbers printed before it, the actions one by one, a birth for each
-- Fork, and the peak
pub record Told (items : List Item) (finish : Finish) (output : List ℤ) (actions : List Shown) (births : List Birth)
    (high : ℕ) : Type 0 where
  pub finish_is : finish ≡ finish_of (first_fault items)
  pub output_is : output ≡ lines_of items
  pub actions_are : AllZip (ShowsAction births) (actions_of items) actions
  pub births_are : AllZip (ShowsBirth births) (forks_of (actions_of items)) births
  pub peak_is : pos high ≡ peak (actions_of items)

-- the result of a run with these items
abbrev pub Tells : List Item → Serial → Type 0
Tells items serial =
    Told items serial.finish (entries serial.output) (entries serial.actions) (entries serial.births) serial.peak

-- all but a Fork, whose child has a birth
abbrev pub IsNoFork : Deed → Type 0
IsNoFork (forks child) = ⊥
IsNoFork (joins child) = Unit {0}
IsNoFork allocates = Unit {0}
IsNoFork releases = Unit {0}
IsNoFork dummy = Unit {0}
IsNoFork faults = Unit {0}
IsNoFork ends = Unit {0}
