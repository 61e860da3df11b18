-- What contracts see of a `Journal`.
use Rattle.std.specs.Prelude.{◌≡◌, ℕ, suc, ◌≤◌, List, [], ◌∷◌, ◌++◌, length, pos, ◌+ℤ◌}
use Rattle.std.specs.Int.{int_max}
use Rattle.std.specs.List.{AllZip}
use Rattle.containers.specs.BoundedList.{entries}
use Rattle.dag_order.specs.Births.{HasLabel}
use Rattle.dag_order.specs.declared.thread_id.ThreadId.{ThreadId}
use Rattle.dag_order.specs.declared.birth.Birth.{Birth}
use Rattle.depth_first_run.specs.Passed.Actions.{Deed, Action, live_words, peak}
use Rattle.serial_journal.specs.Telling.{ShowsAction, ShowsBirth, forks_of}
use Rattle.serial_journal.specs.declared.action.Action.{Action as Shown}
use Rattle.serial_journal.specs.declared.journal.Journal.{Journal}

-- the births that it has written down
abbrev pub births_of : Journal → List Birth
births_of journal = entries journal.births

-- an action by its parts
abbrev pub action_named : List ℕ → ℕ → Deed → ℕ → Action
action_named label index deed words = record { label = label; index = index; deed = deed; words = words }

-- it has written down these actions, which are within the limit, a birth for each Fork, and knows the words in use and the most that were
pub record KeepsUp (limit : ℕ) (actions : List Action) (journal : Journal) : Type 0 where
  pub actions_are : AllZip (ShowsAction (births_of journal)) actions (entries journal.actions)
  pub births_are : AllZip (ShowsBirth (births_of journal)) (forks_of actions) (births_of journal)
  pub peak_is : pos journal.peak ≡ peak actions
  pub live_is : journal.live ≡ live_words actions
  pub limit_is : journal.limit ≡ limit
  pub within : length actions ≤ limit

-- nothing that is written down is other than before
pub record IsUnchanged (before after : Journal) : Type 0 where
  pub actions : entries after.actions ≡ entries before.actions
  pub births : births_of after ≡ births_of before
  pub live : after.live ≡ before.live
  pub peak : after.peak ≡ before.peak
  pub limit : after.limit ≡ before.limit

-- a thread that has a label keeps it
abbrev pub KeepsLabels : List Birth → List Birth → Type 0
KeepsLabels births more = (id : ThreadId) (label : List ℕ) → HasLabel (births ∷ []) id label → HasLabel (more ∷ []) id label

-- one action more was written down
pub record Recorded (action : Shown) (before after : Journal) : Type 0 where
  pub actions : entries after.actions ≡ entries before.actions ++ action ∷ []
  pub live : after.live ≡ before.live +ℤ action.change
  pub high : pos after.peak ≡ int_max (pos before.peak) after.live
  pub limit : after.limit ≡ before.limit
  pub room : suc (length (entries before.actions)) ≤ before.limit
