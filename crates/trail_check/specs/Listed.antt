-- A depth-first list as it was written down.
use Rattle.std.specs.Prelude.{ℕ, List}
use Rattle.std.specs.List.{AllZip}
use Rattle.dag_order.specs.declared.birth.Birth.{Birth}
use Rattle.depth_first_list.specs.Actions.{Action}
use Rattle.depth_first_list.specs.Runs.{IsDepthFirst}
use Rattle.serial_journal.specs.Telling.{ShowsAction}
use Rattle.serial_journal.specs.declared.action.Action.{Action as ActionShown}

-- these actions are a depth-first list, by some quota and by some births of its threads
pub record AreListed (l : List Action) (shown : List ActionShown) : Type 0 where
  pub quota : ℕ
  pub depth_first : IsDepthFirst quota l
  pub births : List Birth
  pub actions : AllZip (ShowsAction births) l shown
