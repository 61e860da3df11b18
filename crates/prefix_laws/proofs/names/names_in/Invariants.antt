use Rattle.std.proofs.Common.{◌≡◌, List, map, take}
use Rattle.containers.specs.BoundedList.{entries}
use Rattle.depth_first_run.specs.States.{Item}
use Rattle.depth_first_run.specs.Run.{actions_of}
use Rattle.serial_journal.specs.Telling.{Tells}
use Rattle.prefix_laws.specs.Naming.{name_shown}
use Rattle.prefix_laws.proofs.names.names_in.Given as goal

-- the names of the first actions are there
abbrev pub invariant-actions : goal.invariant-actions
invariant-actions l = (items : List Item) → Tells items l.serial → entries l.names ≡ map name_shown (take l.place (actions_of items))
