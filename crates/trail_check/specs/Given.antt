-- What a checker is given.
use Rattle.std.specs.Prelude.{◌≡◌, ℕ, ◌<◌, Option, List}
use Rattle.std.specs.List.{AllZip}
use Rattle.dag_order.specs.declared.birth.Birth.{Birth}
use Rattle.depth_first_list.specs.Runs.{IsDepthFirst}
use Rattle.deque_machine.specs.Machine.{Setting}
use Rattle.deque_machine.specs.Play.{Limits}
use Rattle.serial_journal.specs.Telling.{ShowsAction}
use Rattle.serial_journal.specs.declared.action.Action.{Action}
use Rattle.trail_check.specs.Partners.{ArePartners}
use Rattle.trail_check.specs.declared.terms.Terms.{Terms}

-- a depth-first list of the machine, as it was written down, the partners of its places, and the numbers of the machine
pub record IsGiven (s : Setting) (limits : Limits) (actions : List Action) (partners : List (Option ℕ)) (terms : Terms) : Type 0 where
  pub some : 0 < s.quota
  pub depth_first : IsDepthFirst s.quota s.list
  pub births : List Birth
  pub shows : AllZip (ShowsAction births) s.list actions
  pub are : ArePartners s.list partners
  pub quota : s.quota ≡ terms.quota
  pub workers : s.workers ≡ terms.workers
  pub capacity : limits.capacity ≡ terms.arena
  pub steps : limits.actions ≡ terms.steps
  pub most : limits.deques ≡ terms.deques
