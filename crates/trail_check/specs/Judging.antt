-- What is known of a trail while it is checked.
use Rattle.std.specs.Prelude.{◌≡◌, ℕ, List, Result, Ok, Err}
use Rattle.std.specs.List.{AllZip}
use Rattle.dag_order.specs.declared.birth.Birth.{Birth}
use Rattle.depth_first_run.specs.States as program
use Rattle.depth_first_run.specs.Run.{list_of}
use Rattle.deque_machine.specs.Machine.{Setting}
use Rattle.deque_machine.specs.Moments.{Moment, opening}
use Rattle.deque_machine.specs.Play.{Limits}
use Rattle.deque_machine.specs.Runs.{Pair}
use Rattle.trail_check.specs.Following.{Follows}
use Rattle.trail_check.specs.Verdicts.{accepted, bad_event, not_ended, wrong_numbers, IsVerdict}
use Rattle.serial_journal.specs.Telling.{ShowsAction}
use Rattle.serial_journal.specs.declared.action.Action.{Action}
use Rattle.trail_meaning.specs.declared.trail_event.TrailEvent.{TrailEvent}
use Rattle.trail_meaning.specs.declared.trail_numbers.TrailNumbers.{TrailNumbers}
use Rattle.trail_check.specs.Standing.{StandsFor}
use Rattle.trail_check.specs.declared.checker.Checker.{Checker}
use Rattle.trail_check.specs.declared.verify_fail.VerifyFail.{VerifyFail}
use Rattle.trail_check.specs.declared.verify_fail.VerifyFail.TheVariants.{LongRun, BadEvent, NotEnded, WrongNumbers, OutOfMemory}

-- these actions are the depth-first list of a program with this quota, as it was written down
pub record IsListOf (c : program.Setting) (k : ℕ) (actions : List Action) : Type 0 where
  pub quota : c.quota ≡ k
  pub births : List Birth
  pub shows : AllZip (ShowsAction births) (list_of c) actions

-- a checker has followed these events: from the opening moment they lead to a moment for which it stands
pub record HasFollowed (s : Setting) (limits : Limits) (events : List TrailEvent) (checker : Checker) : Type 0 where
  pub run : List Pair
  pub moment : Moment
  pub follows : Follows s limits opening events run moment
  pub stands : StandsFor s limits run moment checker

-- an answer is the verdict on the events and the numbers of a trail; want of memory is free
abbrev pub GivesVerdict : Setting → Limits → List TrailEvent → TrailNumbers → Result ℕ VerifyFail → Type 0
GivesVerdict s limits events numbers (Ok actions) = IsVerdict s limits events numbers (accepted actions)
GivesVerdict s limits events numbers (Err (LongRun limit)) = ⊥
GivesVerdict s limits events numbers (Err (BadEvent event)) = IsVerdict s limits events numbers (bad_event event)
GivesVerdict s limits events numbers (Err (NotEnded n)) = IsVerdict s limits events numbers (not_ended n)
GivesVerdict s limits events numbers (Err (WrongNumbers right)) = IsVerdict s limits events numbers (wrong_numbers right)
GivesVerdict s limits events numbers (Err OutOfMemory) = Unit {0}
