-- How a checker stands for a moment of the machine.
use Rattle.std.specs.Prelude.{◌≡◌, ◌<◌, List, length}
use Rattle.std.specs.List.{AllZip}
use Rattle.language_limits.specs.declared.TheConstants.{GREATEST_COUNT}
use Rattle.containers.specs.BoundedList.{entries}
use Rattle.dag_order.specs.declared.birth.Birth.{Birth}
use Rattle.depth_first_list.specs.Runs.{IsDepthFirst}
use Rattle.deque_machine.specs.Moments.{Moment, opening}
use Rattle.deque_machine.specs.Machine.{Setting}
use Rattle.deque_machine.specs.LawfulOrder.{IsLawful}
use Rattle.deque_machine.specs.Play.{Limits}
use Rattle.deque_machine.specs.Runs.{Pair, Reaches}
use Rattle.serial_journal.specs.Telling.{ShowsAction}
use Rattle.trail_check.specs.Partners.{ArePartners}
use Rattle.trail_check.specs.Places.{PlacesAre}
use Rattle.trail_check.specs.Counts.{TallyIs}
use Rattle.trail_check.specs.declared.checker.Checker.{Checker}

-- The checker has the depth-first list of the machine, as it was written down, with its partners, and the numbers of the machine.
pub record Knows (s : Setting) (limits : Limits) (c : Checker) : Type 0 where
  pub some : 0 < s.quota
  pub depth_first : IsDepthFirst s.quota s.list
  pub births : List Birth
  pub actions : AllZip (ShowsAction births) s.list (entries c.actions)
  pub partners : ArePartners s.list c.partners.items
  pub quota : s.quota ≡ c.quota
  pub workers : s.workers ≡ c.workers
  pub capacity : limits.capacity ≡ c.arena
  pub steps : limits.actions ≡ c.steps
  pub most : limits.deques ≡ c.most
  pub list_most : c.deques.most ≡ c.most

-- A checker stands for the moment that a run reaches.
pub record StandsFor (s : Setting) (limits : Limits) (run : List Pair) (m : Moment) (c : Checker) : Type 0 where
  pub knows : Knows s limits c
  pub lawful : IsLawful s m
  pub reaches : Reaches s opening run m
  pub places : PlacesAre s m c.deques.deques c.seats.items c.waits.items
  pub tally : TallyIs s run m c.tally

-- it stands for some moment, after fewer events than a list can have
abbrev pub IsStanding : Checker → Type 0
IsStanding c = (s : Setting) × (limits : Limits) × (run : List Pair) × (m : Moment) × StandsFor s limits run m c × (length run < GREATEST_COUNT)
