-- At which moment it stands what a scheduler shows of itself, and how it goes on with each event.
use Rattle.std.specs.Prelude.{◌≡◌, ℕ, ◌+◌, List, [], ◌++◌, length, map, filter, pos, ◌+ℤ◌}
use Rattle.open_periods.specs.Passed.ActionId.{ActionId}
use Rattle.open_periods.specs.Passed.Births.{root}
use Rattle.open_periods.specs.Passed.Actions.{Action}
use Rattle.open_periods.specs.Passed.Facts.{action_at, weight_at}
use Rattle.open_periods.specs.Passed.Moments.{Moment, opening, live_at}
use Rattle.open_periods.specs.Passed.Machine.{Setting, Event, steals, does, suspends, gives_up, May, HasEnded}
use Rattle.open_periods.specs.Passed.LawfulOrder.{IsLawful}
use Rattle.open_periods.specs.Passed.DequeMachineRuns.{place_of, is_move}
use Rattle.open_periods.specs.Names.{IsNamed}
use Rattle.open_periods.specs.Passed.Moved.{Moved}
use Rattle.moment_shown.specs.Parts.{Thread, Parts, IsKept, parts_with_root}
use Rattle.moment_shown.specs.Standing.{Shows}
use Rattle.moment_shown.specs.Events.{Does, GivesUp, Suspends, Steals, HandsOver}
use Rattle.moment_laws.specs.Moves.{AreMovesOf, noted_if}
use Rattle.moment_laws.specs.Orders.{AreSame}

-- What a scheduler shows of itself, whether one hand holds it or it stands in slots: its parts, the words in use, how many periods were
-- begun, and its moves.
pub record Showing : Type 0 where
  pub parts : Parts
  pub live : ℕ
  pub begun : ℕ
  pub moves : List Moved

-- What is shown stands at a lawful moment, with these actions as its moves: the parts show the moment, as many words are in use and as many
-- periods were begun, the moves are named for those actions, and once the root has ended its result is kept.
pub record StandsAt (s : Setting) (shown : Showing) (moved : List Action) (m : Moment) : Type 0 where
  pub lawful : IsLawful s m
  pub shows : Shows s.quota s.list shown.parts m
  pub live : pos shown.live ≡ live_at s.list m
  pub begun : shown.begun ≡ length m.books
  pub moves : AreMovesOf shown.parts.periods shown.moves moved
  pub root_kept : HasEnded s m [] → IsKept shown.parts.results root

-- an event of a worker may come at a moment, and what is shown stands at the moment after it, with the event's move if it is one
abbrev pub StandsAfter : Setting → Showing → List Action → Moment → (worker : ℕ) → Event → Type 0
StandsAfter s after moved m worker event = (next : Moment) × May s m worker event next
    × StandsAt s after (moved ++ filter is_move (map (action_at s.list) (place_of event))) next

-- no words came or went and nothing was noted, and so many periods were begun
pub record Keeps (before after : Showing) (more : ℕ) : Type 0 where
  pub live : after.live ≡ before.live
  pub begun : after.begun ≡ before.begun + more
  pub moves : after.moves ≡ before.moves

-- The action at a place was counted, under this name: the words in use changed by its weight, no period was begun, and it was noted if it is
-- a move.
pub record Counts (l : List Action) (place : ℕ) (name : ActionId) (before after : Showing) : Type 0 where
  pub live : pos after.live ≡ pos before.live +ℤ weight_at l place
  pub begun : after.begun ≡ before.begun
  pub move : Moved
  pub by : move.by ≡ name
  pub change : move.change ≡ weight_at l place
  pub moves : after.moves ≡ before.moves ++ noted_if (is_move (action_at l place)) move

-- After an event the parts are these, perhaps in another order; or a kept result was handed from them to its parent at once.
pub data Settles (worker : ℕ) (parts after : Parts) : Type 0 where
  as_they_are : AreSame parts after → Settles worker parts after
  handed_on : (next : Parts) → HandsOver parts worker next → AreSame next after → Settles worker parts after

-- a root that has done nothing, alone in a deque without an owner, stands at the opening moment
abbrev pub RootStands : Setting → Type 0
RootStands s = (x : Thread) (shown : Showing) → x.id ≡ root → x.label ≡ [] → x.done ≡ 0 → x.children ≡ [] → x.words ≡ 0
    → shown.parts ≡ parts_with_root x → shown.live ≡ 0 → shown.begun ≡ 0 → shown.moves ≡ [] → StandsAt s shown [] opening

-- the same in another order stands at the same moment
abbrev pub SameStands : Setting → Type 0
SameStands s = (before after : Showing) (moved : List Action) (m : Moment) → StandsAt s before moved m
    → AreSame before.parts after.parts → Keeps before after 0 → StandsAt s after moved m

-- so does a scheduler in which a kept result was handed to its parent
abbrev pub HandingsStand : Setting → Type 0
HandingsStand s = (before after : Showing) (moved : List Action) (m : Moment) (worker : ℕ) (next : Parts) → StandsAt s before moved m
    → HandsOver before.parts worker next → AreSame next after.parts → Keeps before after 0 → StandsAt s after moved m

-- with an action of a worker's top thread it stands at the moment after it
abbrev pub ActionsStand : Setting → Type 0
ActionsStand s = (before after : Showing) (moved : List Action) (m : Moment) (worker place : ℕ) (next : Parts) (name : ActionId)
    → StandsAt s before moved m → Does s.quota s.list before.parts worker place next → Settles worker next after.parts
    → IsNamed s.list before.parts.periods name place → Counts s.list place name before after
    → StandsAfter s after moved m worker (does place)

-- so it does with a deque that is given up
abbrev pub GiveUpsStand : Setting → Type 0
GiveUpsStand s = (before after : Showing) (moved : List Action) (m : Moment) (worker : ℕ) (next : Parts) → StandsAt s before moved m
    → GivesUp before.parts worker next → AreSame next after.parts → Keeps before after 0 → StandsAfter s after moved m worker gives_up

-- with a thread that begins to wait
abbrev pub WaitsStand : Setting → Type 0
WaitsStand s = (before after : Showing) (moved : List Action) (m : Moment) (worker : ℕ) (next : Parts) → StandsAt s before moved m
    → Suspends s.list before.parts worker next → AreSame next after.parts → Keeps before after 0 → StandsAfter s after moved m worker suspends

-- and with a theft, which begins a period
abbrev pub TheftsStand : Setting → Type 0
TheftsStand s = (before after : Showing) (moved : List Action) (m : Moment) (worker place id : ℕ) (next : Parts) → StandsAt s before moved m
    → Steals s.workers before.begun before.parts worker place id next → AreSame next after.parts → Keeps before after 1
    → StandsAfter s after moved m worker (steals place id)
