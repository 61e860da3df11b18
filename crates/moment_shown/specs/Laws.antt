-- What each event of the machine is, on parts that show its moment.
use Rattle.std.specs.Prelude.{◌≡◌, ℕ, ◌≤◌, List, [], ◌∷◌, ◌++◌, length, map}
use Rattle.open_periods.specs.Passed.Birth.{Birth}
use Rattle.open_periods.specs.Passed.Births.{root, ParentsComeFirst, MayFollow}
use Rattle.deque_machine.specs.Moments.{Moment, opening}
use Rattle.deque_machine.specs.Machine.{Setting, Event, steals, does, suspends, gives_up, May}
use Rattle.deque_machine.specs.LawfulOrder.{IsLawful}
use Rattle.open_periods.specs.Periods.{Period}
use Rattle.open_periods.specs.Telling.{Tell}
use Rattle.deque_machine.specs.Books.{booked}
use Rattle.moment_shown.specs.Parts.{Thread, Parts, IsIn, parts_with_root}
use Rattle.moment_shown.specs.Standing.{Shows}
use Rattle.moment_shown.specs.Events.{Does, GivesUp, Suspends, Steals, HandsOver}

-- a root that has done nothing is the opening moment
abbrev pub RootIsTheOpening : Setting → Type 0
RootIsTheOpening s = (x : Thread) → x.id ≡ root → x.label ≡ [] → x.done ≡ 0 → x.children ≡ [] → x.words ≡ 0
    → Shows s.quota s.list (parts_with_root x) opening

-- this event of a worker may come, and the parts show the moment behind it
abbrev pub Comes : Setting → Moment → ℕ → Event → Parts → Type 0
Comes s m worker event next = (after : Moment) × May s m worker event after × Shows s.quota s.list next after

abbrev pub ActionsAreEvents : Setting → Type 0
ActionsAreEvents s = (m : Moment) (parts : Parts) (worker place : ℕ) (next : Parts) → IsLawful s m → Shows s.quota s.list parts m
    → Does s.quota s.list parts worker place next → Comes s m worker (does place) next

abbrev pub GiveUpsAreEvents : Setting → Type 0
GiveUpsAreEvents s = (m : Moment) (parts : Parts) (worker : ℕ) (next : Parts) → IsLawful s m → Shows s.quota s.list parts m
    → GivesUp parts worker next → Comes s m worker gives_up next

abbrev pub WaitsAreEvents : Setting → Type 0
WaitsAreEvents s = (m : Moment) (parts : Parts) (worker : ℕ) (next : Parts) → IsLawful s m → Shows s.quota s.list parts m
    → Suspends s.list parts worker next → Comes s m worker suspends next

abbrev pub TheftsAreEvents : Setting → Type 0
TheftsAreEvents s = (m : Moment) (parts : Parts) (worker place id : ℕ) (next : Parts) → IsLawful s m → Shows s.quota s.list parts m
    → Steals s.workers (length m.books) parts worker place id next → Comes s m worker (steals place id) next

-- a thread of the parts has done no more actions than are done
abbrev pub ThreadsCountWithin : Setting → Type 0
ThreadsCountWithin s = (m : Moment) (parts : Parts) (x : Thread) → IsLawful s m → Shows s.quota s.list parts m → IsIn x parts
    → x.done ≤ length (booked m.books)

-- The births of the periods, in the order of their numbers, are those of a lawful moment, and so they come parents first: each parent is the
-- root, or was born in an earlier period or earlier in the same one.
abbrev pub BirthsComeParentsFirst : Setting → Type 0
BirthsComeParentsFirst s = (m : Moment) (periods : List Period) (t : Tell s.quota s.list periods m.books) → IsLawful s m
    → ParentsComeFirst (map (λ p. p.born) t.sorted)

-- so they may be added to a roster one period after the other
abbrev pub BirthsMayFollow : Setting → Type 0
BirthsMayFollow s = (m : Moment) (periods : List Period) (t : Tell s.quota s.list periods m.books) → IsLawful s m
    → (front back : List (List Birth)) (births : List Birth) → map (λ p. p.born) t.sorted ≡ front ++ births ∷ back → MayFollow front births

-- a result that is handed over changes no moment
abbrev pub HandingOverIsNoEvent : Setting → Type 0
HandingOverIsNoEvent s = (m : Moment) (parts : Parts) (worker : ℕ) (next : Parts) → IsLawful s m → Shows s.quota s.list parts m
    → HandsOver parts worker next → Shows s.quota s.list next m
