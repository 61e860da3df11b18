-- What one step of a run changes.
use Rattle.std.specs.Prelude.{◌≡◌, ℕ, ◌+◌, List, [], ◌∷◌, ◌++◌, length, map, filter, ◌+ℤ◌}
use Rattle.open_periods.specs.Passed.Actions.{Action, live_words}
use Rattle.open_periods.specs.Passed.Facts.{action_at, weight_at}
use Rattle.open_periods.specs.Passed.Books.{booked}
use Rattle.open_periods.specs.Passed.Moments.{Moment, opening, live_at}
use Rattle.open_periods.specs.Passed.Machine.{Setting, Event, steals, does, suspends, gives_up, May}
use Rattle.open_periods.specs.Passed.DequeMachineRuns.{Pair, Reaches, place_of, is_move, moves}

-- a run goes on with each event that may come at the moment that it reaches
abbrev pub RunsGoOn : Setting → Type 0
RunsGoOn s = (run : List Pair) (m after : Moment) (worker : ℕ) (event : Event) → Reaches s opening run m → May s m worker event after
    → Reaches s opening (run ++ record { worker = worker; event = event } ∷ []) after

-- its moves are those before, and behind them that of the last event, if it is one
abbrev pub MovesGoOn : List Action → Type 0
MovesGoOn l = (run : List Pair) (pair : Pair) →
    moves l (run ++ pair ∷ []) ≡ moves l run ++ filter is_move (map (action_at l) (place_of pair.event))

-- one action more stands in the books, no period begins, and the words in use rise by the weight of the action
pub record AddsAction (l : List Action) (m after : Moment) (place : ℕ) : Type 0 where
  pub booked : length (booked after.books) ≡ length (booked m.books) + 1
  pub books : length after.books ≡ length m.books
  pub live : live_at l after ≡ live_at l m +ℤ weight_at l place

-- no action more stands in the books, so many periods begin, and the words in use stay
pub record AddsNone (l : List Action) (m after : Moment) (begun : ℕ) : Type 0 where
  pub booked : length (booked after.books) ≡ length (booked m.books)
  pub books : length after.books ≡ length m.books + begun
  pub live : live_at l after ≡ live_at l m

-- so it is with an action
abbrev pub ActionsAreAdded : Setting → Type 0
ActionsAreAdded s = (m after : Moment) (worker place : ℕ) → May s m worker (does place) after → AddsAction s.list m after place

-- and with other events: only a theft begins a period
abbrev pub OthersAddNone : Setting → Type 0
OthersAddNone s = (m after : Moment) (worker : ℕ) →
    (May s m worker suspends after → AddsNone s.list m after 0) ×
    (May s m worker gives_up after → AddsNone s.list m after 0) ×
    ((place id : ℕ) → May s m worker (steals place id) after → AddsNone s.list m after 1)

-- if the moves of a run sum up to the words in use, they do so with an event more
abbrev pub SumsGoOn : Setting → Type 0
SumsGoOn s = (run : List Pair) (m after : Moment) (worker : ℕ) (event : Event) → live_words (moves s.list run) ≡ live_at s.list m
    → May s m worker event after → live_words (moves s.list (run ++ record { worker = worker; event = event } ∷ [])) ≡ live_at s.list after
