-- Which actions the moves are of.
use Rattle.std.specs.Prelude.{◌≡◌, Bool, true, false, List, [], ◌∷◌}
use Rattle.open_periods.specs.Passed.Moved.{Moved}
use Rattle.open_periods.specs.Passed.Actions.{Action, weight}
use Rattle.open_periods.specs.Periods.{Period}
use Rattle.open_periods.specs.Names.{HasLabel}

-- a move is named for an action, and changes the words by its weight
pub record IsMoveOf (periods : List Period) (moved : Moved) (action : Action) : Type 0 where
  pub by : HasLabel periods moved.by.by action.label
  pub index : action.index ≡ moved.by.index
  pub change : moved.change ≡ weight action

-- and so one after another
abbrev pub AreMovesOf : List Period → List Moved → List Action → Type 0
AreMovesOf periods [] [] = Unit {0}
AreMovesOf periods [] (action ∷ actions) = ⊥
AreMovesOf periods (moved ∷ moves) [] = ⊥
AreMovesOf periods (moved ∷ moves) (action ∷ actions) = IsMoveOf periods moved action × AreMovesOf periods moves actions

-- a move is noted where the action is one
abbrev pub noted_if : Bool → Moved → List Moved
noted_if false moved = []
noted_if true moved = moved ∷ []
