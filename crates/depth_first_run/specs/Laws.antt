-- What a caller may use of the depth-first run.
use Rattle.std.specs.Prelude.{◌≡◌, ◌<◌, ◌≤◌, ℕ, List, ◌∷◌, ◌++◌, length, take, pos, ◌≤ℤ◌}
use Rattle.depth_first_list.specs.Actions.{live_words}
use Rattle.depth_first_list.specs.Runs.{IsDepthFirst}
use Rattle.par_tree.specs.Tree.{Body}
use Rattle.par_ownership.specs.Ownership.{function_of, main_name}
use Rattle.depth_first_run.specs.States.{Setting, State, Item, ended}
use Rattle.depth_first_run.specs.Run.{exec_all, run, whole, actions_of}
use Rattle.depth_first_run.specs.Middle.{Frame, Middle, middle, finished, advance, run_start, to_come}

-- a run is its own fixed point: where it goes on by itself in loops and calls, nothing changes
abbrev pub RunIsFixed : Type 0
RunIsFixed = (c : Setting) (b : Body) (s : State) → run c b s ≡ exec_all c (run c) b s

-- the whole run is the End of what its beginning comes to
abbrev pub BeginningComesToTheWhole : Type 0
BeginningComesToTheWhole = (c : Setting) → whole c ≡ ended 0 (finished c (run_start c (function_of c.program main_name)))

-- finishing from any point gives what finishing from the point before it gives
abbrev pub StepsComeToTheSame : Type 0
StepsComeToTheSame = (c : Setting) (m : Middle) → finished c (advance c m) ≡ finished c m

-- what a run left stays, and more comes behind it
abbrev pub ItemsOnlyGrow : Type 0
ItemsOnlyGrow = (c : Setting) (m : Middle) → (new : List Item) × (State.items (finished c m) ≡ m.state.items ++ new)

-- each step brings the end nearer
abbrev pub StepsNearTheEnd : Type 0
StepsNearTheEnd = (c : Setting) (f : Frame) (fs : List Frame) (s : State)
    → to_come c (advance c (middle (f ∷ fs) s)) < to_come c (middle (f ∷ fs) s)

-- a step leaves its items, with one action at most, next behind those so far: in what the run comes to they stand there
abbrev pub StepsGiveTheNextAction : Type 0
StepsGiveTheNextAction =
    (c : Setting) (m : Middle) → (new : List Item) × (later : List Item) × (length (actions_of new) ≤ 1)
    × ((advance c m).state.items ≡ m.state.items ++ new)
    × (State.items (finished c m) ≡ (m.state.items ++ new) ++ later)

-- the actions of a run are a depth-first list, so all that holds of each such list holds of them
abbrev pub ActionsAreDepthFirst : Type 0
ActionsAreDepthFirst = (c : Setting) → IsDepthFirst c.quota (actions_of (State.items (whole c)))

-- no more is given back than was taken: live words never fall below 0
abbrev pub LiveWordsNeverFallBelowZero : Type 0
LiveWordsNeverFallBelowZero = (c : Setting) (n : ℕ) → pos 0 ≤ℤ live_words (take n (actions_of (State.items (whole c))))
