-- How a step of a thread over slots is a step of the depth-first run.
use Rattle.std.specs.Prelude.{◌≡◌, ℕ, ◌≤◌, false, List, [], ◌∷◌, ◌++◌, length}
use Rattle.flat_expressions.specs.Passed.Tree.{Name, Func}
use Rattle.thread_stack.specs.Passed.States.{Setting, State, Item, began, with_item, with_fault}
use Rattle.thread_stack.specs.Passed.Run.{actions_of}
use Rattle.thread_stack.specs.Passed.Middle as middles
use Rattle.thread_stack.specs.Passed.Middle.{Middle, step_frame}
use Rattle.thread_stack.specs.Passed.Table.{Table}
use Rattle.flat_expressions.specs.Passed.Rows.{Entry, blocks_at}
use Rattle.flat_expressions.specs.Passed.Agreement.{ShowsStore}
use Rattle.thread_stack.specs.declared.frame.Frame.{Frame}
use Rattle.thread_stack.specs.Frames.{AreFrames, names_now}
use Rattle.flat_statements.specs.Flat.{Came, goes_to, meets, stops}
use Rattle.flat_statements.specs.Threads.{Standing}

-- The row shows the store of a state, and there are as many turns left. No fault has ended the thread, and no slot has two blocks.
pub record IsInState (names : List Name) (row : List Entry) (left : ℕ) (s : State) : Type 0 where
  pub shows : ShowsStore names row s.store
  pub turns : left ≡ s.turns
  pub going : s.faulted ≡ false
  pub single : (b : ℕ) → length (blocks_at row b) ≤ 1

-- Where the depth-first run comes from the state s to m by one step: the thread has the frames and the state there, nothing but the store
-- and the turns has changed, and nothing but marks of lines was left; or it meets the fault of the run.
abbrev pub IsStepOf : Setting → Table → List Func → State → Middle → Came Standing → Type 0
IsStepOf c t gs s m (goes_to after) =
    (new : List Item) × AreFrames c.program t gs after.frames m.frames × IsInState (names_now gs) after.row after.turns m.state
    × (m.state ≡ record s { store = m.state.store; turns = m.state.turns; items = s.items ++ new }) × (actions_of new ≡ [])
IsStepOf c t gs s m (meets kind) = (line : ℕ) × (m.state ≡ with_fault kind line (with_item (began line) s))
IsStepOf c t gs s m stops = Unit {0}

-- steps of the depth-first run that do no action lead from one middle to another
pub data RunsFor (c : Setting) : Middle → Middle → Type 0 where
  rests : {m : Middle} → RunsFor c m m
  goes : {m to : Middle} → (f : middles.Frame) (fs : List middles.Frame) (new : List Item) → m.frames ≡ f ∷ fs
      → (step_frame c f fs m.state).state.items ≡ m.state.items ++ new → actions_of new ≡ [] → RunsFor c (step_frame c f fs m.state) to → RunsFor c m to

-- So the depth-first run comes from m to where the thread has the frames of u, with zs after them, and the row and the turns of u.
pub record IsWayOf (c : Setting) (t : Table) (gs : List Func) (zs : List Frame) (m : Middle) (u : Standing) : Type 0 where
  pub to : Middle
  pub new : List Item
  pub runs : RunsFor c m to
  pub frames : AreFrames c.program t gs (u.frames ++ zs) to.frames
  pub state : IsInState (names_now gs) u.row u.turns to.state
  pub same : to.state ≡ record m.state { store = to.state.store; turns = to.state.turns; items = m.state.items ++ new }
  pub quiet : actions_of new ≡ []
