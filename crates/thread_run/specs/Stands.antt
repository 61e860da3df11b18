-- Where a thread stands between two steps: what is left to it, and its state.
use Rattle.std.specs.Prelude.{ℕ, List, ◌∷◌, map}
use Rattle.par_tree.specs.Tree.{Func}
use Rattle.thread_state.specs.Passed.States.{Setting, State}
use Rattle.thread_state.specs.Passed.Middle as middles
use Rattle.node_table.specs.Names.{slot_names}
use Rattle.node_table.specs.Table.{Table}
use Rattle.thread_stack.specs.declared.frame.Frame.{Frame}
use Rattle.thread_stack.specs.Frames.{AreFrames}
use Rattle.thread_state.specs.States.{IsState}
use Rattle.thread_state.specs.declared.state.ThreadState.{ThreadState}
use Rattle.thread_state.specs.Settings.{IsSettingOf}

-- the thread is in the state s, where these functions have open calls, the innermost first
abbrev pub InState : List Func → ThreadState → State → Type 0
InState gs u s = IsState (map slot_names gs) u s

-- a thread in which g runs has the frames xs, the next one first, behind what it does now, and is in the state s
pub record Stands (t : Table) (k : ℕ) (c : Setting) (g : Func) (gs : List Func) (u : ThreadState) (xs : List Frame)
    (fs : List middles.Frame) (s : State) : Type 0 where
  pub setting : IsSettingOf t k c
  pub frames : AreFrames c.program t (g ∷ gs) xs fs
  pub state : InState (g ∷ gs) u s
