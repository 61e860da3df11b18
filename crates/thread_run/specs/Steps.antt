-- One step of a thread by a frame that is no statement: what it comes to that was the next one.
use Rattle.std.specs.Prelude.{◌≡◌, ℕ, List, Result, MatchResult}
use Rattle.std.specs.declared.alloc.AllocError.{AllocError}
use Rattle.par_tree.specs.Tree.{Func}
use Rattle.thread_state.specs.Passed.States.{Setting, State}
use Rattle.thread_state.specs.Passed.Middle as middles
use Rattle.thread_state.specs.Passed.Middle.{Middle, step_frame}
use Rattle.node_table.specs.Table.{Table}
use Rattle.thread_points.specs.Points.{marked}
use Rattle.thread_stack.specs.declared.frame.Frame.{Frame}
use Rattle.thread_stack.specs.Frames.{AreFrames, IsFrame, functions_behind}
use Rattle.thread_state.specs.declared.state.ThreadState.{ThreadState}
use Rattle.thread_state.specs.Settings.{IsSettingOf}
use Rattle.thread_run.specs.Stands.{InState}
use Rattle.thread_run.specs.Dones.{IsAction}
use Rattle.thread_run.specs.declared.ready.Ready.{Ready}

-- The action that the frame f comes to in the state s, where fs and xs are behind it, as the depth-first run does it there. It is not done.
abbrev pub IsActionOf : Setting → Table → List Func → ThreadState → List Frame → List middles.Frame → State → middles.Frame → Ready
    → Type 0
IsActionOf c t gs u xs fs s f ready =
    (behind : List middles.Frame) × IsAction c t gs u xs behind (marked f s) (step_frame c f fs s) ready

-- a frame comes to this action
abbrev pub ActsNext : Table → ℕ → ThreadState → Frame → Ready → Type 0
ActsNext t k u x ready =
    (c : Setting) (gs : List Func) (f : middles.Frame) (xs : List Frame) (fs : List middles.Frame) (s : State) → IsSettingOf t k c
    → IsFrame c.program t gs x f → AreFrames c.program t (functions_behind x gs) xs fs → InState gs u s
    → IsActionOf c t gs u xs fs s f ready

-- what the depth-first run leaves without an action, with xs as its frames; it has written nothing down
abbrev pub Leaves : Setting → Table → List Func → ThreadState → List Frame → State → Middle → Type 0
Leaves c t gs u xs s m = AreFrames c.program t gs xs m.frames × InState gs u m.state × (m.state.items ≡ s.items)

-- a frame leads to what the depth-first run leaves there, or there is not enough memory, and the thread is as it was
abbrev pub StepsOn : Table → ℕ → ThreadState → Frame → Result (Unit {0}) AllocError → ThreadState → Type 0
StepsOn t k before x result after =
    (c : Setting) (gs : List Func) (f : middles.Frame) (xs : List Frame) (fs : List middles.Frame) (s : State) → IsSettingOf t k c
    → IsFrame c.program t gs x f → AreFrames c.program t (functions_behind x gs) xs fs → InState gs before s
    → MatchResult result (λ _. Leaves c t gs after xs s (step_frame c f fs s)) (λ _. InState gs after s)
