-- Where a thread goes: from a point of the one depth-first run to the one before its next action.
use Rattle.std.specs.Prelude.{◌≡◌, ℕ, List, [], ◌∷◌, Result, MatchResult}
use Rattle.std.specs.declared.alloc.AllocError.{AllocError}
use Rattle.par_tree.specs.Tree.{Func}
use Rattle.dag_order.specs.declared.fault.FaultAt.{FaultAt}
use Rattle.thread_state.specs.Passed.States.{Setting, State, Item, with_fault}
use Rattle.thread_state.specs.Passed.Middle as middles
use Rattle.thread_state.specs.Passed.Middle.{step_frame}
use Rattle.node_table.specs.Table.{Table}
use Rattle.thread_points.specs.Points.{IsPlain, marked}
use Rattle.thread_points.specs.Threads.{IsThread, open_children}
use Rattle.thread_stack.specs.declared.branch.Branch.{Branch}
use Rattle.thread_stack.specs.declared.frame.Frame.TheVariants.{Joins}
use Rattle.thread_stack.specs.Frames.{AreFrames, RunsIn}
use Rattle.thread_output.specs.Telling.{Tells}
use Rattle.thread_state.specs.Settings.{IsSettingOf}
use Rattle.thread_run.specs.Stands.{InState}
use Rattle.thread_run.specs.Dones.{IsAction}
use Rattle.thread_run.specs.declared.ready.Ready.{Ready}
use Rattle.thread_run.specs.declared.ready.Ready.TheVariants.{Fork, Join, Alloc, Release, Dummy, Fault, End}
use Rattle.thread_run.specs.declared.run.ThreadRun.{ThreadRun}
use Rattle.thread_run.specs.Functions.{frames_of}

-- A thread has these frames left and is in the state s, where the functions gs have open calls, the innermost first. The items `part` are
-- what it has left since its newest open fork.
pub record IsGoing (c : Setting) (t : Table) (gs : List Func) (run : ThreadRun) (own : List middles.Frame) (s : State)
    (part : List Item) : Type 0 where
  pub runs : RunsIn c.program t run.func gs
  pub frames : AreFrames c.program t gs (frames_of run) own
  pub state : InState gs run.state s
  pub tells : Tells run.told part

-- the next frame of the depth-first run leads to this action, which is not done yet; `behind` is what stands behind its statement
pub record ActsBy (c : Setting) (t : Table) (gs : List Func) (run : ThreadRun) (ready : Ready) (own : List middles.Frame)
    (s : State) : Type 0 where
  pub next : middles.Frame
  pub rest : List middles.Frame
  pub own_is : own ≡ next ∷ rest
  pub plain : IsPlain next
  pub runs : RunsIn c.program t run.func gs
  pub behind : List middles.Frame
  pub acts : IsAction c t gs run.state (frames_of run) behind (marked next s) (step_frame c next rest s) ready

-- it leads to this fault; where it comes at the end of a call, its caller goes on behind it
pub record FaultsBy (c : Setting) (t : Table) (run : ThreadRun) (fault : FaultAt) (own : List middles.Frame)
    (s : State) : Type 0 where
  pub next : middles.Frame
  pub rest : List middles.Frame
  pub own_is : own ≡ next ∷ rest
  pub plain : IsPlain next
  pub functions : List Func
  pub runs : RunsIn c.program t run.func functions
  pub frames : AreFrames c.program t functions (frames_of run) (middles.Middle.frames (step_frame c next rest s))
  pub comes : middles.Middle.state (step_frame c next rest s) ≡ with_fault fault.kind fault.line (marked next s)

-- the next frame is the Join of the newest open child; or nothing is left but the End
pub record JoinsBy (c : Setting) (t : Table) (gs : List Func) (run : ThreadRun) (branch : Branch) (own : List middles.Frame) : Type 0 where
  pub runs : RunsIn c.program t run.func gs
  pub frames : AreFrames c.program t gs (Joins branch ∷ frames_of run) own

pub record EndsBy (c : Setting) (t : Table) (gs : List Func) (run : ThreadRun) (own : List middles.Frame) : Type 0 where
  pub runs : RunsIn c.program t run.func gs
  pub frames : AreFrames c.program t gs (frames_of run) own
  pub none_left : own ≡ []

-- this is the next action of a thread with the frames `own`, in the state s
abbrev pub IsNext : Setting → Table → List Func → ThreadRun → Ready → List middles.Frame → State → Type 0
IsNext c t gs run (Fork forking) own s = ActsBy c t gs run (Fork forking) own s
IsNext c t gs run (Join branch) own s = JoinsBy c t gs run branch own
IsNext c t gs run (Alloc slot len shell) own s = ActsBy c t gs run (Alloc slot len shell) own s
IsNext c t gs run (Release slot words) own s = ActsBy c t gs run (Release slot words) own s
IsNext c t gs run Dummy own s = ActsBy c t gs run Dummy own s
IsNext c t gs run (Fault fault) own s = FaultsBy c t run fault own s
IsNext c t gs run End own s = EndsBy c t gs run own

-- a thread stands before this action
pub record IsBefore (c : Setting) (t : Table) (gs : List Func) (run : ThreadRun) (ready : Ready) (own : List middles.Frame) (s : State)
    (part : List Item) : Type 0 where
  pub next : IsNext c t gs run ready own s
  pub state : InState gs run.state s
  pub tells : Tells run.told part

-- a thread goes on at a point of the run of some accepted program with this table and this quota
pub record Knowing (t : Table) (k : ℕ) (run : ThreadRun) : Type 0 where
  pub setting : Setting
  pub of_table : IsSettingOf t k setting
  pub functions : List Func
  pub own : List middles.Frame
  pub at : State
  pub part : List Item
  pub older : List (List Item)
  pub thread : IsThread setting own at (part ∷ older)
  pub going : IsGoing setting t functions run own at part

abbrev pub IsKnown : Table → ℕ → ThreadRun → Type 0
IsKnown t k run = ∥ Knowing t k run ∥₁

-- where it comes to: the same open children, and what it left before them
pub record Comes (c : Setting) (t : Table) (own : List middles.Frame) (older : List (List Item)) (after : ThreadRun) (ready : Ready)
    : Type 0 where
  pub functions : List Func
  pub frames : List middles.Frame
  pub at : State
  pub part : List Item
  pub thread : IsThread c frames at (part ∷ older)
  pub children : open_children frames ≡ open_children own
  pub before : IsBefore c t functions after ready frames at part

-- for each program of which the table is the table, a thread at a point comes to its next action
abbrev pub Advances : Table → ℕ → ThreadRun → Result Ready AllocError → ThreadRun → Type 0
Advances t k before result after =
    (c : Setting) (gs : List Func) (own : List middles.Frame) (s : State) (part : List Item) (older : List (List Item))
    → IsSettingOf t k c → IsThread c own s (part ∷ older) → IsGoing c t gs before own s part
    → MatchResult result (λ ready. Comes c t own older after ready) (λ _. Unit {0})
