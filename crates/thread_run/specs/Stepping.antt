-- One step of a thread: what it comes to that took its next frame off.
use Rattle.std.specs.Prelude.{◌≡◌, ℕ, ◌+◌, ◌≤◌, ◌⊎◌, List, [], ◌∷◌, ◌++◌, Option, Some, None, Result, IfOk, MatchResult}
use Rattle.std.specs.declared.alloc.AllocError.{AllocError}
use Rattle.par_tree.specs.Tree.{Func, Stmt}
use Rattle.thread_state.specs.Passed.States.{Setting, State, Item, printed}
use Rattle.thread_state.specs.Passed.Run.{actions_of}
use Rattle.thread_state.specs.Passed.Middle as middles
use Rattle.thread_state.specs.Passed.Middle.{Middle, before_all, step_frame, step_statement}
use Rattle.node_table.specs.Names.{slot_names}
use Rattle.node_table.specs.Table.{Table}
use Rattle.thread_points.specs.Threads.{IsThread, open_children}
use Rattle.thread_stack.specs.declared.frame.Frame.{Frame}
use Rattle.thread_stack.specs.Frames.{AreFrames, IsFrame, IsNode, functions_behind, frames_shown, RunsIn}
use Rattle.thread_stack.specs.Measure.{left_to_do}
use Rattle.thread_output.specs.Telling.{Tells}
use Rattle.thread_state.specs.States.{words_held}
use Rattle.thread_state.specs.declared.state.ThreadState.{ThreadState}
use Rattle.thread_state.specs.Settings.{IsSettingOf}
use Rattle.thread_run.specs.Stands.{InState}
use Rattle.thread_run.specs.Meanings.{Meaning}
use Rattle.thread_run.specs.Dones.{IsAction}
use Rattle.thread_run.specs.declared.ready.Ready.{Ready}
use Rattle.thread_run.specs.declared.done.Done.{Done}
use Rattle.thread_run.specs.declared.done.Done.TheVariants.{Silent, Prints, Acts}
use Rattle.thread_run.specs.declared.run.ThreadRun.{ThreadRun}
use Rattle.thread_run.specs.Functions.{functions_of, frames_of, frames_before}
use Rattle.thread_run.specs.Going.{IsGoing, IsNext, Comes, IsKnown}

-- ---- what a statement of the layer below comes to

-- the frames behind it, the action that it is, and the items that it tells
abbrev pub frames_with : Done → List Frame → List Frame
frames_with (Silent first next) xs = frames_shown first ++ (frames_shown next ++ xs)
frames_with (Prints v) xs = xs
frames_with (Acts ready) xs = xs

abbrev pub ready_of : Done → Option Ready
ready_of (Silent first next) = None
ready_of (Prints v) = None
ready_of (Acts ready) = Some ready

abbrev pub told_by : Done → List Item
told_by (Silent first next) = []
told_by (Prints v) = printed v ∷ []
told_by (Acts ready) = []

-- ---- where a thread stands

-- The frame x was taken off a thread at a point of the run of some accepted program with this table and this quota.
pub record KnowingAt (t : Table) (k : ℕ) (run : ThreadRun) (x : Frame) : Type 0 where
  pub setting : Setting
  pub of_table : IsSettingOf t k setting
  pub functions : List Func
  pub own : List middles.Frame
  pub at : State
  pub part : List Item
  pub older : List (List Item)
  pub thread : IsThread setting own at (part ∷ older)
  pub runs : RunsIn setting.program t run.func functions
  pub frames : AreFrames setting.program t functions (x ∷ frames_of run) own
  pub state : InState functions run.state at
  pub tells : Tells run.told part

abbrev pub IsKnownAt : Table → ℕ → ThreadRun → Frame → Type 0
IsKnownAt t k run x = ∥ KnowingAt t k run x ∥₁

-- a thread goes on with what the depth-first run leaves, without an action
pub record Goes (c : Setting) (t : Table) (before after : ThreadRun) (s : State) (m : Middle) : Type 0 where
  pub functions : List Func
  pub runs : RunsIn c.program t after.func functions
  pub frames : AreFrames c.program t functions (frames_of after) m.frames
  pub state : InState functions after.state m.state
  pub new : List Item
  pub grown : m.state.items ≡ s.items ++ new
  pub quiet : actions_of new ≡ []
  pub tells : (part : List Item) → Tells before.told part → Tells after.told (part ++ new)

-- from a frame f with fs behind it a thread goes on so, or stands before an action
abbrev pub RunsBy : Setting → Table → List Func → (before after : ThreadRun) → middles.Frame → List middles.Frame → State → Option Ready
    → Type 0
RunsBy c t gs before after f fs s None = Goes c t before after s (step_frame c f fs s)
RunsBy c t gs before after f fs s (Some ready) =
    IsNext c t gs after ready (f ∷ fs) s × InState gs after.state s × ((part : List Item) → Tells before.told part → Tells after.told part)

-- where memory is wanting it is where it was, or behind a step without an action
pub record Wants (after : ThreadRun) (s : State) (m : Middle) : Type 0 where
  pub functions : List Func
  pub at : State
  pub state : InState functions after.state at
  pub new : List Item
  pub where_it_is : (at ≡ s) ⊎ ((at ≡ m.state) × (m.state.items ≡ s.items ++ new) × (actions_of new ≡ []))

abbrev pub StepsRun : Table → ℕ → (before : ThreadRun) → Frame → Result (Option Ready) AllocError → (after : ThreadRun) → Type 0
StepsRun t k before x result after =
    (c : Setting) (gs : List Func) (f : middles.Frame) (fs : List middles.Frame) (s : State) → IsSettingOf t k c
    → RunsIn c.program t before.func gs → IsFrame c.program t gs x f → AreFrames c.program t (functions_behind x gs) (frames_of before) fs
    → InState gs before.state s
    → MatchResult result (λ o. RunsBy c t gs before after f fs s o) (λ _. Wants after s (step_frame c f fs s))

-- ---- a statement

-- The node n is the next statement of a thread that no fault ended, and what is left behind it is what the frames have.
pub record Meeting (t : Table) (k n : ℕ) (run : ThreadRun) : Type 0 where
  pub meaning : Meaning t k n run.state
  pub frames : AreFrames meaning.setting.program t (meaning.runs ∷ meaning.waiting) (frames_of run) (before_all meaning.later meaning.own)

abbrev pub IsMet : Table → ℕ → ThreadRun → ℕ → Type 0
IsMet t k run n = ∥ Meeting t k n run ∥₁

-- A statement, which leads from the state s, with fs behind it, to m: the thread goes on there, or stands before an action that leads there.
abbrev pub Does : Setting → Table → List Func → (before after : ThreadRun) → List middles.Frame → State → Middle → Option Ready → Type 0
Does c t gs before after fs s m None = Goes c t before after s m
Does c t gs before after fs s m (Some ready) =
    RunsIn c.program t after.func gs × InState gs after.state s × IsAction c t gs after.state (frames_of after) fs s m ready
    × ((part : List Item) → Tells before.told part → Tells after.told part)

abbrev pub DoesRun : Table → ℕ → (before : ThreadRun) → (node : ℕ) → Result (Option Ready) AllocError → (after : ThreadRun) → Type 0
DoesRun t k before n result after =
    (c : Setting) (g : Func) (gs : List Func) (line : ℕ) (stmt : Stmt) (fs : List middles.Frame) (s : State) → IsSettingOf t k c
    → RunsIn c.program t before.func (g ∷ gs) → IsNode c.program t (slot_names g) n line stmt
    → AreFrames c.program t (g ∷ gs) (frames_of before) fs → InState (g ∷ gs) before.state s
    → MatchResult result (λ o. Does c t (g ∷ gs) before after fs s (step_statement c line stmt fs s) o)
    (λ _. Wants after s (step_statement c line stmt fs s))

-- ---- what a step keeps

abbrev pub frames_left : Option Ready → List Frame → List Frame
frames_left None xs = xs
frames_left (Some ready) xs = frames_before ready xs

-- the functions in which its open children were forked, and the one in which it began
abbrev pub KeepsFunctions : ThreadRun → Frame → Result (Option Ready) AllocError → ThreadRun → Type 0
KeepsFunctions before x result after =
    IfOk result (λ o. functions_of after.func (frames_left o (frames_of after)) ≡ functions_of before.func (x ∷ frames_of before))

-- its label, its counts and its words
abbrev pub KeepsCounts : ThreadState → ThreadState → Type 0
KeepsCounts u v = (v.label ≡ u.label) × (v.done ≡ u.done) × (v.forks ≡ u.forks) × (v.faulted ≡ u.faulted) × (words_held v ≡ words_held u)

-- and it leaves less, where no action comes
abbrev pub FallsBy : Table → ThreadRun → Frame → ThreadRun → Option Ready → Type 0
FallsBy t before x after None =
    left_to_do t after.state.turns (frames_of after) + 1 ≤ left_to_do t before.state.turns (x ∷ frames_of before)
FallsBy t before x after (Some ready) = Unit {0}

abbrev pub RunsLess : Table → ThreadRun → Frame → Result (Option Ready) AllocError → ThreadRun → Type 0
RunsLess t before x result after = IfOk result (λ o. FallsBy t before x after o)

-- ---- threads

-- a thread goes on at a later point, with the same open children
pub record GoesOn (c : Setting) (t : Table) (own : List middles.Frame) (older : List (List Item)) (after : ThreadRun) : Type 0 where
  pub functions : List Func
  pub frames : List middles.Frame
  pub at : State
  pub part : List Item
  pub thread : IsThread c frames at (part ∷ older)
  pub children : open_children frames ≡ open_children own
  pub going : IsGoing c t functions after frames at part

abbrev pub ComesTo : Setting → Table → List middles.Frame → List (List Item) → ThreadRun → Option Ready → Type 0
ComesTo c t own older after None = GoesOn c t own older after
ComesTo c t own older after (Some ready) = Comes c t own older after ready

-- behind a frame that was taken off each thread with this table comes to its next point, or stands before its next action
abbrev pub ComesBy : Table → ℕ → ThreadRun → Frame → Result (Option Ready) AllocError → ThreadRun → Type 0
ComesBy t k before x result after =
    (c : Setting) (gs : List Func) (own : List middles.Frame) (s : State) (part : List Item) (older : List (List Item))
    → IsSettingOf t k c → IsThread c own s (part ∷ older) → RunsIn c.program t before.func gs
    → AreFrames c.program t gs (x ∷ frames_of before) own → InState gs before.state s → Tells before.told part
    → IfOk result (λ o. ComesTo c t own older after o)

-- and it is known again where it is
abbrev pub KnownAgain : Table → ℕ → ThreadRun → Option Ready → Type 0
KnownAgain t k after None = IsKnown t k after
KnownAgain t k after (Some ready) = Unit {0}

-- For each program of which the table is the table, a thread at a point has gone on to a later one, or has come to its next action.
abbrev pub StepsOn : Table → ℕ → ThreadRun → Result (Option Ready) AllocError → ThreadRun → Type 0
StepsOn t k before result after =
    (c : Setting) (gs : List Func) (own : List middles.Frame) (s : State) (part : List Item) (older : List (List Item))
    → IsSettingOf t k c → IsThread c own s (part ∷ older) → IsGoing c t gs before own s part
    → MatchResult result (λ o. ComesTo c t own older after o) (λ _. Unit {0})

-- on the way from `start`: each thread with this table has gone on, and has kept what it keeps
pub record UnderWay (t : Table) (k : ℕ) (start now : ThreadRun) : Type 0 where
  pub known : IsKnown t k now
  pub goes : (c : Setting) (gs : List Func) (own : List middles.Frame) (s : State) (part : List Item) (older : List (List Item))
      → IsSettingOf t k c → IsThread c own s (part ∷ older) → IsGoing c t gs start own s part → GoesOn c t own older now
  pub counts : KeepsCounts start.state now.state
  pub functions : functions_of now.func (frames_of now) ≡ functions_of start.func (frames_of start)
