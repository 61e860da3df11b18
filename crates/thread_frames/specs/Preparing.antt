-- What is prepared for an action, and what `main` begins with.
use Rattle.std.specs.Prelude.{◌≡◌, ℕ, List, [], ◌∷◌, reverse, Some, Vec}
use Rattle.std.specs.declared.alloc.Global.{Global}
use Rattle.block_arena.specs.Size.{words_taken}
use Rattle.thread_run.specs.Passed.Tree.{Func, Program}
use Rattle.thread_run.specs.Passed.Ownership.{function_of, main_name}
use Rattle.thread_state.specs.Passed.States.{Setting}
use Rattle.thread_state.specs.Passed.Run.{root_start}
use Rattle.thread_state.specs.Passed.Middle as middles
use Rattle.thread_state.specs.Passed.Middle.{run_start}
use Rattle.node_table.specs.Table.{Table}
use Rattle.thread_stack.specs.declared.frame.Frame.{Frame}
use Rattle.thread_stack.specs.Frames.{AreFrames, IsFunctionOf}
use Rattle.thread_state.specs.States.{words_held}
use Rattle.thread_state.specs.declared.state.ThreadState.{ThreadState}
use Rattle.thread_state.specs.Settings.{IsSettingOf}
use Rattle.thread_run.specs.declared.ready.Ready.{Ready}
use Rattle.thread_run.specs.declared.ready.Ready.TheVariants as ready
use Rattle.thread_run.specs.Functions.{functions_of, frames_of}
use Rattle.thread_run.specs.Going.{IsGoing}
use Rattle.thread_run.specs.declared.run.ThreadRun.{ThreadRun}
use Rattle.thread_frames.specs.Memory.{RoomFits}
use Rattle.thread_frames.specs.Slots.{taken_slots, assigned_slots}
use Rattle.thread_frames.specs.declared.child_room.ChildRoom.{ChildRoom}
use Rattle.thread_frames.specs.declared.prepared.Prepared.{Prepared}
use Rattle.thread_frames.specs.declared.prepared.Prepared.TheVariants.{Fork, Join, Alloc, Release, Dummy, Fault, End}

-- what is prepared for an action that is ready
abbrev pub Prepares : Table → ThreadState → Ready → Prepared → Type 0
Prepares t state (ready.Fork forking) prepared =
    (room : ChildRoom) × (prepared ≡ Fork forking room) × RoomFits state forking.branch room.room
    × (room.named.items ≡ taken_slots t forking.branch)
Prepares t state (ready.Join branch) prepared =
    (assigned : Vec ℕ Global) × (prepared ≡ Join branch assigned) × (assigned.items ≡ assigned_slots t branch)
Prepares t state (ready.Alloc slot len shell) prepared = (words : ℕ) × (prepared ≡ Alloc slot len words shell) × (words ≡ words_taken len)
Prepares t state (ready.Release slot words) prepared = prepared ≡ Release slot words
Prepares t state ready.Dummy prepared = prepared ≡ Dummy
Prepares t state (ready.Fault fault) prepared = prepared ≡ Fault fault
Prepares t state ready.End prepared = prepared ≡ End

-- the frames of `main`, the last one first: its end, and before it its statements, where it has any
abbrev pub AreMainFrames : Table → ℕ → List Frame → Type 0
AreMainFrames t main frames =
    ((p : Program) (g : Func) → IsFunctionOf p t main g → t.main ≡ main
    → AreFrames p t (g ∷ []) (reverse frames) (middles.before_all g.body (middles.answers_main g.ret ∷ [])))
    × (functions_of (Some main) (reverse frames) ≡ Some main ∷ [])

-- a thread that runs `main`, before its first statement
pub record BeginsMain (t : Table) (run : ThreadRun) : Type 0 where
  pub label : run.state.label ≡ []
  pub done : run.state.done ≡ 0
  pub held : words_held run.state ≡ 0
  pub func : run.func ≡ Some t.main
  pub only : functions_of run.func (frames_of run) ≡ run.func ∷ []
  pub goes : (c : Setting) (k : ℕ) → IsSettingOf t k c
      → (g : Func) × IsGoing c t (g ∷ []) run (run_start c (function_of c.program main_name)).frames (root_start c) []
