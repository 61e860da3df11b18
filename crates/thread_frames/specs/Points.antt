-- Where a thread is in the one depth-first run of the program that a table is of.
use Rattle.std.specs.Prelude.{◌≡◌, ℕ, List, [], ◌∷◌, ◌++◌, map, reverse, Option, Some, None}
use Rattle.dag_order.specs.LabelOrder.{fork_of}
use Rattle.depth_first_list.specs.Actions.{record_words}
use Rattle.thread_run.specs.Passed.Tree.{Func}
use Rattle.thread_state.specs.Passed.States.{Setting, State, Item, ended}
use Rattle.thread_state.specs.Passed.Middle as middles
use Rattle.node_table.specs.Table.{Table}
use Rattle.thread_run.specs.Passed.Points.{words_at_end}
use Rattle.thread_run.specs.Passed.Threads as threads
use Rattle.thread_run.specs.Passed.Threads.{IsThread, open_children}
use Rattle.thread_stack.specs.declared.frame.Frame.{Frame}
use Rattle.thread_stack.specs.declared.frame.Frame.TheVariants.{Joins}
use Rattle.block_arena.specs.Size.{words_taken}
use Rattle.block_arena.specs.declared.record_block.RecordBlock.{RecordBlock}
use Rattle.thread_frames.specs.Memory.{RoomFits}
use Rattle.thread_frames.specs.Slots.{taken_slots, assigned_slots}
use Rattle.thread_output.specs.Telling.{Tells}
use Rattle.thread_state.specs.Settings.{IsSettingOf}
use Rattle.thread_run.specs.Stands.{InState}
use Rattle.thread_run.specs.declared.ready.Ready.TheVariants as ready
use Rattle.thread_stack.specs.Frames.{RunsIn}
use Rattle.thread_run.specs.Functions.{frames_of, functions_of}
use Rattle.thread_run.specs.Going.{IsGoing, IsBefore}
use Rattle.thread_run.specs.declared.run.ThreadRun.{ThreadRun}
use Rattle.thread_frames.specs.Views.{recorded, ended_label}
use Rattle.thread_frames.specs.declared.prepared.Prepared.{Prepared}
use Rattle.thread_frames.specs.declared.prepared.Prepared.TheVariants.{Nothing, Fork, Join, Alloc, Release, Dummy, Fault, End}
use Rattle.thread_frames.specs.declared.ended.Ended.{Ended}
use Rattle.thread_frames.specs.declared.open_child.OpenChild.{OpenChild}
use Rattle.thread_frames.specs.declared.thread.Thread.{Thread}

-- A thread with this label has ended, and this is its result: the state that it comes to with its End, by the names of the function in
-- which it began, and what is told of the items that it left.
pub record IsEndOf (c : Setting) (t : Table) (label : List ℕ) (func : Option ℕ) (result : Ended) : Type 0 where
  pub function : Func
  pub last : State
  pub items : List Item
  pub thread : IsThread c [] last (items ∷ [])
  pub labelled : last.label ≡ label
  pub same_func : result.func ≡ func
  pub runs : RunsIn c.program t func (function ∷ [])
  pub state : InState (function ∷ []) result.state (ended record_words last)
  pub tells : Tells result.told items

-- an open child, with the items that its parent left before its Fork; a result that is there is that of its label and function
abbrev pub IsDelivered : Setting → Table → (label : List ℕ) → (func : Option ℕ) → Option Ended → Type 0
IsDelivered c t label func None = Unit {0}
IsDelivered c t label func (Some result) = IsEndOf c t label func result

pub record IsChild (c : Setting) (t : Table) (label : List ℕ) (o : threads.OpenChild) (before : List Item) (child : OpenChild)
    : Type 0 where
  pub ordinal : child.ordinal ≡ o.ordinal
  pub tells : Tells child.before before
  pub result : IsDelivered c t (fork_of label o.ordinal) child.func child.ended

-- the open children of a thread with this label, the newest first
abbrev pub AreChildren : Setting → Table → List ℕ → List threads.OpenChild → List (List Item) → List OpenChild → Type 0
AreChildren c t label [] [] [] = Unit {0}
AreChildren c t label [] [] (x ∷ xs) = ⊥
AreChildren c t label [] (before ∷ older) xs = ⊥
AreChildren c t label (o ∷ os) [] xs = ⊥
AreChildren c t label (o ∷ os) (before ∷ older) [] = ⊥
AreChildren c t label (o ∷ os) (before ∷ older) (x ∷ xs) = IsChild c t label o before x × AreChildren c t label os older xs

-- A thread goes on with its frames; or it stands before the action that is prepared, with the memory that this needs.
abbrev pub Stands : Setting → Table → List Func → ThreadRun → Prepared → List middles.Frame → State → List Item → Type 0
Stands c t gs run Nothing own s part = IsGoing c t gs run own s part
Stands c t gs run (Fork forking room) own s part =
    IsBefore c t gs run (ready.Fork forking) own s part × (room.named.items ≡ taken_slots t forking.branch)
    × RoomFits run.state forking.branch room.room
Stands c t gs run (Join branch assigned) own s part =
    IsBefore c t gs run (ready.Join branch) own s part × (assigned.items ≡ assigned_slots t branch)
Stands c t gs run (Alloc slot len words shell) own s part =
    IsBefore c t gs run (ready.Alloc slot len shell) own s part × (words ≡ words_taken len)
Stands c t gs run (Release slot words) own s part = IsBefore c t gs run (ready.Release slot words) own s part
Stands c t gs run Dummy own s part = IsBefore c t gs run ready.Dummy own s part
Stands c t gs run (Fault fault) own s part = IsBefore c t gs run (ready.Fault fault) own s part
Stands c t gs run End own s part = IsBefore c t gs run ready.End own s part

-- its frames, with that of a Join that comes next
abbrev pub frames_left : Prepared → List Frame → List Frame
frames_left (Join branch assigned) xs = Joins branch ∷ xs
frames_left other xs = xs

abbrev pub function_of_child : OpenChild → Option ℕ
function_of_child child = child.func

-- A thread is at a point of the run of a program: where it stands, what it left since its newest open fork and before each older one, its
-- open children, the functions in which they run, and its record block, which the root alone does not have.
pub record At (c : Setting) (t : Table) (func : Option ℕ) (run : ThreadRun) (open_ones : List OpenChild) (block : Option RecordBlock)
    (prepared : Prepared) : Type 0 where
  pub functions : List Func
  pub own : List middles.Frame
  pub at : State
  pub part : List Item
  pub older : List (List Item)
  pub point : IsThread c own at (part ∷ older)
  pub stands : Stands c t functions run prepared own at part
  pub children : AreChildren c t at.label (open_children own) older (reverse open_ones)
  pub run_in : functions_of run.func (frames_left prepared (frames_of run)) ≡ map function_of_child (reverse open_ones) ++ func ∷ []
  pub record_block : recorded block ≡ words_at_end at.label

abbrev pub IsThreadAt : Setting → Table → Thread → Type 0
IsThreadAt c t thread = At c t thread.func thread.run thread.children.items thread.record_block thread.prepared

-- the table is that of some program, which is run with this quota
abbrev pub IsOfProgram : Table → ℕ → Type 0
IsOfProgram t k = ∥ ((c : Setting) × IsSettingOf t k c) ∥₁

-- a thread is at its point, whichever program it is that the table is of
pub record IsAtPoint (t : Table) (k : ℕ) (thread : Thread) : Type 0 where
  pub of_program : IsOfProgram t k
  pub at : (c : Setting) → IsSettingOf t k c → ∥ IsThreadAt c t thread ∥₁

-- a thread has ended with this result
pub record IsResult (t : Table) (k : ℕ) (result : Ended) : Type 0 where
  pub of_program : IsOfProgram t k
  pub at : (c : Setting) → IsSettingOf t k c → ∥ IsEndOf c t (ended_label result) result.func result ∥₁

-- a thread is at its point in the run of some program
abbrev pub IsPlaced : Thread → Type 0
IsPlaced thread = ∥ ((t : Table) × (k : ℕ) × IsAtPoint t k thread) ∥₁
