-- Where a way leads a thread that is at a point of the depth-first run, and what is left as it was.
use Rattle.std.specs.Prelude.{◌≡◌, List, [], ◌∷◌, ◌++◌, map}
use Rattle.par_tree.specs.Tree.{Func}
use Rattle.thread_state.specs.Passed.States.{Setting, State, Item, began, acted, printed, failed}
use Rattle.thread_state.specs.Passed.Middle as middles
use Rattle.thread_output.specs.Passed.Threads.{IsThread, open_children}
use Rattle.thread_state.specs.Passed.Names.{slot_names}
use Rattle.thread_state.specs.Passed.Table.{Table}
use Rattle.flat_statements.specs.Passed.Frame.{Frame}
use Rattle.flat_statements.specs.Passed.FrameVariants.{Statements, Again, Tree, Answers, Rejoins, AnswersMain, Allocates, Joins}
use Rattle.flat_statements.specs.Passed.Frames.{AreFrames, names_now}
use Rattle.thread_state.specs.States.{IsState}
use Rattle.thread_state.specs.declared.state.ThreadState.{ThreadState}
use Rattle.thread_output.specs.Telling.{Tells}
use Rattle.thread_output.specs.declared.told.Told.{Told}
use Rattle.flat_statements.specs.Threads.{Standing}
use Rattle.flat_statements.specs.Runs.{IsInState}

-- marks of lines alone: no action, no number and no fault
abbrev pub AreMarks : List Item → Type 0
AreMarks [] = Unit {0}
AreMarks (began line ∷ items) = AreMarks items
AreMarks (acted action ∷ items) = ⊥
AreMarks (printed v ∷ items) = ⊥
AreMarks (failed fault ∷ items) = ⊥

-- the frames that are neither statements of a list nor a loop that comes again: the ends of calls, and what else a way does not touch
abbrev pub other_frames : List Frame → List Frame
other_frames [] = []
other_frames (Statements list next ∷ xs) = other_frames xs
other_frames (Again n ∷ xs) = other_frames xs
other_frames (Tree shape ∷ xs) = Tree shape ∷ other_frames xs
other_frames (Answers n caller ∷ xs) = Answers n caller ∷ other_frames xs
other_frames (Rejoins n ∷ xs) = Rejoins n ∷ other_frames xs
other_frames (AnswersMain ∷ xs) = AnswersMain ∷ other_frames xs
other_frames (Allocates slot len ∷ xs) = Allocates slot len ∷ other_frames xs
other_frames (Joins branch ∷ xs) = Joins branch ∷ other_frames xs

-- Where the depth-first run comes by a way, from the frames `own` and the state `at`, to the standing u, with the frames zs after those of the
-- function. It is a point of the same thread, with the same open children; nothing but the store and the turns has changed, and nothing but
-- marks of lines was left.
pub record ComesAlong (c : Setting) (t : Table) (gs : List Func) (zs : List Frame) (own : List middles.Frame) (at : State) (u : Standing)
    : Type 0 where
  pub frames : List middles.Frame
  pub to : State
  pub new : List Item
  pub are : AreFrames c.program t gs (u.frames ++ zs) frames
  pub state : IsInState (names_now gs) u.row u.turns to
  pub same : to ≡ record at { store = to.store; turns = to.turns; items = at.items ++ new }
  pub marks : AreMarks new
  pub children : open_children frames ≡ open_children own
  pub thread : (part : List Item) (older : List (List Item)) → IsThread c own at (part ∷ older) → IsThread c frames to ((part ++ new) ∷ older)

-- the second thread has another row of the function that runs, and other turns; all else is the same
pub record DiffersInRow (one other : ThreadState) : Type 0 where
  pub label : other.label ≡ one.label
  pub done_so_far : other.done ≡ one.done
  pub forks : other.forks ≡ one.forks
  pub faulted : other.faulted ≡ one.faulted
  pub callers : other.callers.items ≡ one.callers.items
  pub calls : other.calls ≡ one.calls

-- A thread that has gone a way is at a later point, with the same open children: it has the frames xs, with zs after those of the function, is
-- in the state of that point, and has the lines and the fault of its newest part.
pub record HasGone (c : Setting) (t : Table) (gs : List Func) (xs zs : List Frame) (after : ThreadState) (told : Told)
    (own : List middles.Frame) (older : List (List Item)) : Type 0 where
  pub frames : List middles.Frame
  pub to : State
  pub part : List Item
  pub thread : IsThread c frames to (part ∷ older)
  pub children : open_children frames ≡ open_children own
  pub are : AreFrames c.program t gs (xs ++ zs) frames
  pub state : IsState (map slot_names gs) after to
  pub tells : Tells told part
