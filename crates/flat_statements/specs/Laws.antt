-- What a caller may use of flat code.
use Rattle.std.specs.Prelude.{◌≡◌, ℕ, suc, ◌+◌, List, [], ◌∷◌, ◌++◌}
use Rattle.flat_expressions.specs.Passed.Tree.{Func}
use Rattle.thread_stack.specs.Passed.States.{Setting, State}
use Rattle.thread_stack.specs.Passed.Middle as middles
use Rattle.thread_stack.specs.Passed.Middle.{Middle, step_frame}
use Rattle.thread_stack.specs.Passed.Names.{slot_names}
use Rattle.thread_stack.specs.Passed.Table.{Table}
use Rattle.flat_expressions.specs.Passed.Rows.{Entry}
use Rattle.thread_stack.specs.declared.frame.Frame.{Frame}
use Rattle.thread_stack.specs.declared.frame.Frame.TheVariants.{Statements}
use Rattle.thread_stack.specs.declared.list_of.ListOf.{ListOf}
use Rattle.thread_stack.specs.Lists.{kind_at, numbers_from}
use Rattle.thread_stack.specs.Frames.{AreFrames}
use Rattle.flat_statements.specs.Flat.{FlatCode, frames_at, Point, IsEnd, flat_step, Runs}
use Rattle.flat_statements.specs.Threads.{Standing, standing, rest_of, thread_step, with_behind, with_turns, IsStepWithMore}
use Rattle.flat_statements.specs.Codes.{IsByItself, IsWholeCode}
use Rattle.flat_statements.specs.Runs.{IsInState, IsStepOf, IsWayOf}
use Rattle.flat_statements.specs.Follows.{Reaches, IsCodeOf, StandsFor, Follows, Steps, EndsWithin}

-- where the machine represents a thread, the mark of its place is the frames of the thread
abbrev pub MarksAreFrames : Type 0
MarksAreFrames =
    (t : Table) (f : FlatCode) (k size : ℕ) (p : Point) (s : Standing) → StandsFor t f k size p s → frames_at f p.place ≡ s.frames

-- it follows each step of the thread
abbrev pub MachineFollowsTheThread : Type 0
MachineFollowsTheThread =
    (t : Table) (f : FlatCode) (k size : ℕ) (p : Point) (s : Standing) → StandsFor t f k size p s → Follows t f k size p s (thread_step t s)

-- where it has gone on until it stopped, so has the thread
abbrev pub MachineEndsWithTheThread : Type 0
MachineEndsWithTheThread =
    (t : Table) (f : FlatCode) (k size : ℕ) (p q : Point) (s : Standing) → StandsFor t f k size p s → Runs f p q → IsEnd (flat_step f q)
    → EndsWithin t f k size q s

-- the code of a whole list begins with the code of the frames with which a thread begins the list
abbrev pub WholeListsAreCode : Type 0
WholeListsAreCode =
    (t : Table) (f : FlatCode) (k size : ℕ) (list : ListOf) (place : ℕ) → IsWholeCode t f k size list place
    → Reaches f (rest_of (numbers_from t list 0) list 0 []) (IsCodeOf t f k size (rest_of (numbers_from t list 0) list 0 [])) place

-- after a statement that the thread does by itself there is, at the next place, the code of what is left after it
abbrev pub CodeGoesOn : Type 0
CodeGoesOn =
    (t : Table) (f : FlatCode) (k size place : ℕ) (list : ListOf) (next n : ℕ) (ns : List ℕ) (xs : List Frame)
    → IsCodeOf t f k size (Statements list next ∷ xs) place → numbers_from t list next ≡ n ∷ ns → IsByItself (kind_at t n)
    → Reaches f (rest_of ns list (next + 1) xs) (IsCodeOf t f k size (rest_of ns list (next + 1) xs)) (suc place)

-- a step of a thread leaves the frames after its function as they are
abbrev pub FramesBehindStay : Type 0
FramesBehindStay =
    (t : Table) (zs : List Frame) (row : List Entry) (x : Frame) (xs : List Frame) (turns : ℕ)
    → thread_step t (standing (x ∷ (xs ++ zs)) row turns) ≡ with_behind zs (thread_step t (standing (x ∷ xs) row turns))

-- each step of a thread over slots is the step of the depth-first run
abbrev pub ThreadStepsAreOfTheRun : Type 0
ThreadStepsAreOfTheRun =
    (c : Setting) (t : Table) (g : Func) (gs : List Func) (s : Standing) (f : middles.Frame) (fs : List middles.Frame) (at : State)
    → AreFrames c.program t (g ∷ gs) s.frames (f ∷ fs) → IsInState (slot_names g) s.row s.turns at
    → IsStepOf c t (g ∷ gs) at (step_frame c f fs at) (thread_step t s)

-- so many steps of a thread are as many steps of the depth-first run, which do no action
abbrev pub ThreadWaysAreOfTheRun : Type 0
ThreadWaysAreOfTheRun =
    (c : Setting) (t : Table) (g : Func) (gs : List Func) (zs : List Frame) (s u : Standing) → Steps t s u → (m : Middle)
    → AreFrames c.program t (g ∷ gs) (s.frames ++ zs) m.frames → IsInState (slot_names g) s.row s.turns m.state
    → IsWayOf c t (g ∷ gs) zs m u

-- A step of a thread that has more turns is the same, unless there is no turn without them.
abbrev pub TurnsStay : Type 0
TurnsStay = (t : Table) (more : ℕ) (s : Standing) → IsStepWithMore more (thread_step t s) (thread_step t (with_turns more s))
