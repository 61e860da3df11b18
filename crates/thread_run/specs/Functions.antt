-- The functions in which a thread runs, by their numbers in the node table.
use Rattle.std.specs.Prelude.{ℕ, List, [], ◌∷◌, Option, None, reverse}
use Rattle.thread_stack.specs.declared.branch.Branch.{Branch}
use Rattle.thread_stack.specs.declared.branch.Branch.TheVariants.{Par, Dummies}
use Rattle.thread_stack.specs.declared.frame.Frame.{Frame}
use Rattle.thread_stack.specs.declared.frame.Frame.TheVariants.{Statements, Again, Tree as DummyTree, Answers, Rejoins, AnswersMain, Allocates, Joins}
use Rattle.thread_run.specs.declared.ready.Ready.{Ready}
use Rattle.thread_run.specs.declared.ready.Ready.TheVariants as ready
use Rattle.thread_run.specs.declared.run.ThreadRun.{ThreadRun}

-- the frames of a thread, the next one first
abbrev pub frames_of : ThreadRun → List Frame
frames_of run = reverse run.frames.items

-- the function of a child that is forked in a function: the same one, or none where it runs a tree of dummies
abbrev pub forked_in : Branch → Option ℕ → Option ℕ
forked_in (Par n) func = func
forked_in Dummies func = None

-- The functions, by their numbers, in which the open children of a thread run, the newest first, and then the one in which the thread
-- began. The end of a call brings its caller back.
abbrev pub functions_of : Option ℕ → List Frame → List (Option ℕ)
functions_of func [] = func ∷ []
functions_of func (Statements list next ∷ xs) = functions_of func xs
functions_of func (Again n ∷ xs) = functions_of func xs
functions_of func (DummyTree shape ∷ xs) = functions_of func xs
functions_of func (Answers n caller ∷ xs) = functions_of caller xs
functions_of func (Rejoins n ∷ xs) = functions_of func xs
functions_of func (AnswersMain ∷ xs) = functions_of func xs
functions_of func (Allocates slot len ∷ xs) = functions_of func xs
functions_of func (Joins branch ∷ xs) = forked_in branch func ∷ functions_of func xs

-- a Join that comes next is the frame of its child; any other action has taken its frame off
abbrev pub frames_before : Ready → List Frame → List Frame
frames_before (ready.Join branch) xs = Joins branch ∷ xs
frames_before (ready.Fork forking) xs = xs
frames_before (ready.Alloc slot len shell) xs = xs
frames_before (ready.Release slot words) xs = xs
frames_before ready.Dummy xs = xs
frames_before (ready.Fault fault) xs = xs
frames_before ready.End xs = xs
