-- What a caller may use: what a thread of an accepted program holds at its points.
use Rattle.std.specs.Prelude.{◌≡◌, ℕ, ◌+◌, ◌≤◌, Bool, true, false, List, [], ◌∷◌, ◌++◌, length, ◌⊎◌, ℤ, Option, Some}
use Rattle.std.specs.Str.{bytes_eq}
use Rattle.depth_first_run.specs.Passed.Tree.{Name, Expr, Arg, Target, Stmt, call_stmt, split_stmt, Body, step, Param, Ret, Func}
use Rattle.depth_first_run.specs.Passed.Ownership.{Ownership, function_of, takes_answer, hands_back}
use Rattle.depth_first_run.specs.Stores.{block_of, block_words}
use Rattle.depth_first_run.specs.States.{Setting, State, Item, holdings}
use Rattle.depth_first_run.specs.Run.{cut_of, cut_block, on_store, run}
use Rattle.depth_first_run.specs.Middle.{Frame, does, statements, answers, rejoins, answers_main, joins}
use Rattle.thread_points.specs.Points.{Each, IsPlain, IsAt, step_of, marked}
use Rattle.thread_points.specs.Threads.{IsThread}
use Rattle.ownership_laws.specs.Counts.{count}
use Rattle.ownership_laws.specs.Holdings.{OneEach, NoneTooLong, taken_under, puts_block, frame_puts, IsOfAllocation, EndsCall, EndsSplit}

-- of each name there is at most one block, in what the thread can reach and in the store of each caller that waits
abbrev pub EachNameHasOneBlock : Type 0
EachNameHasOneBlock = (c : Setting) → Ownership c.program → (own : List Frame) (s : State) → IsAt c own s
    → OneEach s.store × Each OneEach s.callers

-- and none of these blocks has more numbers than a block may have, however often blocks were cut and put together
abbrev pub NoBlockIsTooLong : Type 0
NoBlockIsTooLong = (c : Setting) → Ownership c.program → (own : List Frame) (s : State) → IsAt c own s
    → NoneTooLong s.store × Each NoneTooLong s.callers

-- where a statement begins that puts a block under a name, there is none under it
abbrev pub StatementsPutWhereNoneIs : Type 0
StatementsPutWhereNoneIs = (c : Setting) → Ownership c.program → (line : ℕ) (stmt : Stmt) (rest : Body) (own : List Frame) (s : State)
    → IsAt c (does (statements (step line stmt rest)) ∷ own) s → s.faulted ≡ false → (x : Name) → puts_block x stmt ≡ true
    → count s.store.blocks x ≡ 0

-- a fault ended the thread, or the part of this name has as many numbers
abbrev pub KeepsTheCut : Name → ℕ → State → Type 0
KeepsTheCut l at s = (s.faulted ≡ true) ⊎ (length (block_of s.store.blocks l) ≡ at)

-- the two parts of a `split` have different names
abbrev pub PartsAreApart : Type 0
PartsAreApart = (c : Setting) → Ownership c.program
    → (line : ℕ) (b : Name) (e : Expr) (l r : Name) (a rest : Body) (own : List Frame) (s : State)
    → IsAt c (does (statements (step line (split_stmt b e l r a) rest)) ∷ own) s → s.faulted ≡ false → bytes_eq l r ≡ false

-- the parameters that take a block have different names
abbrev pub ParametersAreApart : Type 0
ParametersAreApart = (c : Setting) → Ownership c.program
    → (line : ℕ) (t : Target) (f : Name) (args : List Arg) (rest : Body) (own : List Frame) (s : State) (g : Func)
    → IsAt c (does (statements (step line (call_stmt t f args) rest)) ∷ own) s → s.faulted ≡ false → function_of c.program f ≡ Some g
    → (x : Name) → taken_under g.params args x ≤ 1

-- an allocation behind its dummies, and the end of a `split`, put their block where none is
abbrev pub FramesPutWhereNoneIs : Type 0
FramesPutWhereNoneIs = (c : Setting) → Ownership c.program → (f : Frame) (own : List Frame) (s : State) → IsAt c (f ∷ own) s
    → s.faulted ≡ false → (x : Name) → frame_puts x f ≡ true → count s.store.blocks x ≡ 0

-- at the end of a call nothing is held but what goes back or is handed out
abbrev pub CallsEndWithWhatGoesBack : Type 0
CallsEndWithWhatGoesBack = (c : Setting) → Ownership c.program
    → (ret : Option Ret) (params : List Param) (args : List Arg) (t : Target) (own : List Frame) (s : State)
    → IsAt c (answers ret params args t ∷ own) s → s.faulted ≡ false → EndsCall ret params args t s

-- at the end of `main` nothing is held
abbrev pub MainEndsWithNothing : Type 0
MainEndsWithNothing = (c : Setting) → Ownership c.program → (ret : Option Ret) (own : List Frame) (s : State)
    → IsAt c (answers_main ret ∷ own) s → s.faulted ≡ false → s.store.blocks ≡ []

-- the body of a `split` leaves the left part as long as it was cut, wherever the block may be cut, or ends by a fault
abbrev pub SplitBodiesKeepTheCut : Type 0
SplitBodiesKeepTheCut = (c : Setting) → Ownership c.program
    → (line : ℕ) (b : Name) (e : Expr) (l r : Name) (a rest : Body) (own : List Frame) (s : State)
    → IsAt c (does (statements (step line (split_stmt b e l r a) rest)) ∷ own) s → s.faulted ≡ false
    → (v : ℤ) (at : ℕ) → cut_of (block_of s.store.blocks b) v ≡ Some at
    → KeepsTheCut l at (run c a (on_store (cut_block b l r at) (marked (does (statements (step line (split_stmt b e l r a) rest))) s)))

-- at the end of a `split` the left part is whole pieces, so the block takes no word more and none less than its two parts
abbrev pub SplitsEndInWholePieces : Type 0
SplitsEndInWholePieces = (c : Setting) → Ownership c.program → (b l r : Name) (own : List Frame) (s : State)
    → IsAt c (rejoins b l r ∷ own) s → s.faulted ≡ false
    → EndsSplit b l r s
    × ((more : ℕ) → block_words (length (block_of s.store.blocks l) + more)
    ≡ block_words (length (block_of s.store.blocks l)) + block_words more)

-- a block that a child brings back meets none under its name
abbrev pub JoinsMeetNone : Type 0
JoinsMeetNone = (c : Setting) → Ownership c.program
    → (assigned : Name → Bool) (child : ℕ) (d : State) (own : List Frame) (s : State)
    → IsAt c (joins assigned child d ∷ own) s → s.faulted ≡ false → d.faulted ≡ false
    → (x : Name) → count s.store.blocks x + count d.store.blocks x ≤ 1

-- the target of a call takes what its function hands back: it is a block exactly where the `return` hands one out
abbrev pub CallsTakeTheirAnswers : Type 0
CallsTakeTheirAnswers = (c : Setting) → Ownership c.program
    → (ret : Option Ret) (params : List Param) (args : List Arg) (t : Target) (own : List Frame) (s : State)
    → IsAt c (answers ret params args t ∷ own) s → takes_answer t (hands_back ret) ≡ true

-- a step that puts plain frames and does no action keeps the words that its thread holds, and ends its work by no fault
abbrev pub QuietStepsKeepTheWords : Type 0
QuietStepsKeepTheWords = (c : Setting) → Ownership c.program → (f : Frame) (own : List Frame) (s : State) → IsAt c (f ∷ own) s
    → IsPlain f → Each IsPlain (step_of c f s).frames → State.done (step_of c f s).state ≡ s.done
    → (State.faulted (step_of c f s).state ≡ s.faulted) × (holdings (step_of c f s).state ≡ holdings s)

-- the dummies of an allocation, and the allocation behind them, are done by a thread that no fault ended
abbrev pub AllocationsRunWithoutFault : Type 0
AllocationsRunWithoutFault = (c : Setting) → Ownership c.program → (f : Frame) (own : List Frame) (s : State) → IsAt c (f ∷ own) s
    → IsOfAllocation f → s.faulted ≡ false

-- so a thread that a fault ended skips its frames up to the next open child, and leaves nothing
abbrev pub FaultedThreadsSkip : Type 0
FaultedThreadsSkip = (c : Setting) → Ownership c.program → (skipped own : List Frame) (s : State) (parts : List (List Item))
    → IsThread c (skipped ++ own) s parts → s.faulted ≡ true → Each IsPlain skipped → IsThread c own s parts
