-- What a caller may use of the ways of threads.
use Rattle.std.specs.Prelude.{◌≡◌, ℕ, ◌+◌, ◌≤◌, false, List, ◌∷◌, ◌++◌, map}
use Rattle.par_tree.specs.Tree.{Name, Func, Program}
use Rattle.thread_state.specs.Passed.States.{Setting, State, Item}
use Rattle.thread_state.specs.Passed.Middle as middles
use Rattle.thread_state.specs.Passed.Middle.{Middle}
use Rattle.thread_output.specs.Passed.Threads.{IsThread}
use Rattle.thread_state.specs.Passed.Names.{slot_names}
use Rattle.thread_state.specs.Passed.Table.{Table}
use Rattle.flat_statements.specs.Passed.Frame.{Frame}
use Rattle.flat_statements.specs.Passed.Frames.{AreFrames}
use Rattle.flat_statements.specs.Passed.Measure.{left_to_do}
use Rattle.thread_state.specs.States.{IsState, own_row, words_held}
use Rattle.thread_state.specs.declared.state.ThreadState.{ThreadState}
use Rattle.thread_output.specs.Telling.{Tells}
use Rattle.thread_output.specs.declared.told.Told.{Told}
use Rattle.flat_statements.specs.Flat.{goes_to}
use Rattle.flat_statements.specs.Threads.{Standing, standing, thread_step, with_turns}
use Rattle.flat_statements.specs.Runs.{IsInState}
use Rattle.flat_statements.specs.Follows.{Steps}
use Rattle.flat_threads.specs.Ways.{how_many, HasSingleBlocks, RowStays}
use Rattle.flat_threads.specs.Along.{ComesAlong, AreMarks, other_frames, DiffersInRow, HasGone}

-- After a step less is left to do, where the frames of the thread are those of a program, with any frames zs after those of its function.
abbrev pub StepsLeaveLess : Type 0
StepsLeaveLess =
    (p : Program) (t : Table) (gs : List Func) (zs : List Frame) (s v : Standing) (own : List middles.Frame) → AreFrames p t gs (s.frames ++ zs) own
    → thread_step t s ≡ goes_to v → left_to_do t v.turns (v.frames ++ zs) + 1 ≤ left_to_do t s.turns (s.frames ++ zs)

-- So each step of a way leaves less, where the thread is at a point of the depth-first run.
abbrev pub WaysLeaveLess : Type 0
WaysLeaveLess =
    (c : Setting) (t : Table) (g : Func) (gs : List Func) (zs : List Frame) (s u : Standing) (way : Steps t s u) (m : Middle)
    → AreFrames c.program t (g ∷ gs) (s.frames ++ zs) m.frames → IsInState (slot_names g) s.row s.turns m.state
    → left_to_do t u.turns (u.frames ++ zs) + how_many way ≤ left_to_do t s.turns (s.frames ++ zs)

-- With more turns a thread goes the same way, and as many more are left at its end.
abbrev pub WaysStayWithMoreTurns : Type 0
WaysStayWithMoreTurns = (t : Table) (more : ℕ) (s u : Standing) → Steps t s u → Steps t (with_turns more s) (with_turns more u)

-- No turn comes back along a way.
abbrev pub WaysTakeTurns : Type 0
WaysTakeTurns = (t : Table) (s u : Standing) → Steps t s u → u.turns ≤ s.turns

-- A way neither lengthens the row nor changes how many words its blocks have: an assignment leaves the blocks, a write their lengths.
abbrev pub RowsStay : Type 0
RowsStay = (t : Table) (s u : Standing) → Steps t s u → HasSingleBlocks s.row → RowStays s.row u.row

-- A way of a thread over slots is one of the thread in the depth-first run, from each of its points at which it has these frames and this row.
abbrev pub ThreadsComeAlong : Type 0
ThreadsComeAlong =
    (c : Setting) (t : Table) (g : Func) (gs : List Func) (zs : List Frame) (s u : Standing) → Steps t s u → (own : List middles.Frame) (at : State)
    → AreFrames c.program t (g ∷ gs) (s.frames ++ zs) own → IsInState (slot_names g) s.row s.turns at → ComesAlong c t (g ∷ gs) zs own at u

-- A thread that is in a state of the depth-first run, and that no fault ended, shows this state by its row and its turns.
abbrev pub ThreadsAreInState : Type 0
ThreadsAreInState =
    (contexts : List (List Name)) (names : List Name) (one : ThreadState) (at : State) → one.faulted ≡ false → IsState (names ∷ contexts) one at
    → IsInState names (own_row one) one.turns at

-- A thread with the row and the turns at the end of a way is in the state there, and has as many words as before.
abbrev pub ThreadsAreInLaterState : Type 0
ThreadsAreInLaterState =
    (c : Setting) (t : Table) (g : Func) (gs : List Func) (zs : List Frame) (own : List middles.Frame) (xs : List Frame) (one other : ThreadState) (at : State)
    → one.faulted ≡ false → DiffersInRow one other → IsState (map slot_names (g ∷ gs)) one at
    → (w : ComesAlong c t (g ∷ gs) zs own at (standing xs (own_row other) other.turns)) → IsState (map slot_names (g ∷ gs)) other w.to

abbrev pub WordsStay : Type 0
WordsStay =
    (t : Table) (xs ys : List Frame) (one other : ThreadState) → DiffersInRow one other
    → Steps t (standing xs (own_row one) one.turns) (standing ys (own_row other) other.turns) → words_held other ≡ words_held one

-- marks leave the lines and the fault of a thread as they are
abbrev pub MarksSayNothing : Type 0
MarksSayNothing = (told : Told) (part new : List Item) → AreMarks new → Tells told part → Tells told (part ++ new)

-- A way leaves the frames that are no statements as they are, with any frames zs after those of the function: the same calls are open.
abbrev pub OtherFramesStay : Type 0
OtherFramesStay =
    (t : Table) (zs : List Frame) (s u : Standing) → Steps t s u → other_frames (u.frames ++ zs) ≡ other_frames (s.frames ++ zs)

-- So a thread goes a way at once: from each of its points at which it has the frames xs, with zs after them, it gets to one at which it has ys in
-- their place, with the row and the turns of the end of the way.
abbrev pub ThreadsGoTheirWays : Type 0
ThreadsGoTheirWays =
    (c : Setting) (t : Table) (g : Func) (gs : List Func) (xs ys zs : List Frame) (one other : ThreadState) (told : Told)
    (own : List middles.Frame) (at : State) (part : List Item) (older : List (List Item))
    → Steps t (standing xs (own_row one) one.turns) (standing ys (own_row other) other.turns)
    → one.faulted ≡ false → DiffersInRow one other → IsThread c own at (part ∷ older) → AreFrames c.program t (g ∷ gs) (xs ++ zs) own
    → IsState (map slot_names (g ∷ gs)) one at → Tells told part
    → HasGone c t (g ∷ gs) ys zs other told own older
